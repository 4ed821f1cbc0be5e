-- A join of readers is right of their texts.
use Rattle.std.proofs.Common.{◌≡◌, ℕ, ◌<◌, Bool, true, List, ◌∷◌, ◌++◌, length, Option, refl, sym, subst, ◌∙◌, arith}
use Rattle.std.specs.Prelude.{Any, Result, Ok, Err}
use Rattle.std.specs.Io.KnownBytes.{Keeps}
use Rattle.std.proofs.lemmas.Grind.{common_steps}
use Rattle.std.proofs.lemmas.List.{get_or_at}
use Rattle.cwr_devices.specs.Format.Failures.{one_more_failure}
use Rattle.cwr_shape.specs.declared.limits.Limits.{Limits}
use Rattle.cwr_values.specs.Format.Rows.{canonical_text}
use Rattle.cwr_tools.specs.declared.verdicts.JoinFault.{JoinFault}
use Rattle.cwr_tools.specs.declared.verdicts.JoinReport.{JoinReport}
use Rattle.cwr_tools.specs.declared.verdicts.ToolFault.{ToolFault}
use Rattle.cwr_parts.specs.Format.Joins.{CountsInputFault, JoinsAccepted}
use Rattle.cwr_parts.specs.Format.Told.{JoinsSoFar, JoinsTexts}
use Rattle.cwr_endings.proofs.lemmas.Outs.{kept_whole}
use Rattle.cwr_transform.specs.Steps.Joins.{JoinsReaders}

any_at : {X : Type 0} (P : X → Type 0) (xs : List X) (y : X) (ys : List X) → P y → Any P (xs ++ y ∷ ys)
any_at P xs y ys h = (length xs, y, grind (arith, common_steps), get_or_at xs y ys y (length xs) refl, h)

failed_one : (failures before : ℕ) → failures ≡ one_more_failure before → 0 < failures
failed_one failures before e = omega (arith, e)

pub readers_joined : {R W : Type 0} (limits : Limits) (remaining : R → Option (List ℕ)) (failures : R → ℕ) (olds news : List R)
    (contents : W → Option (List ℕ)) (old new : W) (outcome : Result JoinReport JoinFault) (first final : Option (List ℕ)) (took_all : Bool)
    → JoinsTexts limits remaining failures contents olds news old new outcome → JoinsAccepted limits remaining contents olds old new outcome
    → contents old ≡ first → (took_all ≡ true → Keeps (contents new) final)
    → JoinsReaders limits remaining failures olds news first final took_all outcome
readers_joined limits remaining failures olds news contents old new (Ok report) first final took_all told accepted is keeps = record {
  inputs = told.inputs;
  taken = told.taken;
  joined = told.joined;
  joined_of = told.joined_of;
  within = told.within;
  written = λ all empty. kept_whole (contents old) (contents new) final (canonical_text told.joined) (is ∙ empty) told.written (keeps all);
}
readers_joined {R = R} limits remaining failures olds news contents old new (Err stopped) first final took_all told accepted is keeps = record {
  right = λ inputs joined have of fits. accepted inputs joined have of fits;
  failed = λ e. subst (λ (l : List R). Any (λ reader. 0 < failures reader) l) (sym told.after_are)
      (any_at (λ reader. 0 < failures reader) told.finished told.left told.later
      (failed_one (failures told.left) (failures told.hand)
      (subst (λ (f : ToolFault). CountsInputFault f (failures told.hand) (failures told.left)) e told.counts)));
  unmade = λ e. subst
      (λ (f : ToolFault). JoinsSoFar limits f contents told.inputs (remaining told.hand) (remaining told.left) told.later old new) e
      told.stops;
}

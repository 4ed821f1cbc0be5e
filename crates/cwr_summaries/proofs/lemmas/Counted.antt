-- What was counted of an input, whether its row was written or not.
use Rattle.std.proofs.Common.{◌≡◌, ℕ, Bool, List, [], ◌∷◌, map, Option, Some, None, Bor, refl, sym, subst, length, arith, ◌≤◌}
use Rattle.std.specs.Prelude.{IfOk, IfSome, OnOk, Result, Ok, Err}
use Rattle.cwr_shape.specs.declared.limits.Limits.{Limits}
use Rattle.cwr_tools.specs.declared.verdicts.Verdict.{Verdict}
use Rattle.cwr_tools.specs.declared.verdicts.ToolFault.{ToolFault}
use Rattle.cwr_files.specs.Format.Faults.{IfErr}
use Rattle.cwr_files.specs.Format.Files.{Texts}
use Rattle.cwr_endings.specs.declared.endings.Look.{Look}
use Rattle.cwr_endings.specs.declared.endings.Status.{Status}
use Rattle.cwr_endings.specs.declared.endings.Wanted.{Wanted}
use Rattle.cwr_endings.specs.declared.judgements.Judgement.{Judgement}
use Rattle.cwr_endings.specs.declared.stops.Stop.{Stop}
use Rattle.cwr_endings.specs.declared.stops.Stop.TheVariants as stops
use Rattle.cwr_endings.specs.Steps.Looks.{judged_with, judgement_in, status_in}
use Rattle.cwr_answers.specs.Steps.Reading.{CountsOne, IsOneMore, IsUntold}
use Rattle.cwr_summaries.specs.Format.Summed.{summed}

pub counts_told : (limits : Limits) (whole : Bool) (held : Option Texts) (standard : Option (List ℕ)) (name : List ℕ) (before now : Status)
    (told : Result (Unit {0}) Stop) → IfErr told IsUntold → IsOneMore limits whole held standard name before now
    → CountsOne limits whole held standard name before now told
counts_told limits whole held standard name before now (Ok u) h one = one
counts_told limits whole held standard name before now (Err stop) h one = h

-- standard output failed
pub untold : {A : Type 0} (told : Result A Stop) → IfErr told (λ stop. stop ≡ stops.Output) → IfErr told IsUntold
untold (Ok u) h = tt
untold (Err stop) h = subst IsUntold (sym h) tt

pub at_some : {A : Type 0} (P : A → Type 0) (o : Option A) (x : A) → o ≡ Some x → IfSome o P → P x
at_some {A = A} P o x e h = subst (λ (p : Option A). IfSome p P) e h

pub same_some : {A : Type 0} (P : A → Type 0) (o p : Option A) → o ≡ p → IfSome p P → IfSome o P
same_some {A = A} P o p e h = subst (λ (q : Option A). IfSome q P) (sym e) h

pub on_ok : {A E : Type 0} (P Q : Type 0) (r : Result A E) → (P → Q) → OnOk r P → OnOk r Q
on_ok P Q (Ok x) f h = f h
on_ok P Q (Err e) f h = tt

-- what is named is summed up
pub summed_named : (names : List (Bor (List ℕ))) → 1 ≤ length names → map (λ n. n.now) names ≡ summed (map (λ n. n.now) names)
summed_named [] some = absurd (omega (arith, some))
summed_named (name ∷ names) some = refl

-- what each has in place of another
pub ok_map : {A E : Type 0} (P Q : A → Type 0) (r : Result A E) → ((x : A) → P x → Q x) → IfOk r P → IfOk r Q
ok_map P Q (Ok x) f h = f x h
ok_map P Q (Err e) f h = tt

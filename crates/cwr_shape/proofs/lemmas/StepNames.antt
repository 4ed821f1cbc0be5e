-- The step of a transaction is the one that its records name.
use Rattle.std.proofs.Common.{◌≡◌, true, List, [], ◌∷◌, ◌++◌, Some, sym, ap, ◌∙◌, true≢false, append_assoc, append-nil, lit<}
use Rattle.std.specs.Option.{option_and_then}
use Rattle.cwr_fields.specs.declared.codes.TransactionType.{TransactionType}
use Rattle.cwr_fields.specs.declared.kinds.Kind.TheVariants as kinds
use Rattle.cwr_shape.specs.declared.symbols.Symbol.{Symbol}
use Rattle.cwr_shape.specs.declared.symbols.Symbol.TheVariants.{Plain}
use Rattle.cwr_shape.specs.declared.stages.Stage.{Stage}
use Rattle.cwr_shape.specs.declared.stages.Stage.TheVariants as stages
use Rattle.cwr_shape.specs.declared.stages.TransactionStep.{TransactionStep}
use Rattle.cwr_shape.specs.declared.stages.TransactionStep.TheVariants as steps
use Rattle.cwr_shape.specs.Format.Outlines.{GroupOutline, Continues, symbols_of}
use Rattle.cwr_shape.specs.Steps.Stages.{stage_after}
use Rattle.cwr_shape.specs.Steps.NextStages.{header_step, step_on, within, on_or_next, next_stage}
use Rattle.cwr_shape.specs.Format.AnyTransmission.{Any}
use Rattle.cwr_shape.specs.Steps.Left.{StandsAt, ContinuesIn, in_group, is_inside}
use Rattle.cwr_shape.proofs.lemmas.StageRuns.{run}
use Rattle.cwr_shape.proofs.lemmas.StageNames.{run_names}
use Rattle.cwr_shape.proofs.lemmas.StageStands.{next_stands}

-- the table goes through both headers, and on by a record after them
run_in_group : (ty : TransactionType) (s : Symbol) (to : Stage) → next_stage (stages.Within ty steps.InGroup) s ≡ Some to
    → run stages.Start (in_group ty (s ∷ [])) ≡ Some to
unfolding run
run_in_group ty s to e = ap (option_and_then (λ t. run t [])) e

-- the first record of a transaction names its step
pub first_named : (ty : TransactionType) (s : Symbol) (to : TransactionStep) → header_step ty s ≡ Some to
    → stages.Within ty to ≡ stage_after (in_group ty (s ∷ []))
first_named ty s to e =
    run_names (in_group ty (s ∷ [])) (stages.Within ty to) (run_in_group ty s (stages.Within ty to) (ap (within ty) e))

-- the transmission of one transaction
abbrev only_one : TransactionType → List Symbol → List GroupOutline
only_one ty t = record { ty = ty; transactions = t ∷ [] } ∷ []

symbols_of-only_one : (ty : TransactionType) (t : List Symbol)
    → symbols_of (only_one ty t) ≡ in_group ty (t ++ Plain kinds.Grt ∷ Plain kinds.Trl ∷ [])
symbols_of-only_one ty t =
    ap (in_group ty) (ap (λ (x : List Symbol). x ++ Plain kinds.Trl ∷ []) (append-nil ((t ++ []) ++ Plain kinds.Grt ∷ []))
    ∙ append_assoc (t ++ []) (Plain kinds.Grt ∷ []) (Plain kinds.Trl ∷ [])
    ∙ ap (λ (x : List Symbol). x ++ Plain kinds.Grt ∷ Plain kinds.Trl ∷ []) (append-nil t))

-- what begins a transaction begins a transmission after the headers
goes_in_group : (ty : TransactionType) (xs : List Symbol) → ContinuesIn ty xs → Continues Any (in_group ty xs)
goes_in_group ty xs g = (
  only_one ty (xs ++ g.0),
  (lit< tt, ((lit< tt, (g.1, tt)), tt)),
  tt,
  (
    g.0 ++ Plain kinds.Grt ∷ Plain kinds.Trl ∷ [],
    symbols_of-only_one ty (xs ++ g.0)
        ∙ ap (in_group ty) (append_assoc xs g.0 (Plain kinds.Grt ∷ Plain kinds.Trl ∷ [])),
  ),
)

-- a record of the open transaction is the table's next stage
next_on : (ty : TransactionType) (step : TransactionStep) (s : Symbol) (to : TransactionStep) → is_inside step ≡ true
    → step_on step s ≡ Some to → next_stage (stages.Within ty step) s ≡ Some (stages.Within ty to)
next_on ty steps.InGroup s to inside e = absurd (true≢false (sym inside))
next_on ty steps.Acked s to inside e = ap (λ o. on_or_next ty o s) e
next_on ty steps.Agreed s to inside e = ap (within ty) e
next_on ty steps.Territories s to inside e = ap (within ty) e
next_on ty (steps.OneSide side) s to inside e = ap (within ty) e
next_on ty steps.Both s to inside e = ap (λ o. on_or_next ty o s) e
next_on ty steps.Work s to inside e = ap (within ty) e
next_on ty steps.Controlled s to inside e = ap (within ty) e
next_on ty steps.Other s to inside e = ap (within ty) e
next_on ty steps.Writer s to inside e = ap (λ o. on_or_next ty o s) e
next_on ty steps.OtherWriter s to inside e = ap (λ o. on_or_next ty o s) e
next_on ty steps.Tail s to inside e = ap (λ o. on_or_next ty o s) e

-- and one more names the next
pub on_named : (ty : TransactionType) (xs : List Symbol) (step : TransactionStep) (s : Symbol) (to : TransactionStep)
    → ContinuesIn ty xs → stages.Within ty step ≡ stage_after (in_group ty xs) → is_inside step ≡ true
    → step_on step s ≡ Some to → stages.Within ty to ≡ stage_after (in_group ty (xs ++ s ∷ []))
on_named ty xs step s to g named inside e =
    let at : StandsAt (in_group ty xs) (stages.Within ty step) = record { begins = goes_in_group ty xs g; named = named } in
    (next_stands (in_group ty xs) (stages.Within ty step) s (Some (stages.Within ty to)) (sym (next_on ty step s to inside e))
    at).named

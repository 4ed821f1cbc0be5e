use Rattle.std.proofs.Common.{List, ◌++◌, ◌+◌, ◌≤◌, sym, subst}
use Rattle.cwr_shape.specs.declared.symbols.Symbol.{Symbol}
use Rattle.cwr_shape.specs.declared.stages.Stage.TheVariants.{Within}
use Rattle.cwr_shape.specs.declared.tallies.Counts.{Counts}
use Rattle.cwr_shape.specs.Steps.Tallies.{IsTallyOf, KeepsTally, MayComeWhole, TallyValue}
use Rattle.cwr_shape.proofs.lemmas.WholeSteps.{keeps_whole, stands_over}
use Rattle.cwr_shape.proofs.tallies.Tally.step_over.Goals as goal

pub invariant_of-self : goal.invariant_of-self
invariant_of-self c =
    let before : TallyValue =
    record { limits = c.self.inside.limits; stage = c.self.inside.stage; counts = c.self.inside.counts } in
    let came =
    subst (λ (t : TallyValue). (xs whole : List Symbol) × IsTallyOf t xs
    × MayComeWhole t c.args.ty c.args.records c.args.step xs whole) (sym c.self.view_is) c.requires.may_come in
    let fits =
    subst (λ (t : TallyValue). t.counts.records + c.args.records ≤ t.limits.records) (sym c.self.view_is) c.requires.fits in
    subst
    (λ (n : Counts). KeepsTally (record { limits = c.self.inside.limits; stage = Within c.args.ty c.args.step; counts = n }))
    (sym c.with_transaction-self-inside.ensures)
    (keeps_whole before c.args.ty c.args.records c.args.step c.self.invariant came fits)

pub returns-clause-stands : goal.returns-clause-stands
returns-clause-stands c =
    let before : TallyValue =
    record { limits = c.self.inside.limits; stage = c.self.inside.stage; counts = c.self.inside.counts } in
    λ xs whole st m. subst
    (λ (n : Counts). IsTallyOf (record { limits = c.self.inside.limits; stage = Within c.args.ty c.args.step; counts = n })
    (xs ++ whole))
    (sym c.with_transaction-self-inside.ensures)
    (stands_over before c.args.ty c.args.records c.args.step xs whole
    (subst (λ (t : TallyValue). IsTallyOf t xs) (sym c.self.view_is) st)
    (subst (λ (t : TallyValue). MayComeWhole t c.args.ty c.args.records c.args.step xs whole) (sym c.self.view_is) m))

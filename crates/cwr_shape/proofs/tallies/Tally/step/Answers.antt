use Rattle.std.proofs.Common.{List, [], ◌∷◌, ◌++◌, sym, ap, subst, ◌∙◌, true≢false}
use Rattle.std.specs.Prelude.{is_some}
use Rattle.cwr_fields.specs.declared.codes.TransactionType.{TransactionType}
use Rattle.cwr_shape.specs.declared.symbols.Symbol.{Symbol}
use Rattle.cwr_shape.specs.Steps.Tallies.{TallyValue, IsTallyOf, IsAdmitted}
use Rattle.cwr_shape.specs.Steps.Counting.{counts_with}
use Rattle.cwr_shape.proofs.lemmas.TallyWithOneMore.{keeps_tally, stands_more, admitted_goes}
use Rattle.cwr_shape.proofs.tallies.Tally.step.Goals as goal

pub invariant_of-self : goal.invariant_of-self
invariant_of-self c =
    let before : TallyValue =
    record { limits = c.self.inside.limits; stage = c.self.inside.stage; counts = c.self.inside.counts } in
    keeps_tally before c.args.symbol c.in-Some.stage c.with-self-inside.result c.self.invariant
    (subst (λ (t : TallyValue). IsAdmitted t c.args.symbol) (sym c.self.view_is) c.requires)
    (λ xs st. c.in-Some.ensures.value xs st) (c.with-self-inside.ensures
    ∙ ap (λ (ty : TransactionType). counts_with ty c.self.inside.counts c.args.symbol) c.type_at.ensures)

pub returns-in-Some-clause-stands : goal.returns-in-Some-clause-stands
returns-in-Some-clause-stands c =
    let before : TallyValue =
    record { limits = c.self.inside.limits; stage = c.self.inside.stage; counts = c.self.inside.counts } in
    let next : TallyValue =
    record { limits = c.self.inside.limits; stage = c.in-Some.stage; counts = c.with-self-inside.result } in
    subst (λ (t : TallyValue). (xs : List Symbol) → IsTallyOf t xs → IsTallyOf next (xs ++ c.args.symbol ∷ [])) c.self.view_is
    (stands_more before c.args.symbol c.in-Some.stage c.with-self-inside.result c.self.invariant.counts.in_range.least_transaction
    (subst (λ (t : TallyValue). IsAdmitted t c.args.symbol) (sym c.self.view_is) c.requires)
    (λ xs st. c.in-Some.ensures.value xs st)
    (c.with-self-inside.ensures
    ∙ ap (λ (ty : TransactionType). counts_with ty c.self.inside.counts c.args.symbol) c.type_at.ensures))

pub returns-in_default-clause-stands : goal.returns-in_default-clause-stands
returns-in_default-clause-stands c =
    let before : TallyValue =
    record { limits = c.self.inside.limits; stage = c.self.inside.stage; counts = c.self.inside.counts } in
    let a =
    admitted_goes before c.args.symbol
    (subst (λ (t : TallyValue). IsAdmitted t c.args.symbol) (sym c.self.view_is) c.requires) in
    absurd (true≢false (sym ((c.next.ensures.some a.0 a.1).1 a.2) ∙ ap is_some c.in_default.is))

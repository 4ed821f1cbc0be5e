use Rattle.std.proofs.Common.{List, Some, sym, ap, subst, ◌∙◌}
use Rattle.cwr_fields.specs.declared.codes.TransactionType.{TransactionType}
use Rattle.cwr_shape.specs.declared.symbols.Symbol.{Symbol}
use Rattle.cwr_shape.specs.Format.Numbers.{number_in, IsNumberAt}
use Rattle.cwr_shape.specs.Steps.Tallies.{TallyValue, IsTallyOf}
use Rattle.cwr_shape.specs.Format.ExpectedNumbers.{expected_numbers}
use Rattle.cwr_shape.proofs.lemmas.TallySteps.{expects_numbers}
use Rattle.cwr_shape.proofs.tallies.Tally.expects.Goals as goal

pub returns-in_err-number : goal.returns-in_err-number
returns-in_err-number c =
    subst (λ (t : TallyValue). (xs : List Symbol) → IsTallyOf t xs → IsNumberAt xs c.args.kind c.args.j c.from_residual.result)
    c.self.view_is
    (λ xs st. expects_numbers
    (record { limits = c.self.inside.limits; stage = c.self.inside.stage; counts = c.self.inside.counts }) xs c.args.kind
    c.args.j c.from_residual.result st
    (c.from_residual.ensures ∙ sym c.in_err-number.was ∙ c.number.ensures ∙ ap
    (λ (ty : TransactionType). number_in c.args.kind c.args.j (expected_numbers ty c.self.inside.counts c.args.kind))
    c.type_at.ensures))

pub returns : goal.returns
returns c =
    subst (λ (t : TallyValue). (xs : List Symbol) → IsTallyOf t xs → IsNumberAt xs c.args.kind c.args.j (Some c.from.result))
    c.self.view_is
    (λ xs st. expects_numbers
    (record { limits = c.self.inside.limits; stage = c.self.inside.stage; counts = c.self.inside.counts }) xs c.args.kind
    c.args.j (Some c.from.result) st
    (ap Some c.from.ensures ∙ sym c.in_ok-number.was ∙ c.number.ensures ∙ ap
    (λ (ty : TransactionType). number_in c.args.kind c.args.j (expected_numbers ty c.self.inside.counts c.args.kind))
    c.type_at.ensures))

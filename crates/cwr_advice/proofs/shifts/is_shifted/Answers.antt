use Rattle.std.proofs.Common.{◌≤◌, length, sym, ap, arith}
use Rattle.cwr_fields.specs.Format.Layouts.{layout}
use Rattle.cwr_advice.proofs.lemmas.LastFields.{last_ends}
use Rattle.cwr_advice.proofs.shifts.is_shifted.Goals as goal

pub returns-then-field-fields : goal.returns-then-field-fields
returns-then-field-fields c =
    let end : length (layout c.args.shown.now.kind) ≤ c.args.field =
    omega (arith, c.if-field-fields.true, c.fields.ensures, ap (λ k. length (layout k)) c.kind.ensures.value) in
    sym (last_ends c.args.shown.now c.args.field end)

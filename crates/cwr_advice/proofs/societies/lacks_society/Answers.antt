use Rattle.std.proofs.Common.{◌≤◌, length, sym, ap, arith}
use Rattle.cwr_fields.specs.Format.Layouts.{layout}
use Rattle.cwr_advice.proofs.lemmas.LastFields.{none_owned_behind}
use Rattle.cwr_advice.proofs.societies.lacks_society.Goals as goal

pub returns-then-field-fields : goal.returns-then-field-fields
returns-then-field-fields c =
    let end : length (layout c.args.shown.now.kind) ≤ c.args.field =
    omega (arith, c.if-field-fields.true, c.fields.ensures, ap (λ k. length (layout k)) c.kind.ensures.value) in
    sym (none_owned_behind c.args.shown.now c.args.field end)

use Rattle.std.proofs.Common.{◌≤◌, length, refl, sym, ap, ◌∙◌, Some, arith}
use Rattle.cwr_fields.specs.declared.kinds.Kind.TheVariants.{Ack, Agr}
use Rattle.cwr_causes.proofs.works.own_work.Goals as goal

pub named-requires-clause-number : goal.named-requires-clause-number
named-requires-clause-number c =
    c.plain_cell.ensures.short Ack _ (sym c.kind.ensures ∙ c.in-Some-Ack.is ∙ ap Some c.in-Some-Ack.field-0-is) refl

pub named-requires-clause-title : goal.named-requires-clause-title
named-requires-clause-title c =
    c.plain_cell-in-Some-Ack.ensures.short Ack _ (sym c.kind.ensures ∙ c.in-Some-Ack.is ∙ ap Some c.in-Some-Ack.field-0-is) refl

pub named-requires-in-Some-Agr-clause-number : goal.named-requires-in-Some-Agr-clause-number
named-requires-in-Some-Agr-clause-number c =
    let short : length c.plain_cell-in-Some-Agr.result.now ≤ 14 =
    c.plain_cell-in-Some-Agr.ensures.short Agr _ (sym c.kind.ensures ∙ c.in-Some-Agr.is ∙ ap Some c.in-Some-Agr.field-0-is) refl in
    omega arith

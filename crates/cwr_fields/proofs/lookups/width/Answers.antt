use Rattle.std.proofs.Common.{arith}
use Rattle.cwr_fields.proofs.lemmas.AllKinds.{line_width_widest}
use Rattle.cwr_fields.proofs.lemmas.FieldStarts.{width_of_last}
use Rattle.cwr_fields.proofs.lookups.width.Goals as goal

pub overflow_add-result : goal.overflow_add-result
overflow_add-result c =
    omega (
      arith,
      width_of_last c.args.kind c.layout.result.now c.in-Some.last.now c.layout.ensures c.in-Some.ensures.value,
      line_width_widest c.args.kind,
    )

pub returns-in-Some : goal.returns-in-Some
returns-in-Some c = width_of_last c.args.kind c.layout.result.now c.in-Some.last.now c.layout.ensures c.in-Some.ensures.value

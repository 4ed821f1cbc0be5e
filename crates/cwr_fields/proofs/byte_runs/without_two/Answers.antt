use Rattle.std.proofs.Common.{refl}
use Rattle.cwr_fields.proofs.lemmas.Trims.{trimmed-two}
use Rattle.cwr_fields.proofs.byte_runs.without_two.Goals as goal

pub returns : goal.returns
returns c =
    trimmed-two c.args.text.now c.in-Some.front.now c.in-Some.last.now c.from_le_bytes.result (c.in-Some.ensures.variant.0 refl) c.type_inv.text
    c.in-Some.ensures.cases.0 c.in-Some.ensures.cases.1 c.from_le_bytes.ensures c.if-from_le_bytes-ne8224.false

use Rattle.std.proofs.Common.{arith}
use Rattle.cwr_fields.proofs.lemmas.AllKinds.{line_width_widest}
use Rattle.cwr_lines.proofs.records.RecordRef.to_record.Goals as goal

pub copy_bytes-requires : goal.copy_bytes-requires
copy_bytes-requires c = omega (arith, c.self.invariant.whole, line_width_widest c.self.inside.kind)

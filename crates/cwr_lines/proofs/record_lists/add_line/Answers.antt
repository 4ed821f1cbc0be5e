use Rattle.std.proofs.Common.{refl}
use Rattle.cwr_lines.proofs.record_lists.add_line.Goals as goal

pub make_room-requires-clause-power : goal.make_room-requires-clause-power
make_room-requires-clause-power c = (11, refl)

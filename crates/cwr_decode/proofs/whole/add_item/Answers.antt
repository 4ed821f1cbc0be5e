use Rattle.std.proofs.Common.{refl}
use Rattle.cwr_decode.proofs.whole.add_item.Goals as goal

pub make_room-requires-clause-power : goal.make_room-requires-clause-power
make_room-requires-clause-power c = (4, refl)

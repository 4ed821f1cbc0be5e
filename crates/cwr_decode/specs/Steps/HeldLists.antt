-- The one list of records that a decoder has.
use Rattle.std.specs.Prelude.{List, Option, Some, None}
use Rattle.cwr_lines.specs.Format.Records.{RecordValue}
use Rattle.cwr_decode.specs.declared.machine.holding.HeldList.{HeldList}
use Rattle.cwr_decode.specs.declared.machine.holding.HeldList.TheVariants.{Open, Spare}

-- the records of the open transaction, if one is open
abbrev pub open_records : HeldList → Option (List RecordValue)
open_records (Open records) = Some records
open_records (Spare records) = None

-- the list once the room of these records was offered: that is kept where no transaction is open
abbrev pub room_after : List RecordValue → HeldList → HeldList
room_after spent (Open records) = Open records
room_after spent (Spare records) = Spare spent

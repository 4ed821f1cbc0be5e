-- What the header of a transmission says that the advice on its transactions rests on.
use Rattle.std.specs.Prelude.{Some, None}
use Rattle.cwr_lines.specs.Format.Records.{RecordValue}
use Rattle.cwr_advice.specs.declared.characters.Characters.{Characters}
use Rattle.cwr_advice.specs.declared.characters.Characters.TheVariants.{Other}
use Rattle.cwr_advice.specs.declared.said.Said.{Said}
use Rattle.cwr_advice.specs.Format.Characters.{characters_in}
use Rattle.cwr_advice.specs.Format.Days.{day_in}
use Rattle.cwr_advice.specs.Format.Rules.{cell_at}

-- nothing of which anything is known here
abbrev pub nothing_said : Said
nothing_said = record { characters = Other; sent = None }

-- what the header says: of characters in field 9, and in field 8 when the transmission is sent
abbrev pub said_by : RecordValue → Said
said_by header = record { characters = characters_in (cell_at header 9); sent = day_in (cell_at header 8) }

-- so much is said of characters, and that the transmission is sent before all days
abbrev pub before_all_days : Characters → Said
before_all_days characters = record { characters = characters; sent = Some 0 }

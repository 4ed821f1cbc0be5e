-- Where a split stops, and which outputs were handed over then.
use Rattle.std.specs.Prelude.{ℕ, List, [], ◌∷◌, ◌++◌, Option, Result, Ok, Err}
use Rattle.cwr_shape.specs.declared.limits.Limits.{Limits}
use Rattle.cwr_values.specs.declared.items.Item.{Item}
use Rattle.cwr_decode.specs.declared.readings.ReadFault.{ReadFault}
use Rattle.cwr_decode.specs.declared.readings.ReadFault.TheVariants as read_faults
use Rattle.cwr_tools.specs.declared.verdicts.SplitReport.{SplitReport}
use Rattle.cwr_tools.specs.declared.verdicts.ToolFault.{ToolFault}
use Rattle.cwr_tools.specs.declared.verdicts.ToolFault.TheVariants.{Reader, Writer, Memory, Refused, Truncated, Output}
use Rattle.cwr_tools.specs.Steps.Reports.{HasHandedOut}
use Rattle.cwr_tools.specs.Steps.Verdicts.{StopsAfter}
use Rattle.cwr_parts.specs.Format.Splitting.{HasFullRuns, SplitsAll}

-- the reading of the input stopped with that fault, and the outputs that the items before fill were handed over
abbrev pub StopsReading : Limits → ℕ → ReadFault → Option (List ℕ) → Option (List ℕ) → Option (List (List ℕ))
    → Option (List (List ℕ)) → Type 0
StopsReading limits n fault before after old new =
    (given : List Item) × StopsAfter limits fault before after given × HasFullRuns limits n given old new

-- an output failed at an item that was handed out, and those that the items before fill were handed over
abbrev pub StopsWriting : Limits → ℕ → Option (List ℕ) → Option (List ℕ) → Option (List (List ℕ)) → Option (List (List ℕ))
    → Type 0
StopsWriting limits n before after old new =
    (given : List Item) × (item : Item) × HasHandedOut limits before after (given ++ item ∷ [])
    × HasFullRuns limits n given old new

-- A split hands all outputs over, where its input is accepted. Else it stops at the first fault, and the first outputs were
-- handed over. No limit is a fault of its own.
abbrev pub Splits : Limits → ℕ → Option (List ℕ) → Option (List ℕ) → Option (List (List ℕ)) → Option (List (List ℕ))
    → Result SplitReport ToolFault → Type 0
Splits limits n before after old new (Ok report) = SplitsAll limits n before after old new report
Splits limits n before after old new (Err Reader) = StopsReading limits n read_faults.Reader before after old new
Splits limits n before after old new (Err Memory) = StopsReading limits n read_faults.Memory before after old new
Splits limits n before after old new (Err (Refused refusal)) =
    StopsReading limits n (read_faults.Refused refusal) before after old new
Splits limits n before after old new (Err (Truncated records)) =
    StopsReading limits n (read_faults.Truncated records) before after old new
Splits limits n before after old new (Err (Writer written)) = StopsWriting limits n before after old new
Splits limits n before after old new (Err Output) = StopsWriting limits n before after old new
Splits limits n before after old new (Err fault) = ⊥

-- How many bytes the writer of the open output has, and what its fault tells of that.
use Rattle.std.specs.Prelude.{◌≡◌, List, [], ℕ, Option, Some, None, Result, Err}
use Rattle.cwr_lines.specs.Format.Records.{RecordValue}
use Rattle.cwr_encode.specs.declared.encoders.Encoder.{Encoder}
use Rattle.cwr_encode.specs.Steps.Encoders.{Encodes, bytes_written, target_of}
use Rattle.cwr_parts.specs.declared.split_output.SplitOutput.{SplitOutput}
use Rattle.cwr_tools.specs.declared.verdicts.ToolFault.{ToolFault}
use Rattle.cwr_tools.specs.declared.verdicts.ToolFault.TheVariants.{Writer}
use Rattle.cwr_parts.specs.Format.Splitting.{TellsWritten}

-- ---- an encoder

-- its writer had no bytes before it wrote some records
abbrev pub BeganEmpty : {W : Type 0} → (W → Option (List ℕ)) → Encoder W → Type 0
BeganEmpty contents e = (records : List RecordValue) × Encodes contents (Some []) records e

-- the fault of its writer tells how many bytes it counts
abbrev pub TellsCount : {W : Type 0} → Result (Unit {0}) ToolFault → Encoder W → Type 0
TellsCount (Err (Writer written)) e = written ≡ bytes_written e
TellsCount result e = Unit {0}

-- a call that writes leaves that so, and a fault of the writer tells its count
abbrev pub CountsBytes : {W : Type 0} → (W → Option (List ℕ)) → Result (Unit {0}) ToolFault → Encoder W → Encoder W → Type 0
CountsBytes contents result old new = BeganEmpty contents old → BeganEmpty contents new × TellsCount result new

-- ---- the open output

abbrev pub BeganOpen : {W : Type 0} → (W → Option (List ℕ)) → Option (SplitOutput W) → Type 0
BeganOpen contents None = Unit {0}
BeganOpen contents (Some out) = BeganEmpty contents out.encoder

-- the fault tells the count of the open output, or, where that was given up, how many bytes it had
abbrev pub TellsOpen : {W : Type 0} → Result (Unit {0}) ToolFault → Option (SplitOutput W) → Option (List ℕ) → Type 0
TellsOpen result None had = TellsWritten result had
TellsOpen result (Some out) had = TellsCount result out.encoder

abbrev pub CountsOpen : {W : Type 0} → (W → Option (List ℕ)) → Result (Unit {0}) ToolFault → Option (SplitOutput W)
    → Option (SplitOutput W) → Option (List ℕ) → Type 0
CountsOpen contents result old new had = BeganOpen contents old → BeganOpen contents new × TellsOpen result new had

-- a step does so where the texts of the outputs are known
abbrev pub CountsWritten : {W : Type 0} → (W → Option (List ℕ)) → Option (List (List ℕ)) → Result (Unit {0}) ToolFault
    → Option (SplitOutput W) → Option (SplitOutput W) → Option (List ℕ) → Type 0
CountsWritten contents texts result old new had =
    (known : List (List ℕ)) → texts ≡ Some known → CountsOpen contents result old new had

-- what the writer had that was given up last, once an open one is
abbrev pub had_after : {W : Type 0} → (W → Option (List ℕ)) → Option (SplitOutput W) → Option (List ℕ) → Option (List ℕ)
had_after contents None had = had
had_after contents (Some out) had = contents (target_of out.encoder)

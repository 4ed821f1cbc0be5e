-- What the end of an import means for the program.
use Rattle.std.specs.Prelude.{◌≡◌, ◌⊎◌, ℕ, ◌-◌, ◌^◌, ◌<◌, Bool, true, List, length, Option, IfSome, Result, Ok, Err}
use Rattle.std.specs.Io.KnownBytes.{Appends}
use Rattle.cwr_write.specs.declared.refusals.LineFault.{LineFault}
use Rattle.cwr_write.specs.declared.writing.Written.{Written}
use Rattle.cwr_write.specs.declared.writing.WriteFault.{WriteFault}
use Rattle.cwr_write.specs.declared.writing.WriteFault.TheVariants as write_faults
use Rattle.cwr_write.specs.Format.Endings.{EndsAtLine, EndsEarly, EndsWell, StopsAtLine}
use Rattle.cwr_write.specs.Format.Imports.{SaysItems}
use Rattle.cwr_values.specs.Format.Values.{FitsIn, IsTransmission, TransmissionValue}
use Rattle.cwr_values.specs.Format.Rows.{canonical_text, records_of}
use Rattle.cwr_values.specs.declared.items.Item.{Item}
use Rattle.cwr_judge.specs.Format.Items.{records_in}
use Rattle.cwr_endings.specs.declared.endings.Status.{Status}
use Rattle.cwr_endings.specs.declared.endings.Status.TheVariants as statuses
use Rattle.cwr_endings.specs.declared.stops.Stop.{Stop}
use Rattle.cwr_endings.specs.declared.stops.Stop.TheVariants as stops
use Rattle.cwr_transform.specs.declared.imports.Import.{Import}
use Rattle.cwr_files.specs.declared.faults.Told.{Told}
use Rattle.cwr_files.specs.declared.faults.Fault.TheVariants as faults

-- an import that is written ends the run well, and one that is refused otherwise; the fault of a device or of memory is reported
abbrev pub ImportEndsAs : Told → Stop → Result Written WriteFault → Result Status Stop → Type 0
ImportEndsAs input writing (Ok written) ending = ending ≡ Ok statuses.Good
ImportEndsAs input writing (Err (write_faults.Refused refusal)) ending = ending ≡ Ok statuses.Refused
ImportEndsAs input writing (Err (write_faults.Early lines)) ending = ending ≡ Ok statuses.Refused
ImportEndsAs input writing (Err write_faults.Reader) ending = ending ≡ Err (stops.Fault (faults.Read input))
ImportEndsAs input writing (Err (write_faults.Writer written)) ending = ending ≡ Err writing
ImportEndsAs input writing (Err write_faults.Memory) ending = ending ≡ Err (stops.Fault faults.Memory)

-- of an input of fewer than 2^64 - 1 bytes that are known the outcome is right: all lines are taken, or up to which one no
-- transmission continues, or they end too early
abbrev pub JudgesImport : Import → Option (List ℕ) → Result Written WriteFault → Type 0
JudgesImport import input outcome =
    IfSome input
    (λ text. length text < 2 ^ 64 - 1 → EndsAtLine import.encoding import.limits import.most text outcome)

-- An import of the text ends well where all its lines are taken and a transmission within the limits ends with them, and as refused
-- where up to some line no transmission continues, or none ends with them.
abbrev pub IsImportStatus : Import → List ℕ → Status → Type 0
IsImportStatus import text statuses.Good = (n : ℕ) × EndsWell import.encoding import.limits import.most text n
IsImportStatus import text statuses.Refused =
    ((n : ℕ) × (fault : LineFault) × StopsAtLine import.encoding import.limits import.most text n fault)
    ⊎ ((n : ℕ) × EndsEarly import.encoding import.limits import.most text n)
IsImportStatus import text statuses.CommandLine = ⊥
IsImportStatus import text statuses.Fault = ⊥

-- so it does where the bytes of the input are known, or the input, the output or memory failed
abbrev pub EndsAsImport : Import → Option (List ℕ) → Result Status Stop → Type 0
EndsAsImport import input (Ok status) = IfSome input (λ text. length text < 2 ^ 64 - 1 → IsImportStatus import text status)
EndsAsImport import input (Err stops.Output) = Unit {0}
EndsAsImport import input (Err (stops.Fault (faults.Read told))) = Unit {0}
EndsAsImport import input (Err (stops.Fault faults.Memory)) = Unit {0}
EndsAsImport import input (Err (stops.Fault fault)) = ⊥

-- so it does too where it is written to a file, which may not be made, or not take what is written, or not be given its name
abbrev pub EndsAsFileImport : Import → Option (List ℕ) → Result Status Stop → Type 0
EndsAsFileImport import input (Err (stops.Fault (faults.Open name reason))) = Unit {0}
EndsAsFileImport import input (Err (stops.Fault (faults.Write told))) = Unit {0}
EndsAsFileImport import input (Err (stops.Fault (faults.Output name reason))) = Unit {0}
EndsAsFileImport import input (Err stops.Output) = ⊥
EndsAsFileImport import input ending = EndsAsImport import input ending

-- The text is canonical, of a transmission within the limits whose records are those of the items that the lines of the input are data of.
pub record IsImportOf (import : Import) (input : Option (List ℕ)) (text : List ℕ) : Type 0 where
  pub value : TransmissionValue
  pub whole : IsTransmission value
  pub within : FitsIn import.limits value
  pub canonical : text ≡ canonical_text value
  pub items : List Item
  pub records_are : records_of value ≡ records_in items
  pub said : IfSome input (λ lines. SaysItems import.encoding lines items)

-- Where an import to an output ends well such a text stands there, after what it had, and is handed on.
abbrev pub WritesImport : {W : Type 0} → Import → Option (List ℕ) → (W → Option (List ℕ)) → W → W → Result Status Stop → Type 0
WritesImport import input contents old new (Ok statuses.Good) =
    (text : List ℕ) × IsImportOf import input text × Appends (contents old) (contents new) text
WritesImport import input contents old new ending = Unit {0}

abbrev pub HandsOnImport : Result Status Stop → Bool → Type 0
HandsOnImport (Ok statuses.Good) handed_on = handed_on ≡ true
HandsOnImport ending handed_on = Unit {0}

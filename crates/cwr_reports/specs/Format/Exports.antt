-- What is written of a transmission to a file.
use Rattle.std.specs.Prelude.{◌≡◌, ℕ, Bool, true, false, List, Option, Some, IfSome, Result, Ok, Err}
use Rattle.cwr_shape.specs.declared.limits.Limits.{Limits}
use Rattle.cwr_values.specs.declared.items.Item.{Item}
use Rattle.cwr_tools.specs.declared.verdicts.ToolFault.{ToolFault}
use Rattle.cwr_tools.specs.declared.verdicts.ToolFault.TheVariants.{Reader, Writer}
use Rattle.cwr_tools.specs.declared.verdicts.Verdict.{Verdict}
use Rattle.cwr_tools.specs.Format.Reports.{ItemLines, lines_of_data, text_on}
use Rattle.cwr_tools.specs.Format.Verdicts.{IsVerdictAfter}
use Rattle.cwr_tables.specs.Format.TableLines.{lines_of_table}
use Rattle.cwr_files.specs.Format.Files.{Texts}
use Rattle.cwr_files.specs.Format.Inputs.{IfRead}
use Rattle.cwr_files.specs.declared.faults.Fault.TheVariants as faults
use Rattle.cwr_files.specs.declared.faults.Told.{Told}
use Rattle.cwr_endings.specs.declared.endings.Status.{Status}
use Rattle.cwr_endings.specs.declared.endings.Status.TheVariants as statuses
use Rattle.cwr_endings.specs.declared.judgements.Judgement.{Judgement}
use Rattle.cwr_endings.specs.declared.stops.Stop.{Stop}
use Rattle.cwr_endings.specs.declared.stops.Stop.TheVariants as stops
use Rattle.cwr_reports.specs.declared.tellings.Telling.{Telling}
use Rattle.cwr_reports.specs.declared.tellings.Telling.TheVariants.{Data, Rows}

-- the text is that on the items of an input before its end and on its verdict, where its bytes are known
abbrev pub IsTextOn : ItemLines → Limits → Option (List ℕ) → List ℕ → Type 0
IsTextOn of limits input text = IfSome input (λ known. (verdict : Verdict) × (given : List Item)
    × IsVerdictAfter limits known verdict given × (text ≡ text_on of given verdict))

-- data or a table is told
abbrev pub is_data : Telling → Bool
is_data (Data encoding numbers) = true
is_data (Rows encoding table) = true
is_data telling = false

-- the text is the data of the input, or its table
abbrev pub IsExportOf : Telling → Limits → Option (List ℕ) → List ℕ → Type 0
IsExportOf (Data encoding numbers) limits input text = IsTextOn (lines_of_data encoding numbers) limits input text
IsExportOf (Rows encoding table) limits input text = IsTextOn (lines_of_table encoding table) limits input text
IsExportOf telling limits input text = ⊥

-- so it is of what a word names
abbrev pub IsExportAt : Telling → Limits → Option Texts → Option (List ℕ) → Option (List ℕ) → List ℕ → Type 0
IsExportAt telling limits held standard name text =
    IfRead held standard name (λ known. IsExportOf telling limits (Some known) text)

-- ---- how an export ends

-- the transmission is what is wanted
abbrev pub is_good_status : Status → Bool
is_good_status statuses.Good = true
is_good_status status = false

abbrev pub is_good : Result Judgement ToolFault → Bool
is_good (Ok judgement) = is_good_status judgement.status
is_good (Err fault) = false

-- it ends with its status, or as the fault of the input, of the file or of memory
abbrev pub ExportEndsAs : Told → Told → Result Judgement ToolFault → Result Status Stop → Type 0
ExportEndsAs input file (Ok judgement) ending = ending ≡ Ok judgement.status
ExportEndsAs input file (Err Reader) ending = ending ≡ Err (stops.Fault (faults.Read input))
ExportEndsAs input file (Err (Writer written)) ending = ending ≡ Err (stops.Fault (faults.Write file))
ExportEndsAs input file (Err fault) ending = ending ≡ Err (stops.Fault faults.Memory)

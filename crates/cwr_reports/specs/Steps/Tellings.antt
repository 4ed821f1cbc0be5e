-- What is written of a transmission, and which failures of its devices are counted.
use Rattle.std.specs.Prelude.{◌≡◌, [], ℕ, List, Option, None, Some, IfOk, Result, Ok, Err}
use Rattle.std.specs.Option.{is_some}
use Rattle.cwr_devices.specs.Format.Failures.{one_more_failure}
use Rattle.cwr_fields.specs.declared.message_codes.TransactionStatus.{TransactionStatus}
use Rattle.cwr_shape.specs.declared.limits.Limits.{Limits}
use Rattle.cwr_tools.specs.declared.finding_counts.FindingCount.{FindingCount}
use Rattle.cwr_tools.specs.declared.verdicts.Verdict.{Verdict}
use Rattle.cwr_tools.specs.declared.verdicts.ToolFault.{ToolFault}
use Rattle.cwr_tools.specs.declared.verdicts.ToolFault.TheVariants.{Reader, Writer}
use Rattle.cwr_tools.specs.Format.Reports.{CountsReaderFault, ItemLines, lines_of_counted, lines_of_data, lines_of_findings}
use Rattle.cwr_tools.specs.Format.Watching.{CountsAccepted}
use Rattle.cwr_tools.specs.Steps.Reports.{Reports}
use Rattle.cwr_acks.specs.declared.forms.Form.{Form}
use Rattle.cwr_acks.specs.Format.AckLines.{lines_of_acks}
use Rattle.cwr_acks.specs.Format.AckLines.{Telling as AckTelling}
use Rattle.cwr_advise.specs.Format.AdviceLines.{lines_of_advice}
use Rattle.cwr_tables.specs.Format.TableLines.{lines_of_table}
use Rattle.cwr_explain.specs.Steps.Explained.{Explains}
use Rattle.cwr_lint.specs.Format.Wanted.{wanting}
use Rattle.cwr_lint.specs.Steps.Lints.{Lints, Tells}
use Rattle.cwr_endings.specs.declared.endings.Look.{Look}
use Rattle.cwr_endings.specs.Steps.Looks.{CountsLook}
use Rattle.cwr_endings.specs.declared.judgements.Judgement.{Judgement}
use Rattle.cwr_endings.specs.declared.stops.Stop.{Stop}
use Rattle.cwr_endings.specs.declared.stops.Stop.TheVariants as stops
use Rattle.cwr_files.specs.declared.faults.Fault.TheVariants as faults
use Rattle.cwr_files.specs.declared.faults.Told.{Told}
use Rattle.cwr_files.specs.declared.inputs.Input.{Input}
use Rattle.cwr_files.specs.Steps.Inputs.{remaining_of}
use Rattle.cwr_reports.specs.declared.tellings.Telling.{Telling}
use Rattle.cwr_reports.specs.declared.tellings.Telling.TheVariants as tellings

-- how it is told what acknowledgements of these statuses say, or all without one, where there is one file, and nothing that was sent
abbrev pub telling_alone : Form → List TransactionStatus → AckTelling
telling_alone form statuses = record {
  form = form;
  statuses = statuses;
  file = None;
  names = [];
}

-- the lines that are asked for were written, while the input was read from the one state to the other
abbrev pub TellsUpTo : {W : Type 0} → Telling → Limits → Option (List ℕ) → Option (List ℕ) → (W → Option (List ℕ)) → W → W
    → Result Verdict ToolFault → Type 0
TellsUpTo tellings.Findings limits before after contents old new outcome =
    Reports lines_of_findings limits before after contents old new outcome
TellsUpTo (tellings.Explained name) limits before after contents old new outcome =
    Explains limits name.now before after contents old new outcome
TellsUpTo (tellings.Faults name advised all) limits before after contents old new outcome =
    Lints (wanting (is_some name) advised all) limits before after contents old new outcome
    × IfOk outcome (Tells (wanting (is_some name) advised all) limits before after contents old new)
TellsUpTo tellings.Records limits before after contents old new outcome =
    Reports lines_of_counted limits before after contents old new outcome
TellsUpTo (tellings.Data encoding numbers) limits before after contents old new outcome =
    Reports (lines_of_data encoding numbers) limits before after contents old new outcome
TellsUpTo (tellings.Rows encoding table) limits before after contents old new outcome =
    Reports (lines_of_table encoding table) limits before after contents old new outcome
TellsUpTo (tellings.Answers form statuses) limits before after contents old new outcome =
    Reports (lines_of_acks (telling_alone form statuses.now) None) limits before after contents old new outcome
TellsUpTo (tellings.Advice all repeated) limits before after contents old new outcome =
    Reports (lines_of_advice all repeated) limits before after contents old new outcome

-- these lines were written, before what follows the transmission was looked at
abbrev pub ReportsUpTo : {W : Type 0} → ItemLines → Limits → Option (List ℕ) → (W → Option (List ℕ)) → W → W
    → Result Verdict ToolFault → Type 0
ReportsUpTo of limits before contents old new outcome =
    (after : Option (List ℕ)) × Reports of limits before after contents old new outcome

-- so were those that are asked for
abbrev pub TellsText : {W : Type 0} → Telling → Limits → Option (List ℕ) → (W → Option (List ℕ)) → W → W
    → Result Verdict ToolFault → Type 0
TellsText telling limits before contents old new outcome =
    (after : Option (List ℕ)) × TellsUpTo telling limits before after contents old new outcome

-- the run was judged so: by its verdict, or as its fault, and where what follows the transmission couldn't be read, as the reader's
abbrev pub IsJudgedFrom : Result Verdict ToolFault → ToolFault → Type 0
IsJudgedFrom (Ok verdict) fault = fault ≡ Reader
IsJudgedFrom (Err other) fault = fault ≡ other

-- what was told up to the fault was written
abbrev pub StopsTold : {W : Type 0} → Telling → Limits → Option (List ℕ) → (W → Option (List ℕ)) → W → W → ToolFault → Type 0
StopsTold telling limits before contents old new fault =
    (outcome : Result Verdict ToolFault) × IsJudgedFrom outcome fault × TellsText telling limits before contents old new outcome

-- the text is what is told of an input with that outcome: where nothing stood, it stands once that is told
abbrev pub IsTold : Telling → Limits → Option (List ℕ) → List ℕ → Result Verdict ToolFault → Type 0
IsTold telling limits before text outcome =
    TellsText {W = Option (List ℕ)} telling limits before (λ known. known) (Some []) (Some text) outcome

-- where the findings are told or counted, they are those of the transmission
abbrev pub CountsFindings : Telling → Limits → Option (List ℕ) → FindingCount → Type 0
CountsFindings tellings.Findings limits before count = CountsAccepted limits before count
CountsFindings (tellings.Explained name) limits before count = CountsAccepted limits before count
CountsFindings tellings.Records limits before count = CountsAccepted limits before count
CountsFindings telling limits before count = Unit {0}

-- the reader's failures are those of the look after a verdict, and else of the run, whose fault is answered
abbrev pub CountsReading : Result Verdict ToolFault → Look → ℕ → ℕ → Type 0
CountsReading (Ok verdict) look old new = CountsLook look old new
CountsReading (Err fault) look old new = CountsReaderFault (Err fault) old new

-- so it is once that was judged: a look that failed where nothing may follow is the reader's fault
abbrev pub CountsInput : Result Judgement ToolFault → ℕ → ℕ → Type 0
CountsInput (Ok judgement) old new = CountsLook judgement.look old new
CountsInput (Err fault) old new = CountsReaderFault (Err fault) old new

-- the writer's failures count one more where its fault is answered, and else they stay
abbrev pub CountsWriting : Result Judgement ToolFault → ℕ → ℕ → Type 0
CountsWriting (Err (Writer written)) old new = new ≡ one_more_failure old
CountsWriting judged old new = new ≡ old

-- ---- why a run stopped, and which failures that stands for

-- the input's fault, standard output's, or that there was no memory
abbrev pub IsStopOf : Told → ToolFault → Stop → Type 0
IsStopOf told Reader stop = stop ≡ stops.Fault (faults.Read told)
IsStopOf told (Writer written) stop = stop ≡ stops.Output
IsStopOf told fault stop = stop ≡ stops.Fault faults.Memory

-- A fault of the input is answered only where one failure more was counted of it, and one of standard output only where that failed once
-- more. Where there was no memory neither failed.
abbrev pub CountsStop : {A : Type 0} → Result A Stop → ℕ → ℕ → ℕ → ℕ → Type 0
CountsStop (Ok read) old new out out_now = out_now ≡ out
CountsStop (Err stops.Output) old new out out_now = out_now ≡ one_more_failure out
CountsStop (Err (stops.Fault (faults.Read told))) old new out out_now = (new ≡ one_more_failure old) × (out_now ≡ out)
CountsStop (Err (stops.Fault faults.Memory)) old new out out_now = (new ≡ old) × (out_now ≡ out)
CountsStop (Err (stops.Fault fault)) old new out out_now = ⊥

-- where the run came to its end, the lines that are asked for were written, on some verdict
abbrev pub TellsLines : {A W : Type 0} → Telling → Limits → Option (List ℕ) → (W → Option (List ℕ)) → W → W → Result A Stop → Type 0
TellsLines telling limits before contents old new (Ok read) =
    (verdict : Verdict) × TellsText telling limits before contents old new (Ok verdict)
TellsLines telling limits before contents old new (Err stop) = Unit {0}

-- so it is of an input, by what its device has left
abbrev pub TellsOf : {A W F I P : Type 0} → Telling → Limits → (F → Option (List ℕ)) → (I → Option (List ℕ)) → Input F I P
    → (W → Option (List ℕ)) → W → W → Result A Stop → Type 0
TellsOf telling limits of_file of_standard input contents old new ending =
    TellsLines telling limits (remaining_of of_file of_standard input) contents old new ending

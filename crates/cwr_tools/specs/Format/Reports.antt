-- The lines of a report: those of each item, and the verdict's.
use Rattle.std.specs.Prelude.{◌≡◌, ◌⊎◌, ℕ, ◌+◌, ◌-◌, ◌^◌, min, Bool, true, false, nat_lt, length, List, [], ◌++◌, drop, Option, Some, IfSome, Result}
use Rattle.std.specs.Prelude.{Ok}
use Rattle.std.specs.Prelude.{Err}
use Rattle.std.specs.Io.KnownBytes.{Appends, GrowsBy}
use Rattle.cwr_devices.specs.Format.Failures.{one_more_failure}
use Rattle.cwr_lines.specs.Format.Records.{RecordValue}
use Rattle.cwr_shape.specs.declared.limits.Limits.{Limits}
use Rattle.cwr_values.specs.declared.items.Item.{Item}
use Rattle.cwr_values.specs.declared.items.Item.TheVariants.{Transaction}
use Rattle.cwr_values.specs.Format.Values.{TransmissionValue}
use Rattle.cwr_judge.specs.Format.Ends.{IsAccepted}
use Rattle.cwr_judge.specs.Format.Items.{AreFirstItems, value_items}
use Rattle.cwr_encode.specs.Format.Finishing.{HasFront}
use Rattle.cwr_json.specs.declared.encodings.Encoding.{Encoding}
use Rattle.cwr_json.specs.Format.Forms.{data_lines}
use Rattle.cwr_findings.specs.Format.Findings.{findings}
use Rattle.cwr_tools.specs.declared.verdicts.Verdict.{Verdict}
use Rattle.cwr_tools.specs.declared.verdicts.Verdict.TheVariants.{Refused}
use Rattle.cwr_tools.specs.declared.verdicts.ToolFault.{ToolFault}
use Rattle.cwr_tools.specs.declared.verdicts.ToolFault.TheVariants.{Reader, Writer, Memory}
use Rattle.cwr_tools.specs.Format.Verdicts.{IsVerdictAfter, TakesSpelling}
use Rattle.cwr_tools.specs.Format.Texts.{check_lines, finding_lines_in, good_verdict, show_lines, verdict_line}
use Rattle.cwr_notes.specs.Format.FindingNotes.{explained_in, explained_lines}

-- the lines of items, in order, what stands after them for the verdict, and for which items they take memory
pub record ItemLines : Type 0 where
  pub lines : List Item → List ℕ
  pub last : List Item → Verdict → List ℕ
  pub take_memory : Item → Bool

-- the item is a transaction that has findings
abbrev pub has_findings : Item → Bool
has_findings (Transaction t) = nat_lt 0 (length (findings t))
has_findings item = false

-- the findings in each transaction
abbrev pub lines_of_findings : ItemLines
lines_of_findings = record { lines = check_lines; last = λ items. verdict_line; take_memory = has_findings }

-- the same, and lines under each finding
abbrev pub lines_of_explained : ItemLines
lines_of_explained = record { lines = explained_lines false; last = λ items. verdict_line; take_memory = has_findings }

-- the verdict's line, where that is no refusal
abbrev pub unrefused_line : Verdict → List ℕ
unrefused_line (Refused refusal) = []
unrefused_line verdict = verdict_line verdict

-- the findings in each transaction, with lines under each where these are asked for
abbrev pub lines_checked : Bool → ItemLines
lines_checked false = lines_of_findings
lines_checked true = lines_of_explained

-- the findings in each transaction, or with lines under each and then an empty line, so that they stand apart
abbrev pub lines_apart : Bool → List Item → List ℕ
lines_apart false = check_lines
lines_apart true = explained_lines true

-- the same, and the verdict's line
abbrev pub lines_checked_apart : Bool → ItemLines
lines_checked_apart explained =
    record { lines = lines_apart explained; last = λ items. verdict_line; take_memory = has_findings }

-- the same, and no line of a refusal
abbrev pub lines_up_to_fault : Bool → ItemLines
lines_up_to_fault explained =
    record { lines = lines_apart explained; last = λ items. unrefused_line; take_memory = has_findings }

-- the lines of findings in a transaction, of that sequence in the group of that ID, whose first record is on line n of the file, explained
-- or not, and then apart or not
abbrev pub transaction_lines : Bool → Bool → ℕ → ℕ → ℕ → List RecordValue → List ℕ
transaction_lines false apart group sequence n t = finding_lines_in group sequence (Transaction t)
transaction_lines true apart group sequence n t = explained_in apart group sequence n (Transaction t)

-- the records with their cells
abbrev pub lines_of_records : ItemLines
lines_of_records = record { lines = show_lines; last = λ items. verdict_line; take_memory = λ item. false }

-- the same, while the findings in them are counted
abbrev pub lines_of_counted : ItemLines
lines_of_counted = record { lines = show_lines; last = λ items. verdict_line; take_memory = has_findings }

-- the data of each item, its cells shown by the encoding, with notes or without, and nothing for the verdict
abbrev pub lines_of_data : Encoding → Bool → ItemLines
lines_of_data enc noted = record { lines = data_lines enc noted; last = λ items verdict. []; take_memory = λ item. false }

-- the text on items and the verdict
abbrev pub text_on : ItemLines → List Item → Verdict → List ℕ
text_on of given verdict = of.lines given ++ of.last given verdict

-- the reader's failures count one more where its fault is reported, and else they stay
abbrev pub CountsReaderFault : Result Verdict ToolFault → ℕ → ℕ → Type 0
CountsReaderFault (Err Reader) old new = new ≡ one_more_failure old
CountsReaderFault result old new = new ≡ old

-- and so do the writer's
abbrev pub CountsWriterFault : Result Verdict ToolFault → ℕ → ℕ → Type 0
CountsWriterFault (Err (Writer written)) old new = new ≡ one_more_failure old
CountsWriterFault result old new = new ≡ old

-- the fault of a run that wrote so many bytes before what failed
abbrev pub fault_after : ℕ → ToolFault → ToolFault
fault_after count (Writer written) = Writer (min (count + written) (2 ^ 64 - 1))
fault_after count fault = fault

-- where the writer failed, the fault says how many bytes were written after what it had; at the highest number that stays
abbrev pub CountsWritten : {W A : Type 0} → (W → Option (List ℕ)) → W → W → Result A ToolFault → Type 0
CountsWritten contents old new (Err (Writer written)) = GrowsBy (contents old) (contents new) written
CountsWritten contents old new result = Unit {0}

-- the same, where so many bytes were written before that
abbrev pub CountsAfter : {W A : Type 0} → (W → Option (List ℕ)) → ℕ → W → W → Result A ToolFault → Type 0
CountsAfter contents before old new (Err (Writer written)) =
    (more : ℕ) × GrowsBy (contents old) (contents new) more × (written ≡ min (before + more) (2 ^ 64 - 1))
CountsAfter contents before old new result = Unit {0}

-- the text on some first items of a transmission within the limits, or, where the bytes read are known, on those before their end
-- and on the verdict
abbrev pub IsTextSoFar : ItemLines → Limits → Option (List ℕ) → List ℕ → Type 0
IsTextSoFar of limits before text =
    ((given : List Item) × AreFirstItems limits given × (text ≡ of.lines given))
    ⊎ ((given : List Item) × (verdict : Verdict) × IfSome before (λ known. IsVerdictAfter limits known verdict given)
    × (text ≡ text_on of given verdict))

-- Where the bytes that are read are known, the verdict is that on them, and after what the writer had stands the text on the
-- items before their end and on that verdict. Of a text that is accepted just its spelling is taken. Where the reader failed or
-- memory was refused, the text on the first items of some transmission is written; where the writer failed, so many first bytes of
-- such a text are. There is no other fault.
abbrev pub ReportsText : {W : Type 0} → ItemLines → Limits → Option (List ℕ) → Option (List ℕ) → (W → Option (List ℕ)) → W → W
    → Result Verdict ToolFault → Type 0
ReportsText of limits before after contents old new (Ok verdict) =
    IfSome before (λ text. (given : List Item) × IsVerdictAfter limits text verdict given × TakesSpelling limits text after
    × Appends (contents old) (contents new) (text_on of given verdict))
ReportsText of limits before after contents old new (Err (Writer written)) =
    (text : List ℕ) × IsTextSoFar of limits before text × HasFront contents (contents old) new text written
ReportsText of limits before after contents old new (Err Reader) =
    (given : List Item) × AreFirstItems limits given × Appends (contents old) (contents new) (of.lines given)
ReportsText of limits before after contents old new (Err Memory) =
    (given : List Item) × AreFirstItems limits given × Appends (contents old) (contents new) (of.lines given)
ReportsText of limits before after contents old new (Err fault) = ⊥

-- a text that is accepted has its transmission's verdict and is consumed as far as it spells that, and what is written is
-- the text on that transmission
abbrev pub JudgesAccepted : {W : Type 0} → ItemLines → Limits → Option (List ℕ) → Option (List ℕ) → (W → Option (List ℕ)) → W → W
    → Verdict → Type 0
JudgesAccepted of limits before after contents old new verdict =
    IfSome before (λ text. (v : TransmissionValue) (n : ℕ) → IsAccepted limits text v n
    → (verdict ≡ good_verdict v) × (after ≡ Some (drop n text))
    × Appends (contents old) (contents new) (text_on of (value_items v) (good_verdict v)))

-- words were written after what the writer had
abbrev pub AddsWords : {W : Type 0} → (W → Option (List ℕ)) → W → W → Type 0
AddsWords contents old new = (words : List ℕ) × Appends (contents old) (contents new) words

-- What a run over a text has written, step by step.
use Rattle.std.specs.Prelude.{◌≡◌, ◌⊎◌, ℕ, ◌+◌, Bool, true, false, List, [], ◌∷◌, ◌++◌, if◌then◌else◌, Option, Some, None, Result}
use Rattle.std.specs.Prelude.{Ok, Err}
use Rattle.std.specs.Io.KnownBytes.{Appends}
use Rattle.cwr_shape.specs.declared.limits.Limits.{Limits}
use Rattle.cwr_lines.specs.Format.Records.{RecordValue}
use Rattle.cwr_values.specs.declared.items.Item.{Item}
use Rattle.cwr_values.specs.declared.items.Item.TheVariants.{Transaction}
use Rattle.cwr_judge.specs.Format.Items.{opens_group}
use Rattle.cwr_json.specs.declared.notes.Notes.{Notes}
use Rattle.cwr_decode.specs.declared.readings.ReadFault.TheVariants as read_faults
use Rattle.cwr_decode.specs.Steps.Machines.{Standing}
use Rattle.cwr_decode.specs.Steps.Runs.{IsReadingOn}
use Rattle.cwr_devices.specs.declared.sinks.Sink.{Sink}
use Rattle.cwr_devices.specs.declared.sinks.SinkFault.{SinkFault}
use Rattle.cwr_devices.specs.declared.pens.Pen.{Pen}
use Rattle.cwr_devices.specs.Steps.Pens.{Adds}
use Rattle.cwr_devices.specs.Steps.Sinks.{PutsText}
use Rattle.cwr_encode.specs.Format.Finishing.{HasFront}
use Rattle.cwr_tools.specs.declared.verdicts.Verdict.{Verdict}
use Rattle.cwr_tools.specs.declared.verdicts.ToolFault.{ToolFault}
use Rattle.cwr_tools.specs.declared.verdicts.ToolFault.TheVariants.{Reader, Writer, Memory}
use Rattle.cwr_tools.specs.declared.totals.Totals.{Totals}
use Rattle.cwr_tools.specs.Format.Texts.{finding_lines_in}
use Rattle.cwr_notes.specs.Format.FindingNotes.{explained_in}
use Rattle.cwr_tools.specs.Steps.Verdicts.{StopsAfter, IsRightVerdict}
use Rattle.cwr_tools.specs.Format.Reports.{ItemLines, lines_checked, lines_up_to_fault, text_on}
use Rattle.cwr_tools.specs.Steps.Counts.{IsCount}

-- ---- what a whole run has written

-- these items were handed out so far, and more may come, or they are all
abbrev pub HasHandedOut : Limits → Option (List ℕ) → Option (List ℕ) → List Item → Type 0
HasHandedOut limits before after given = (decoder : Standing) × IsReadingOn limits decoder before after given

-- the text on the items so far, or on all items and the verdict
abbrev pub IsReported : ItemLines → Limits → Option (List ℕ) → Option (List ℕ) → List Item → List ℕ → Type 0
IsReported of limits before after given text =
    (HasHandedOut limits before after given × (text ≡ of.lines given))
    ⊎ ((verdict : Verdict) × IsRightVerdict limits before verdict after given × (text ≡ text_on of given verdict))

-- Memory was refused for a record that was accepted after these items, or for the lines of the next item, which was handed out
-- too.
abbrev pub LacksMemory : ItemLines → Limits → Option (List ℕ) → Option (List ℕ) → List Item → Type 0
LacksMemory of limits before after given =
    StopsAfter limits read_faults.Memory before after given
    ⊎ ((item : Item) × (of.take_memory item ≡ true) × HasHandedOut limits before after (given ++ item ∷ []))

-- After what the writer had, the text on the items and the verdict is written. Where the reader failed or memory was refused,
-- that on the items before is; where the writer failed, the first bytes of such a text are, so many as the fault says. There
-- is no other fault.
abbrev pub Reports : {W : Type 0} → ItemLines → Limits → Option (List ℕ) → Option (List ℕ) → (W → Option (List ℕ)) → W → W
    → Result Verdict ToolFault → Type 0
Reports of limits before after contents old new (Ok verdict) =
    (given : List Item) × IsRightVerdict limits before verdict after given
    × Appends (contents old) (contents new) (text_on of given verdict)
Reports of limits before after contents old new (Err Reader) =
    (given : List Item) × StopsAfter limits read_faults.Reader before after given
    × Appends (contents old) (contents new) (of.lines given)
Reports of limits before after contents old new (Err Memory) =
    (given : List Item) × LacksMemory of limits before after given × Appends (contents old) (contents new) (of.lines given)
Reports of limits before after contents old new (Err (Writer written)) =
    (given : List Item) × (text : List ℕ) × IsReported of limits before after given text
    × HasFront contents (contents old) new text written
Reports of limits before after contents old new (Err fault) = ⊥

-- ---- the same of its parts, over a sink

-- the findings, explained or not, up to a fault or with the verdict's line
abbrev pub lines_told : Bool → Bool → ItemLines
lines_told explained false = lines_checked explained
lines_told explained true = lines_up_to_fault explained

-- the notes of an item that comes after items with these numbers
abbrev pub notes_at : Bool → Totals → Item → Option Notes
notes_at false counts item = None
notes_at true counts item =
    Some (record
    { group = counts.groups + (if opens_group item then 1 else 0); transaction = counts.in_group; line = counts.records + 1 })

-- the lines of the findings in one item more, after items with these numbers, explained or not, and then apart or not
abbrev pub findings_at : Bool → Bool → Totals → Item → List ℕ
findings_at false apart counts item = finding_lines_in counts.groups counts.in_group item
findings_at true apart counts item = explained_in apart counts.groups counts.in_group (counts.records + 1) item

-- The lines of an item are added. Where memory for them is refused none of them is.
abbrev pub AddsLines : {W E : Type 0} → (W → Option (List ℕ)) → (W → ℕ) → Bool → List ℕ → Result (Unit {0}) E → Pen W → Pen W
    → Type 0
AddsLines contents failures takes_memory text (Ok u) old new = Adds contents failures text old new
AddsLines contents failures takes_memory text (Err fault) old new = (takes_memory ≡ true) × (new ≡ old)

-- the lines of one item more are added, after those of the items before
abbrev pub AddsNext : {W E : Type 0} → (W → Option (List ℕ)) → (W → ℕ) → ItemLines → List Item → Item → Result (Unit {0}) E → Pen W
    → Pen W → Type 0
AddsNext contents failures of given item result old new =
    (text : List ℕ) × (of.lines (given ++ item ∷ []) ≡ of.lines given ++ text)
    × AddsLines contents failures (of.take_memory item) text result old new

-- the answer of a sink, as one of a run
abbrev pub tool_result : Result (Unit {0}) SinkFault → Result (Unit {0}) ToolFault
tool_result (Ok u) = Ok u
tool_result (Err fault) = Err (Writer fault.written)

-- a text is put, and the writer doesn't fail
abbrev pub IsPut : {W : Type 0} → (W → Option (List ℕ)) → (W → ℕ) → List ℕ → Sink W → Sink W → Type 0
IsPut contents failures text old new = PutsText contents failures text (Ok tt) old new

-- the writer fails in a text, or did before, after so many bytes
abbrev pub IsCut : {W : Type 0} → (W → Option (List ℕ)) → (W → ℕ) → List ℕ → ℕ → Sink W → Sink W → Type 0
IsCut contents failures text count old new =
    let fault : SinkFault = record { written = count } in
    PutsText contents failures text (Err fault) old new

-- A text is put, or the writer fails in it. Where memory for it is refused nothing is put.
abbrev pub PutsLines : {W : Type 0} → (W → Option (List ℕ)) → (W → ℕ) → Bool → List ℕ → Result (Unit {0}) ToolFault → Sink W
    → Sink W → Type 0
PutsLines contents failures takes_memory text (Ok u) old new = IsPut contents failures text old new
PutsLines contents failures takes_memory text (Err Memory) old new = (takes_memory ≡ true) × (new ≡ old)
PutsLines contents failures takes_memory text (Err (Writer written)) old new = IsCut contents failures text written old new
PutsLines contents failures takes_memory text (Err fault) old new = ⊥

-- the lines of one item more are put, after those of the items before
abbrev pub PutsNext : {W : Type 0} → (W → Option (List ℕ)) → (W → ℕ) → ItemLines → List Item → Item → Result (Unit {0}) ToolFault
    → Sink W → Sink W → Type 0
PutsNext contents failures of given item result old new =
    (text : List ℕ) × (of.lines (given ++ item ∷ []) ≡ of.lines given ++ text)
    × PutsLines contents failures (of.take_memory item) text result old new

-- of a transaction that is so nothing is told, and what stands after the items before it stands after it
abbrev pub PassesOver : (List RecordValue → Type 0) → ItemLines → (List Item → Type 0) → Type 0
PassesOver is_so of stands = (given : List Item) (t : List RecordValue) → is_so t → stands given
    → (of.lines (given ++ Transaction t ∷ []) ≡ of.lines given) × stands (given ++ Transaction t ∷ [])

-- it stands after items with these numbers
abbrev pub StandsCounted : (ItemLines → List Item → Type 0) → Totals → Type 0
StandsCounted stands counts = (of : ItemLines) × (given : List Item) × IsCount counts given × stands of given

-- it stands after the items before the verdict
abbrev pub StandsAfter : (List Item → Type 0) → Limits → Option (List ℕ) → Option (List ℕ) → Verdict → Type 0
StandsAfter stands limits before after verdict =
    (given : List Item) × IsRightVerdict limits before verdict after given × stands given

-- it stands at the end of a run, after the items before the verdict or before the reader failed
abbrev pub StandsAtEnd : (List Item → Type 0) → Limits → Option (List ℕ) → Option (List ℕ) → Result Verdict ToolFault → Type 0
StandsAtEnd stands limits before after (Ok verdict) = StandsAfter stands limits before after verdict
StandsAtEnd stands limits before after (Err Reader) =
    (given : List Item) × StopsAfter limits read_faults.Reader before after given × stands given
StandsAtEnd stands limits before after (Err fault) = Unit {0}

-- what a run has put: with the lines of the items, what stands at the end for the verdict
abbrev pub PutsReport : {W : Type 0} → ItemLines → (List Item → Verdict → List ℕ) → Limits → Option (List ℕ) → Option (List ℕ)
    → (W → Option (List ℕ)) → (W → ℕ) → Result Verdict ToolFault → Sink W → Sink W → Type 0
PutsReport of end limits before after contents failures (Ok verdict) old new =
    (given : List Item) × IsRightVerdict limits before verdict after given
    × IsPut contents failures (of.lines given ++ end given verdict) old new
PutsReport of end limits before after contents failures (Err Reader) old new =
    (given : List Item) × StopsAfter limits read_faults.Reader before after given
    × IsPut contents failures (of.lines given) old new
PutsReport of end limits before after contents failures (Err Memory) old new =
    (given : List Item) × LacksMemory of limits before after given × IsPut contents failures (of.lines given) old new
PutsReport of end limits before after contents failures (Err (Writer written)) old new =
    (given : List Item) × (text : List ℕ) × IsReported of limits before after given text
    × IsCut contents failures text written old new
PutsReport of end limits before after contents failures (Err fault) old new = ⊥

-- the lines of the items before the verdict were put, and after these it is so
abbrev pub StandsPut : {W : Type 0} → ItemLines → (List Item → Type 0) → Limits → Option (List ℕ) → Option (List ℕ)
    → (W → Option (List ℕ)) → (W → ℕ) → Result Verdict ToolFault → Sink W → Sink W → Type 0
StandsPut of stands limits before after contents failures (Ok verdict) old new =
    (given : List Item) × IsRightVerdict limits before verdict after given × stands given
    × IsPut contents failures (of.lines given) old new
StandsPut of stands limits before after contents failures (Err fault) old new = Unit {0}

-- What is found of an input, what is counted of several, and what is written of each.
use Rattle.std.specs.Prelude.{◌≡◌, ℕ, ◌+◌, ◌-◌, ◌^◌, min, ◌||◌, nat_lt, Bool, true, false, List, [], ◌∷◌, ◌++◌, drop, length, map, slice_index, Option, Some, None, IfSome, Result, Ok, Err, if◌then◌else◌}
use Rattle.std.specs.List.{AllZip}
use Rattle.std.specs.Io.KnownBytes.{Appends, Consumes}
use Rattle.cwr_lines.specs.Format.Records.{RecordValue}
use Rattle.cwr_shape.specs.declared.limits.Limits.{Limits}
use Rattle.cwr_values.specs.declared.items.Item.{Item}
use Rattle.cwr_values.specs.Format.Values.{TransmissionValue}
use Rattle.cwr_judge.specs.Format.Ends.{IsAccepted}
use Rattle.cwr_tools.specs.declared.verdicts.Verdict.{Verdict}
use Rattle.cwr_tools.specs.declared.verdicts.Verdict.TheVariants.{Good}
use Rattle.cwr_tools.specs.Format.Texts.{verdict_line}
use Rattle.cwr_tools.specs.Format.Verdicts.{IsVerdictAfter}
use Rattle.cwr_tools.specs.declared.verdicts.ToolFault.{ToolFault}
use Rattle.cwr_files.specs.declared.faults.Fault.{Fault}
use Rattle.cwr_files.specs.Format.Files.{Texts}
use Rattle.cwr_files.specs.Steps.Inputs.{IsLeftOf}
use Rattle.cwr_endings.specs.declared.endings.Look.{Look}
use Rattle.cwr_endings.specs.declared.endings.Look.TheVariants as looks
use Rattle.cwr_endings.specs.declared.judgements.Judgement.{Judgement}
use Rattle.cwr_endings.specs.declared.stops.Stop.{Stop}
use Rattle.cwr_endings.specs.Format.Endings.{IsStatusBy, worse_status}
use Rattle.cwr_endings.specs.declared.endings.Status.{Status}
use Rattle.cwr_endings.specs.declared.endings.Status.TheVariants as statuses
use Rattle.cwr_endings.specs.Format.Sums.{AreSums}
use Rattle.cwr_reports.specs.Steps.Looks.{IsJudged}
use Rattle.cwr_reports.specs.Steps.Marked.{CountsEnd, CountsEnds, Piece, status_in, worst_from}
use Rattle.cwr_reports.specs.Format.Endings.{Counts}
use Rattle.cwr_answers.specs.Format.Endings.{wanted_of}
use Rattle.cwr_summary_rows.specs.declared.forms.Form.{Form}
use Rattle.cwr_summary_rows.specs.Format.Rows.{RowValue}
use Rattle.cwr_summary.specs.Steps.SummedUp.{SumsUp}
use Rattle.cwr_summaries.specs.declared.summaries.Found.{Found}
use Rattle.cwr_summaries.specs.declared.summaries.Totals.{Totals}
use Rattle.cwr_summaries.specs.declared.summed_files.SummedFile.{SummedFile}
use Rattle.cwr_summaries.specs.Steps.Digesting.{IsDigesting}
use Rattle.cwr_summaries.specs.Format.Rows.{SummedInput, IsRowOn, IsSumsText, after_of, bytes_of, cells_in, different, failed_row, heading_in, is_among, name_in, number_at, opening_in, rows_text, senders_in, senders_of, sum_of, unended, verdict_of}
use Rattle.cwr_summaries.specs.Format.Summed.{summed}

-- ---- what was summed up

-- the one, or else the other
abbrev pub first_of : Option RecordValue → Option RecordValue → Option RecordValue
first_of None other = other
first_of (Some r) other = Some r

-- it has the sums of these items, their HDR, and the digest of their canonical text where that is asked for
abbrev pub StandsAfter : SummedFile → List Item → Type 0
StandsAfter summed given =
    SumsUp given summed.summary × (summed.header ≡ opening_in given) × IsDigesting summed.encoder summed.digest given

-- ---- what was read

-- Behind the transmission, of which a text has so many bytes, the reader lost these, which are counted.
abbrev pub CountsBehind : Limits → List ℕ → Option (List ℕ) → Verdict → Look → Type 0
CountsBehind limits text after (Good groups transactions records) (looks.Found trailing) =
    (v : TransmissionValue) × (n : ℕ) × IsAccepted limits text v n × (more : List ℕ) × Consumes (Some (drop n text)) after more
    × (trailing.bytes ≡ min (length more) (2 ^ 64 - 1))
CountsBehind limits text after (Good groups transactions records) looks.Unasked = ⊥
CountsBehind limits text after verdict look = Unit {0}

-- A text was judged after these items: it stands after them.
pub record Judges (stands : List Item → Type 0) (limits : Limits) (text : List ℕ) (after : Option (List ℕ)) (judgement : Judgement) : Type 0
  where
    pub given : List Item
    pub read : IsVerdictAfter limits text judgement.verdict given
    pub here : stands given
    pub behind : CountsBehind limits text after judgement.verdict judgement.look

-- so many bytes stand behind it, of which the look counted the first, and the rest was read
abbrev pub IsAllBehind : Look → ℕ → ℕ → Type 0
IsAllBehind looks.Failed rest after = ⊥
IsAllBehind (looks.Found trailing) rest after = after ≡ min (trailing.bytes + rest) (2 ^ 64 - 1)
IsAllBehind looks.Unasked rest after = after ≡ rest

-- of a good one so many bytes stand behind it
abbrev pub HasBehind : Limits → List ℕ → Verdict → ℕ → Type 0
HasBehind limits text (Good groups transactions records) after =
    (v : TransmissionValue) × (n : ℕ) × IsAccepted limits text v n × (after ≡ min (length text - n) (2 ^ 64 - 1))
HasBehind limits text verdict after = Unit {0}

-- What was found of an input is what was judged, once the rest of it was read; else the first fault of both is answered.
abbrev pub IsFoundOf : Result Judgement ToolFault → Result ℕ ToolFault → Result Found ToolFault → Type 0
IsFoundOf (Err fault) rest result = result ≡ Err fault
IsFoundOf (Ok judgement) (Err fault) result = result ≡ Err fault
IsFoundOf (Ok judgement) (Ok rest) (Ok found) = (found.judgement ≡ judgement) × IsAllBehind judgement.look rest found.after
IsFoundOf (Ok judgement) (Ok rest) (Err fault) = judgement.look ≡ looks.Failed

-- What was found of a text.
pub record IsFound (limits : Limits) (text : List ℕ) (found : Found) : Type 0 where
  pub given : List Item
  pub read : IsVerdictAfter limits text found.judgement.verdict given
  pub here : StandsAfter found.summed given
  pub behind : HasBehind limits text found.judgement.verdict found.after

-- ---- its row

-- what is told where a transmission is good
abbrev pub if_good : {A : Type 0} → Verdict → Option A → Option A
if_good (Good groups transactions records) told = told
if_good verdict told = None

abbrev pub row_of : List ℕ → Option (ℕ × ℕ × ℕ) → Found → RowValue
row_of name advice found = record {
  file = Some name;
  bytes = Some found.bytes;
  after = if_good found.judgement.verdict (Some found.after);
  digest = found.digest;
  canonical = if_good found.judgement.verdict found.summed.digest;
  verdict = unended (verdict_line found.judgement.verdict);
  header = cells_in found.summed.header;
  numbers = Some found.summed.summary.numbers;
  advice = advice;
  senders = Some (senders_in found.summed.header);
}

-- the input
abbrev pub input_of : List ℕ → Option (ℕ × ℕ × ℕ) → Found → SummedInput
input_of name advice found = record { row = row_of name advice found; opening = found.summed.header; end = Ok found.judgement }

-- one that failed
abbrev pub failed_input : List ℕ → Fault → SummedInput
failed_input name fault = record { row = failed_row name; opening = None; end = Err fault }

-- what the row says of an input that was judged, or failed
abbrev pub SaysEnd : Form → Limits → Bool → Bool → Option Texts → Option (List ℕ) → List ℕ → SummedInput → Result Judgement Fault → Type 0
SaysEnd form limits digests whole held standard name input (Ok judgement) =
    (input.row.file ≡ Some (name_in form name)) × (input.row.verdict ≡ unended (verdict_line judgement.verdict))
    × (input.row.header ≡ cells_in input.opening) × (input.row.senders ≡ Some (senders_in input.opening)) × IsJudged judgement
    × (left : Option (List ℕ)) × IsLeftOf held standard (Some name) left
    × IfSome left (λ text. IsStatusBy (Counts None) limits (wanted_of whole) text judgement.status
    × IsRowOn limits digests text judgement.verdict input.opening input.row)
SaysEnd form limits digests whole held standard name input (Err fault) =
    (input.row ≡ failed_row (name_in form name)) × (input.opening ≡ None)

-- it is what the word names: what lies under that name, or is on standard input
abbrev pub IsInput : Form → Limits → Bool → Bool → Option Texts → Option (List ℕ) → List ℕ → SummedInput → Type 0
IsInput form limits digests whole held standard name input =
    SaysEnd form limits digests whole held standard name input input.end

-- an input as one of those that a report on several has
abbrev pub piece_of : SummedInput → Piece
piece_of input = record { lines = []; end = input.end }

-- ---- what is counted of several

-- how many senders are kept with one more, which may be kept already
abbrev pub many_with : List ℕ → List (List ℕ) → ℕ
many_with sender senders = length senders + (if is_among sender senders then 0 else 1)

abbrev pub many_with_if : Option (List ℕ) → List (List ℕ) → ℕ
many_with_if None senders = length senders
many_with_if (Some sender) senders = many_with sender senders

-- the totals are those of these inputs
pub record AreTotals (totals : Totals) (inputs : List SummedInput) : Type 0 where
  pub bytes : totals.bytes ≡ sum_of bytes_of inputs
  pub after : totals.after ≡ sum_of after_of inputs
  pub numbers : (i : ℕ) → slice_index totals.summary.numbers i ≡ sum_of (number_at i) inputs
  pub many : length totals.senders.items ≡ different (senders_of inputs)
  pub senders : (one : List ℕ) → is_among one totals.senders.items ≡ is_among one (senders_of inputs)
  pub sums : AreSums totals.sums (map verdict_of inputs)

-- they are with one input more
abbrev pub AddsInput : SummedInput → Totals → Totals → Type 0
AddsInput input old new = (inputs : List SummedInput) → AreTotals old inputs → AreTotals new (inputs ++ input ∷ [])

-- ---- what is written

-- One input more: its row was written, and it was counted.
abbrev pub TellsNext : {W : Type 0} → Form → Limits → Bool → Bool → Bool → Option Texts → Option (List ℕ) → List ℕ → (W → Option (List ℕ))
    → W → W → ℕ → ℕ → Totals → Totals → Result (Unit {0}) Stop → Type 0
TellsNext form limits digests whole quiet held standard name contents old new failures now totals totals_now (Ok u) =
    (input : SummedInput) × IsInput form limits digests whole held standard name input
    × Appends (contents old) (contents new) (rows_text form quiet (input ∷ [])) × CountsEnd input.end failures now
    × AddsInput input totals totals_now × (totals_now.sums.status ≡ worse_status totals.sums.status (status_in input.end))
TellsNext form limits digests whole quiet held standard name contents old new failures now totals totals_now (Err stop) = Unit {0}

-- These inputs were told, one for each of the names, and counted.
pub record AreInputs {W : Type 0} (form : Form) (limits : Limits) (digests whole quiet : Bool) (held : Option Texts) (standard : Option (List ℕ))
    (names : List (List ℕ)) (contents : W → Option (List ℕ)) (old new : W) (failures now : ℕ) (totals : Totals) (inputs : List SummedInput) : Type 0
  where
    pub each : AllZip (IsInput form limits digests whole held standard) names inputs
    pub written : Appends (contents old) (contents new) (rows_text form quiet inputs)
    pub counted : CountsEnds (map piece_of inputs) failures now
    pub totals_are : AreTotals totals inputs
    pub worst : totals.sums.status ≡ worst_from statuses.Good (map piece_of inputs)

-- so they were, one after another
abbrev pub TellsInputs : {W : Type 0} → Form → Limits → Bool → Bool → Bool → Option Texts → Option (List ℕ) → List (List ℕ)
    → (W → Option (List ℕ)) → W → W → ℕ → ℕ → Totals → Result (Unit {0}) Stop → Type 0
TellsInputs form limits digests whole quiet held standard names contents old new failures now totals (Ok u) =
    (inputs : List SummedInput) × AreInputs form limits digests whole quiet held standard names contents old new failures now totals inputs
TellsInputs form limits digests whole quiet held standard names contents old new failures now totals (Err stop) = Unit {0}

-- what stands for their sums was written
abbrev pub WritesSums : {W : Type 0} → (W → Option (List ℕ)) → Form → Bool → ℕ → List SummedInput → W → W → Type 0
WritesSums contents form tells files inputs old new =
    (text : List ℕ) × IsSumsText form tells files inputs text × Appends (contents old) (contents new) text

-- ---- all that is told

-- After what the writer had stand the row of each input that a word names, in order, or of standard input without one, and last, of
-- several, or where just these are told, the row of the sums. The status is the worst of theirs; of each that failed one more failure was
-- counted.
abbrev pub TellsRows : {W : Type 0} → Form → Limits → Bool → Bool → Bool → Option Texts → Option (List ℕ) → List (List ℕ)
    → (W → Option (List ℕ)) → W → W → ℕ → ℕ → Result Status Stop → Type 0
TellsRows form limits digests whole quiet held standard names contents old new failures now (Ok status) =
    (inputs : List SummedInput) × AllZip (IsInput form limits digests whole held standard) (summed names) inputs
    × (last : List ℕ) × IsSumsText form (quiet || nat_lt 1 (length names)) (length (summed names)) inputs last
    × Appends (contents old) (contents new) (heading_in form ++ rows_text form quiet inputs ++ last)
    × CountsEnds (map piece_of inputs) failures now × (status ≡ worst_from statuses.Good (map piece_of inputs))
TellsRows form limits digests whole quiet held standard names contents old new failures now (Err stop) = Unit {0}

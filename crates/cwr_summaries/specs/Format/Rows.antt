-- What the rows of a summary say of inputs, and of the good ones together.
use Rattle.std.specs.Prelude.{◌≡◌, ℕ, ◌+◌, ◌-◌, ◌^◌, min, ◌||◌, Bool, true, false, List, [], ◌∷◌, ◌++◌, codes, filter, flat_map, length, map, slice_index, sum_by, take, unwrap_or, Option, Some, None, IfSome, option_to_list, if◌then◌else◌, Result, Ok, Err}
use Rattle.std.specs.List.{list_any}
use Rattle.std.specs.Str.{bytes_eq}
use Rattle.sha2.specs.Sha256.{sha256}
use Rattle.cwr_fields.specs.declared.kinds.Kind.TheVariants as kinds
use Rattle.cwr_lines.specs.Format.Records.{RecordValue}
use Rattle.cwr_shape.specs.declared.limits.Limits.{Limits}
use Rattle.cwr_values.specs.declared.items.Item.{Item}
use Rattle.cwr_values.specs.declared.items.Item.TheVariants.{Opened}
use Rattle.cwr_values.specs.Format.Rows.{canonical_text}
use Rattle.cwr_values.specs.Format.Values.{TransmissionValue}
use Rattle.cwr_judge.specs.Format.Ends.{IsAccepted}
use Rattle.cwr_findings.specs.Format.Findings.{is_a}
use Rattle.cwr_sent.specs.Format.SentFacts.{sender_of}
use Rattle.cwr_json.specs.declared.encodings.Encoding.TheVariants.{Latin1}
use Rattle.cwr_tools.specs.declared.verdicts.Verdict.{Verdict}
use Rattle.cwr_tools.specs.declared.verdicts.Verdict.TheVariants.{Good}
use Rattle.cwr_tools.specs.Format.Verdicts.{IsVerdictAfter}
use Rattle.cwr_files.specs.declared.faults.Fault.{Fault}
use Rattle.cwr_files.specs.Format.Inputs.{shown_name}
use Rattle.cwr_endings.specs.declared.judgements.Judgement.{Judgement}
use Rattle.cwr_endings.specs.Format.Sums.{is_good, sums_line}
use Rattle.cwr_state_rows.specs.declared.forms.Form.TheVariants as table_forms
use Rattle.cwr_state_rows.specs.Format.RowTexts as tables
use Rattle.cwr_digests.specs.Format.Digests.{digest_of}
use Rattle.cwr_summary.specs.declared.columns.Column.{Column}
use Rattle.cwr_summary.specs.Format.Columns.{place}
use Rattle.cwr_summary.specs.Format.Summaries.{IsSummaryOf}
use Rattle.cwr_summary_rows.specs.declared.forms.Form.{Form}
use Rattle.cwr_summary_rows.specs.declared.forms.Form.TheVariants.{Names, Words, Csv, Json}
use Rattle.cwr_summary_rows.specs.Format.Rows.{HeaderCells, RowValue, header_cells, heading, no_header, nothing, row_text}

-- ---- the row of an input

-- what the input that a word names is called
abbrev pub called : List ℕ → List ℕ
called word = if bytes_eq word (codes "-") then codes "standard input" else word

-- the same as it is shown in that form
abbrev pub name_in : Form → List ℕ → List ℕ
name_in Words word = shown_name word
name_in Names word = tables.shown_name (table_forms.Csv Latin1) (called word)
name_in Csv word = tables.shown_name (table_forms.Csv Latin1) (called word)
name_in Json word = tables.shown_name (table_forms.Json Latin1) (called word)

-- the HDR among items
abbrev pub opening_in : List Item → Option RecordValue
opening_in [] = None
opening_in (Opened r ∷ rest) = if is_a kinds.Hdr r then Some r else opening_in rest
opening_in (item ∷ rest) = opening_in rest

-- its cells in a row
abbrev pub cells_in : Option RecordValue → HeaderCells
cells_in None = no_header
cells_in (Some r) = if is_a kinds.Hdr r then header_cells r else no_header

-- how many senders it names
abbrev pub senders_in : Option RecordValue → ℕ
senders_in None = 0
senders_in (Some r) = 1

-- a line without its line feed
abbrev pub unended : List ℕ → List ℕ
unended line = take (length line - 1) line

-- Behind a good transmission so many bytes stand, and the digest of its canonical text, if it is told, is that. Of a text that isn't good
-- neither is told.
abbrev pub EndsRow : Limits → List ℕ → Verdict → RowValue → Type 0
EndsRow limits text (Good groups transactions records) row =
    (v : TransmissionValue) × (n : ℕ) × IsAccepted limits text v n × (row.after ≡ Some (min (length text - n) (2 ^ 64 - 1)))
    × IfSome row.canonical (λ digest. digest ≡ sha256 (canonical_text v))
EndsRow limits text verdict row = (row.after ≡ None) × (row.canonical ≡ None)

-- The row of a text with that verdict: its numbers are the sums over the items before its end, among which that HDR is, and its bytes are
-- counted, and digested where that is asked for.
pub record IsRowOn (limits : Limits) (digests : Bool) (text : List ℕ) (verdict : Verdict) (opening : Option RecordValue) (row : RowValue)
    : Type 0 where
  pub given : List Item
  pub read : IsVerdictAfter limits text verdict given
  pub opened : opening ≡ opening_in given
  pub numbers : List ℕ
  pub told : row.numbers ≡ Some numbers
  pub sums : IsSummaryOf given numbers
  pub bytes : row.bytes ≡ Some (min (length text) (2 ^ 64 - 1))
  pub digest : row.digest ≡ digest_of digests text
  pub ended : EndsRow limits text verdict row

-- an input: its row, the HDR that was read of it, and how it ended
pub record SummedInput : Type 0 where
  pub row : RowValue
  pub opening : Option RecordValue
  pub end : Result Judgement Fault

-- the row of one that failed
abbrev pub failed_row : List ℕ → RowValue
failed_row name = record nothing { file = Some name; verdict = codes "FAILED" }

-- ---- the row of the good ones together

-- the verdict with which it ended, where it was judged
abbrev pub verdict_at : Result Judgement Fault → Option Verdict
verdict_at (Ok judgement) = Some judgement.verdict
verdict_at (Err fault) = None

abbrev pub verdict_of : SummedInput → Option Verdict
verdict_of input = verdict_at input.end

-- those whose transmission is good
abbrev pub good_of : List SummedInput → List SummedInput
good_of inputs = filter (λ input. is_good (verdict_of input)) inputs

-- a number of theirs together; the highest number stands for more too
abbrev pub sum_of : (SummedInput → ℕ) → List SummedInput → ℕ
sum_of number inputs = min (sum_by number (good_of inputs)) (2 ^ 64 - 1)

abbrev pub bytes_of : SummedInput → ℕ
bytes_of input = unwrap_or input.row.bytes 0

abbrev pub after_of : SummedInput → ℕ
after_of input = unwrap_or input.row.after 0

abbrev pub number_at : ℕ → SummedInput → ℕ
number_at i input = slice_index (unwrap_or input.row.numbers []) i

-- their senders, by type and ID
abbrev pub senders_of : List SummedInput → List (List ℕ)
senders_of inputs = flat_map (λ input. map sender_of (option_to_list input.opening)) (good_of inputs)

-- one of them is that
abbrev pub is_among : List ℕ → List (List ℕ) → Bool
is_among one all = list_any (λ other. bytes_eq other one) all

-- how many of them there are that stand neither among these nor among those before
abbrev pub different_after : List (List ℕ) → List (List ℕ) → ℕ
different_after before [] = 0
different_after before (one ∷ rest) = (if is_among one before then 0 else 1) + different_after (before ++ one ∷ []) rest

-- how many different ones there are
abbrev pub different : List (List ℕ) → ℕ
different all = different_after [] all

-- the row of so many inputs together
pub record IsSumsRow (files : ℕ) (inputs : List SummedInput) (row : RowValue) : Type 0 where
  pub file : row.file ≡ None
  pub bytes : row.bytes ≡ Some (sum_of bytes_of inputs)
  pub after : row.after ≡ Some (sum_of after_of inputs)
  pub digest : row.digest ≡ None
  pub canonical : row.canonical ≡ None
  pub verdict : row.verdict ≡ unended (sums_line files (map verdict_of inputs))
  pub header : row.header ≡ no_header
  pub numbers : List ℕ
  pub told : row.numbers ≡ Some numbers
  pub sums : (column : Column) → slice_index numbers (place column) ≡ sum_of (number_at (place column)) inputs
  pub senders : row.senders ≡ Some (different (senders_of inputs))

-- ---- all that is told

-- before the rows of a table the names of its columns stand
abbrev pub heading_in : Form → List ℕ
heading_in Csv = heading
heading_in form = []

-- the rows of inputs, or where just the sums are told none
abbrev pub rows_text : Form → Bool → List SummedInput → List ℕ
rows_text form true inputs = []
rows_text form false inputs = flat_map (λ input. row_text form input.row) inputs

-- the row of the sums, where it is told
abbrev pub IsSumsText : Form → Bool → ℕ → List SummedInput → List ℕ → Type 0
IsSumsText form false files inputs text = text ≡ []
IsSumsText form true files inputs text = (row : RowValue) × IsSumsRow files inputs row × (text ≡ row_text form row)

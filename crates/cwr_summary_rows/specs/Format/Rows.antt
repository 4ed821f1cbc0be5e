-- The row of a summary: what an input has, or several together.
use Rattle.std.specs.Prelude.{ℕ, ◌-◌, ◌^◌, min, List, [], ◌∷◌, ◌++◌, codes, Option, Some, None, option_map, slice_index, sum_by, map}
use Rattle.std.specs.List.{flat_map}
use Rattle.cwr_fields.specs.Format.Bytes.{trimmed}
use Rattle.cwr_fields.specs.Format.Codes.{transaction_types, type_code}
use Rattle.cwr_fields.specs.Format.Kinds.{all_kinds, letters}
use Rattle.cwr_fields.specs.Format.WorkCodes.{version_code, version_types}
use Rattle.cwr_fields.specs.Format.MessageCodes.{status_code, transaction_statuses}
use Rattle.cwr_fields.specs.declared.kinds.Kind.{Kind}
use Rattle.cwr_fields.specs.declared.codes.TransactionType.{TransactionType}
use Rattle.cwr_fields.specs.declared.codes.TransactionType.TheVariants as types
use Rattle.cwr_fields.specs.declared.work_codes.VersionType.{VersionType}
use Rattle.cwr_fields.specs.declared.message_codes.TransactionStatus.{TransactionStatus}
use Rattle.cwr_findings.specs.declared.rules.Rule.TheVariants as rules
use Rattle.cwr_lines.specs.Format.Records.{RecordValue, cell_named}
use Rattle.cwr_summary.specs.declared.columns.Column.{Column}
use Rattle.cwr_summary.specs.declared.columns.Column.TheVariants.{Groups, Transactions, Records, Works, Acknowledgements, Findings, Controlled, Others, WorksWithout, WorksOff}
use Rattle.cwr_summary.specs.declared.columns.Right.{Right}
use Rattle.cwr_summary.specs.declared.columns.Right.TheVariants as rights
use Rattle.cwr_summary.specs.Format.Columns.{place}
use Rattle.cwr_summary.specs.Format.Summaries.{all_rights}
use Rattle.cwr_summary_rows.specs.declared.forms.Form.{Form}
use Rattle.cwr_summary_rows.specs.declared.forms.Form.TheVariants.{Names, Words, Csv, Json}
use Rattle.cwr_summary_rows.specs.Format.Cells.{bytes_cell, digest_cell, number_cell, share_cell}

-- the cells of HDR that a row has
pub record HeaderCells : Type 0 where
  pub sender_type : List ℕ
  pub sender_id : List ℕ
  pub sender_name : List ℕ
  pub creation_date : List ℕ
  pub creation_time : List ℕ
  pub transmission_date : List ℕ

abbrev pub header_cells : RecordValue → HeaderCells
header_cells r = record {
  sender_type = cell_named "sender type" r;
  sender_id = cell_named "sender id" r;
  sender_name = cell_named "sender name" r;
  creation_date = cell_named "creation date" r;
  creation_time = cell_named "creation time" r;
  transmission_date = cell_named "transmission date" r;
}

-- where there is none, nothing stands in them
abbrev pub no_header : HeaderCells
no_header = record {
  sender_type = [];
  sender_id = [];
  sender_name = [];
  creation_date = [];
  creation_time = [];
  transmission_date = [];
}

-- what a row says
pub record RowValue : Type 0 where
  -- the name as it is shown in the form; of sums none
  pub file : Option (List ℕ)
  pub bytes : Option ℕ
  pub after : Option ℕ
  pub digest : Option (List ℕ)
  pub canonical : Option (List ℕ)
  pub verdict : List ℕ
  pub header : HeaderCells
  -- the numbers of a summary, each at its column's place
  pub numbers : Option (List ℕ)
  pub advice : Option (ℕ × ℕ × ℕ)
  pub senders : Option ℕ

-- ---- its first cells

-- the file
abbrev pub file_part : Form → Option (List ℕ) → List ℕ
file_part Names name = codes "file"
file_part Words (Some name) = name ++ codes "\n"
file_part Words None = codes "SUMS\n"
file_part Csv (Some name) = name
file_part Csv None = []
file_part Json (Some name) = codes "{\"file\":" ++ name
file_part Json None = codes "{\"file\":null"

-- a cell of HDR, without trailing spaces
abbrev pub header_cell : Form → List ℕ → List ℕ → List ℕ
header_cell form name text = bytes_cell form name (trimmed text)

abbrev pub header_parts : Form → HeaderCells → List ℕ
header_parts form header =
    header_cell form (codes "sender_type") header.sender_type ++ header_cell form (codes "sender_id") header.sender_id
    ++ header_cell form (codes "sender_name") header.sender_name ++ header_cell form (codes "creation_date") header.creation_date
    ++ header_cell form (codes "creation_time") header.creation_time
    ++ header_cell form (codes "transmission_date") header.transmission_date

abbrev pub front_parts : Form → RowValue → List ℕ
front_parts form row =
    file_part form row.file ++ number_cell form (codes "bytes") row.bytes ++ number_cell form (codes "bytes_after") row.after
    ++ digest_cell form (codes "sha256") row.digest ++ digest_cell form (codes "canonical_sha256") row.canonical
    ++ bytes_cell form (codes "verdict") row.verdict

-- ---- its numbers

-- the sum of some columns, as far as 64 bits go
abbrev pub sum_in : List Column → List ℕ → ℕ
sum_in columns numbers = min (sum_by (λ column. slice_index numbers (place column)) columns) (2 ^ 64 - 1)

abbrev pub sum_cell : Form → Option (List ℕ) → List ℕ → List Column → List ℕ
sum_cell form numbers name columns = number_cell form name (option_map (sum_in columns) numbers)

-- the columns of findings of a level
abbrev pub transaction_findings : List Column
transaction_findings =
    Findings rules.V3 ∷ Findings rules.V4 ∷ Findings rules.V5 ∷ Findings rules.V6 ∷ Findings rules.V9 ∷ Findings rules.V11 ∷ []

abbrev pub record_findings : List Column
record_findings = Findings rules.V2 ∷ Findings rules.V7 ∷ Findings rules.V8 ∷ []

abbrev pub field_findings : List Column
field_findings = Findings rules.V1 ∷ Findings rules.V10 ∷ []

abbrev pub type_cell : Form → Option (List ℕ) → TransactionType → List ℕ
type_cell form numbers this_type = sum_cell form numbers (codes "transactions_" ++ type_code this_type) (Transactions this_type ∷ [])

abbrev pub kind_cell : Form → Option (List ℕ) → Kind → List ℕ
kind_cell form numbers kind = sum_cell form numbers (codes "records_" ++ letters kind) (Records kind ∷ [])

abbrev pub version_cell : Form → Option (List ℕ) → VersionType → List ℕ
version_cell form numbers version = sum_cell form numbers (codes "works_" ++ version_code version) (Works version ∷ [])

abbrev pub status_cell : Form → Option (List ℕ) → TransactionStatus → List ℕ
status_cell form numbers status =
    sum_cell form numbers (codes "acknowledgements_" ++ status_code status) (Acknowledgements status ∷ [])

abbrev pub count_parts : Form → Option (List ℕ) → List ℕ
count_parts form numbers =
    sum_cell form numbers (codes "groups") (Groups ∷ [])
    ++ sum_cell form numbers (codes "transactions") (map Transactions transaction_types)
    ++ flat_map (type_cell form numbers) transaction_types
    ++ sum_cell form numbers (codes "records") (map Records all_kinds)
    ++ flat_map (kind_cell form numbers) all_kinds

abbrev pub work_parts : Form → Option (List ℕ) → List ℕ
work_parts form numbers =
    sum_cell form numbers (codes "works") (map Works version_types)
    ++ flat_map (version_cell form numbers) version_types
    ++ sum_cell form numbers (codes "agreements") (Transactions types.Agreement ∷ [])
    ++ sum_cell form numbers (codes "acknowledgements") (Transactions types.Acknowledgement ∷ [])
    ++ flat_map (status_cell form numbers) transaction_statuses

abbrev pub finding_parts : Form → Option (List ℕ) → List ℕ
finding_parts form numbers =
    sum_cell form numbers (codes "findings") (transaction_findings ++ record_findings ++ field_findings)
    ++ sum_cell form numbers (codes "findings_T") transaction_findings
    ++ sum_cell form numbers (codes "findings_R") record_findings
    ++ sum_cell form numbers (codes "findings_F") field_findings

abbrev pub advice_parts : Form → Option (ℕ × ℕ × ℕ) → List ℕ
advice_parts form advice =
    number_cell form (codes "advice_T") (option_map (λ a. a.0) advice)
    ++ number_cell form (codes "advice_R") (option_map (λ a. a.1) advice)
    ++ number_cell form (codes "advice_F") (option_map (λ a. a.2) advice)

-- ---- its shares

abbrev pub right_name : Right → List ℕ
right_name rights.Performing = codes "pr"
right_name rights.Mechanical = codes "mr"
right_name rights.Synchronization = codes "sr"

-- a sum of shares
abbrev pub shares_cell : Form → Option (List ℕ) → List ℕ → Column → List ℕ
shares_cell form numbers name column = share_cell form name (option_map (λ n. slice_index n (place column)) numbers)

abbrev pub right_part : Form → Option (List ℕ) → Right → List ℕ
right_part form numbers right =
    shares_cell form numbers (codes "controlled_" ++ right_name right) (Controlled right)
    ++ shares_cell form numbers (codes "others_" ++ right_name right) (Others right)
    ++ sum_cell form numbers (codes "works_without_" ++ right_name right) (WorksWithout right ∷ [])
    ++ sum_cell form numbers (codes "works_off_" ++ right_name right) (WorksOff right ∷ [])

-- ---- the row

abbrev pub last_part : Form → List ℕ
last_part Names = codes "\r\n"
last_part Words = []
last_part Csv = codes "\r\n"
last_part Json = codes "}\n"

abbrev pub row_text : Form → RowValue → List ℕ
row_text form row =
    front_parts form row ++ header_parts form row.header ++ count_parts form row.numbers ++ work_parts form row.numbers
    ++ finding_parts form row.numbers ++ advice_parts form row.advice ++ flat_map (right_part form row.numbers) all_rights
    ++ number_cell form (codes "senders") row.senders ++ last_part form

-- a row in which nothing stands
abbrev pub nothing : RowValue
nothing = record {
  file = None;
  bytes = None;
  after = None;
  digest = None;
  canonical = None;
  verdict = [];
  header = no_header;
  numbers = None;
  advice = None;
  senders = None;
}

-- the names of the columns, as a row of a table
abbrev pub heading : List ℕ
heading = row_text Names nothing

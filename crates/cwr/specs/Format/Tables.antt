-- The table that the words ask for, how cells and acknowledgements are told, and how transactions are selected.
use Rattle.std.specs.Prelude.{Bool, true, false, if◌then◌else◌, option_map}
use Rattle.cwr_shape.specs.declared.limits.Limits.{Limits}
use Rattle.cwr_words.specs.declared.words.Kinds.{Kinds}
use Rattle.cwr_words.specs.declared.words.SelectWords.{SelectWords}
use Rattle.cwr_words.specs.declared.words.SentAs.{SentAs}
use Rattle.cwr_words.specs.declared.words.SentAs.TheVariants as works_sent
use Rattle.cwr_select.specs.declared.changes.WorkKind.{WorkKind}
use Rattle.cwr_select.specs.declared.changes.WorkKind.TheVariants.{NewWork, RevisedWork}
use Rattle.cwr_select.specs.declared.criteria.ByKind.{ByKind}
use Rattle.cwr_transform.specs.declared.selections.Selection.{Selection}
use Rattle.cwr_words.specs.declared.words.Rows.{Rows}
use Rattle.cwr_words.specs.declared.words.Rows.TheVariants as rows
use Rattle.cwr_tables.specs.declared.tables.Table.{Table}
use Rattle.cwr_tables.specs.declared.tables.Table.TheVariants as tables
use Rattle.cwr_json.specs.declared.encodings.Encoding.{Encoding}
use Rattle.cwr_json.specs.declared.encodings.Encoding.TheVariants.{Latin1, Utf8}
use Rattle.cwr_acks.specs.declared.forms.Cells.TheVariants.{Bytes, Characters}
use Rattle.cwr_acks.specs.declared.forms.Form.{Form}
use Rattle.cwr_acks.specs.declared.forms.Form.TheVariants.{Words, Json}
use Rattle.cwr_summary_rows.specs.declared.forms.Form.{Form as RowsForm}
use Rattle.cwr_summary_rows.specs.declared.forms.Form.TheVariants as rows_as

-- the table that has rows of these
abbrev pub table_of : Rows → Table
table_of (rows.Records this_kind) = tables.Records this_kind
table_of rows.Works = tables.Works

-- how cells are shown
abbrev pub encoding_of : Bool → Encoding
encoding_of utf8 = if utf8 then Utf8 else Latin1

-- how it is told what acknowledgements say: as JSON, or for people, where cells stand byte for byte, or in UTF-8
abbrev pub form_of : Bool → Bool → Form
form_of true utf8 = Json (encoding_of utf8)
form_of false true = Words (Characters Utf8)
form_of false false = Words Bytes

-- how the rows of a summary are put: as a table, as JSON, or for people
abbrev pub rows_form : Bool → Bool → RowsForm
rows_form true as_json = rows_as.Csv
rows_form false true = rows_as.Json
rows_form false false = rows_as.Words

-- the kinds by which transactions are chosen
abbrev pub kinds_by : Kinds → ByKind
kinds_by kinds = record {
  agreements = kinds.agreements;
  new_works = kinds.new_works;
  revised_works = kinds.revised_works;
  acknowledgements = kinds.acknowledgements;
}

-- what works are sent as
abbrev pub work_kind_of : SentAs → WorkKind
work_kind_of works_sent.NewWorks = NewWork
work_kind_of works_sent.RevisedWorks = RevisedWork

-- how transactions are selected, within these limits, where nothing may follow them or something may
abbrev pub selection_of : Limits → Bool → SelectWords → Selection
selection_of limits whole words = record {
  limits = limits;
  wanted = record { whole = whole; fail_on = words.fail_on };
  file = words.file;
  out = words.out;
  only_new = words.only_new;
  works = words.works;
  places = words.places;
  kinds = option_map kinds_by words.kinds;
  party = words.party;
  others = words.others;
  changes = record { created = words.created; works = option_map work_kind_of words.sent_as };
}

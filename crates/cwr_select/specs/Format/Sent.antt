-- What is sent of a transmission: what is selected of it, created at a moment, and its works as new or as revised ones.
use Rattle.std.specs.Prelude.{Bool, true, false, map, List, [], ◌∷◌, Option, Some, None, option_map, if◌then◌else◌}
use Rattle.std.specs.Prelude.{ℕ}
use Rattle.std.specs.Option.{option_map_or}
use Rattle.cwr_fields.specs.declared.codes.TransactionType.TheVariants as types
use Rattle.cwr_fields.specs.declared.kinds.Kind.{Kind}
use Rattle.cwr_fields.specs.declared.kinds.Kind.TheVariants as kinds
use Rattle.cwr_fields.specs.Format.Kinds.{letters}
use Rattle.cwr_lines.specs.Format.Carried.{set_cell}
use Rattle.cwr_lines.specs.Format.Records.{RecordValue}
use Rattle.cwr_shape.specs.declared.symbols.Symbol.{Symbol}
use Rattle.cwr_shape.specs.declared.symbols.Symbol.TheVariants.{Grh}
use Rattle.cwr_values.specs.Format.Values.{GroupValue, TransmissionValue, symbol_of}
use Rattle.cwr_values.specs.Format.Rows.{canonical_text}
use Rattle.cwr_findings.specs.Format.Headers.{is_work}
use Rattle.cwr_select.specs.declared.changes.Changes.{Changes}
use Rattle.cwr_select.specs.declared.changes.WorkKind.{WorkKind}
use Rattle.cwr_select.specs.declared.changes.WorkKind.TheVariants.{NewWork, RevisedWork}
use Rattle.cwr_select.specs.Format.Created.{created_at}
use Rattle.cwr_select.specs.Format.Selections.{Choice, selected}

-- ---- works

-- the kind of the header that a work is sent with
abbrev pub kind_of : WorkKind → Kind
kind_of NewWork = kinds.Nwr
kind_of RevisedWork = kinds.Rev

-- The header of a work, NWR or REV, has that kind and the cells that it had: both kinds have the same fields. AGR and ACK stay.
abbrev pub header_as : WorkKind → RecordValue → RecordValue
header_as works head = if is_work head then record { kind = kind_of works; cells = head.cells } else head

-- A transaction has that header. The records after it stay, and with them the copy in an acknowledgement.
abbrev pub transaction_as : WorkKind → List RecordValue → List RecordValue
transaction_as works [] = []
transaction_as works (head ∷ records) = header_as works head ∷ records

-- ---- groups

-- the order sees a GRH of works
abbrev pub opens_works : Symbol → Bool
opens_works (Grh types.NewWork) = true
opens_works (Grh types.RevisedWork) = true
opens_works symbol = false

-- such a GRH names the type that the works are sent as; any other stays
abbrev pub head_as : WorkKind → RecordValue → RecordValue
head_as works head = if opens_works (symbol_of head) then set_cell 2 (letters (kind_of works)) head else head

abbrev pub group_as : WorkKind → GroupValue → GroupValue
group_as works g = record { head = head_as works g.head; transactions = map (transaction_as works) g.transactions; foot = g.foot }

-- ---- a transmission

-- The works of a transmission are sent so; without a kind they stay. Its groups stay apart, where neighbours are then of one type too:
-- the format lets any type follow any.
abbrev pub sent_as : Option WorkKind → TransmissionValue → TransmissionValue
sent_as None v = v
sent_as (Some works) v = record { opening = v.opening; groups = map (group_as works) v.groups }

-- What is selected of a transmission, with its works sent so. The choice is made of the transactions that they were before.
abbrev pub selected_as : Option WorkKind → Choice → TransmissionValue → Option TransmissionValue
selected_as works choice v = option_map (sent_as works) (selected choice v)

-- what is sent of a transmission, with these changes; none where no transaction is selected
abbrev pub sent : Changes → Choice → TransmissionValue → Option TransmissionValue
sent changes choice v = selected_as changes.works choice (created_at changes.created v)

-- the canonical text of a transmission, and none where there is none
abbrev pub text_of : Option TransmissionValue → List ℕ
text_of one = option_map_or canonical_text one []

-- that of what is sent; where no transaction is selected nothing is written
abbrev pub sent_text : Changes → Choice → TransmissionValue → List ℕ
sent_text changes choice v = text_of (sent changes choice v)

-- The table of the records of a kind: a heading, and a row for each record.
use Rattle.std.specs.Prelude.{ℕ, ◌+◌, List, [], ◌∷◌, ◌++◌, codes, count_by, decimal, map, take, if◌then◌else◌}
use Rattle.std.specs.List.{after_last, enumerate_from, flat_map}
use Rattle.cwr_fields.specs.Format.Bytes.{trimmed}
use Rattle.cwr_fields.specs.declared.kinds.Kind.{Kind}
use Rattle.cwr_lines.specs.Format.Records.{RecordValue, carried_fields}
use Rattle.cwr_values.specs.declared.items.Item.{Item}
use Rattle.cwr_values.specs.declared.items.Item.TheVariants.{Opened, GroupOpened, Transaction, GroupClosed, Ended}
use Rattle.cwr_values.specs.Format.Rows.{trailer}
use Rattle.cwr_judge.specs.Format.Items.{is_transaction, opens_group}
use Rattle.cwr_json.specs.declared.encodings.Encoding.{Encoding}
use Rattle.cwr_json.specs.Format.Encodings.{characters}
use Rattle.cwr_json.specs.Format.Forms.{key_of}
use Rattle.cwr_findings.specs.Format.Findings.{is_a}
use Rattle.cwr_tables.specs.declared.places.Place.{Place}
use Rattle.cwr_tables.specs.declared.places.RowNumbers.{RowNumbers}
use Rattle.cwr_tables.specs.declared.places.RowNumbers.TheVariants.{Outside, InGroup, InTransaction}
use Rattle.cwr_tables.specs.Format.Headers.{header_columns, work_number, work_title}
use Rattle.cwr_tables.specs.Format.Tables.{row_text}

-- ---- columns

-- the first columns
abbrev pub number_columns : List (List ℕ)
number_columns = codes "group" ∷ codes "transaction" ∷ codes "record" ∷ []

-- the columns of a kind: the first ones, then one for each field that its records carry, and what a row says of its transaction
abbrev pub columns : Kind → List (List ℕ)
columns this_kind = number_columns ++ (map (λ f. key_of f.name) (carried_fields this_kind) ++ header_columns this_kind)

abbrev pub heading : Kind → List ℕ
heading this_kind = row_text (columns this_kind)

-- ---- rows

-- the first cells of a row: a number that a record hasn't is blank
abbrev pub number_cells : RowNumbers → List (List ℕ)
number_cells Outside = [] ∷ [] ∷ [] ∷ []
number_cells (InGroup group) = decimal group ∷ [] ∷ [] ∷ []
number_cells (InTransaction group transaction sequence) = decimal group ∷ decimal transaction ∷ decimal sequence ∷ []

-- a cell without trailing spaces, in the characters that its bytes are shown as in data, in UTF-8
abbrev pub shown_cell : Encoding → List ℕ → List ℕ
shown_cell enc cell = characters enc (trimmed cell)

-- the row of a record with these numbers
abbrev pub record_row : Encoding → RowNumbers → RecordValue → List ℕ
record_row enc numbers r = row_text (number_cells numbers ++ map (shown_cell enc) r.cells)

-- the same where the record is of the kind, and else nothing
abbrev pub row_of_kind : Encoding → Kind → RowNumbers → RecordValue → List ℕ
row_of_kind enc this_kind numbers r = if is_a this_kind r then record_row enc numbers r else []

-- what a row says of its transaction, by the header
abbrev pub header_cells : Encoding → RecordValue → List (List ℕ)
header_cells enc head = shown_cell enc (work_number head) ∷ shown_cell enc (work_title head) ∷ []

-- the row of a record with these numbers, in the transaction of that header
abbrev pub inner_row : Encoding → RecordValue → RowNumbers → RecordValue → List ℕ
inner_row enc head numbers r = row_text (number_cells numbers ++ (map (shown_cell enc) r.cells ++ header_cells enc head))

-- the same where the record is of the kind, and else nothing
abbrev pub inner_of_kind : Encoding → Kind → RecordValue → RowNumbers → RecordValue → List ℕ
inner_of_kind enc this_kind head numbers r = if is_a this_kind r then inner_row enc head numbers r else []

-- the rows of the records of the kind, in the transaction of that header
abbrev pub rows_under : Encoding → RecordValue → Kind → Place → List RecordValue → List ℕ
rows_under enc head this_kind p t =
    flat_map (λ q. inner_of_kind enc this_kind head (InTransaction p.group p.transaction q.0) q.1) (enumerate_from 0 t)

-- the rows of a transaction's records of the kind
abbrev pub transaction_rows : Encoding → Kind → Place → List RecordValue → List ℕ
transaction_rows enc this_kind p [] = []
transaction_rows enc this_kind p (head ∷ rest) = rows_under enc head this_kind p (head ∷ rest)

-- the rows of an item's records of the kind
abbrev pub item_rows : Encoding → Kind → Place → Item → List ℕ
item_rows enc this_kind p (Opened r) = row_of_kind enc this_kind Outside r
item_rows enc this_kind p (GroupOpened r) = row_of_kind enc this_kind (InGroup p.group) r
item_rows enc this_kind p (Transaction t) = transaction_rows enc this_kind p t
item_rows enc this_kind p (GroupClosed r) = row_of_kind enc this_kind (InGroup p.group) r
item_rows enc this_kind p Ended = row_of_kind enc this_kind Outside trailer

-- ---- the table

-- where an item stands, by the items before it
abbrev pub place_after : List Item → Item → Place
place_after before item =
    record {
      group = count_by opens_group before + (if opens_group item then 1 else 0);
      transaction = count_by is_transaction (after_last opens_group before);
    }

-- the rows of items
unfoldable pub rows_of : Encoding → Kind → List Item → List ℕ
rows_of enc this_kind items = flat_map (λ q. item_rows enc this_kind (place_after (take q.0 items) q.1) q.1) (enumerate_from 0 items)

-- the table of items
abbrev pub table_of : Encoding → Kind → List Item → List ℕ
table_of enc this_kind items = heading this_kind ++ rows_of enc this_kind items

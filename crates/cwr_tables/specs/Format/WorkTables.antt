-- The table of works: a heading, and a row for each new or revised work.
use Prim.Native.String.{String}
use Rattle.std.specs.Prelude.{ℕ, ◌+◌, ◌/◌, ◌%◌, Bool, ◌||◌, List, [], ◌∷◌, ◌++◌, codes, decimal, filter, take, Option, None, Some}
use Rattle.std.specs.Prelude.{if◌then◌else◌}
use Rattle.std.specs.List.{enumerate_from, flat_map, join_by, list_all, sum_by}
use Rattle.cwr_fields.specs.declared.kinds.Kind.TheVariants as kinds
use Rattle.cwr_fields.specs.Format.Kinds.{letters}
use Rattle.cwr_lines.specs.Format.Records.{RecordValue, cell_named}
use Rattle.cwr_values.specs.declared.items.Item.{Item}
use Rattle.cwr_values.specs.declared.items.Item.TheVariants.{Transaction}
use Rattle.cwr_json.specs.declared.encodings.Encoding.{Encoding}
use Rattle.cwr_findings.specs.Format.Findings.{is_a, is_blank, share_of}
use Rattle.cwr_tables.specs.declared.places.Place.{Place}
use Rattle.cwr_tables.specs.declared.works.Side.{Side}
use Rattle.cwr_tables.specs.declared.works.Side.TheVariants.{Writers, Publishers}
use Rattle.cwr_tables.specs.declared.works.Sums.{Sums}
use Rattle.cwr_tables.specs.Format.Tables.{row_text}
use Rattle.cwr_tables.specs.Format.RecordTables.{place_after, shown_cell}

-- ---- columns

abbrev pub work_columns : List (List ℕ)
work_columns =
    codes "group" ∷ codes "transaction" ∷ codes "record_type" ∷ codes "submitter_work_number" ∷ codes "title" ∷ codes "iswc"
    ∷ codes "writers" ∷ codes "publishers"
    ∷ codes "writers_pr_share" ∷ codes "writers_mr_share" ∷ codes "writers_sr_share" ∷ codes "publishers_pr_share"
    ∷ codes "publishers_mr_share" ∷ codes "publishers_sr_share" ∷ []

abbrev pub work_heading : List ℕ
work_heading = row_text work_columns

-- ---- who owns shares

-- the record is a writer, or a publisher
abbrev pub is_on : Side → RecordValue → Bool
is_on Writers r = is_a kinds.Swr r || is_a kinds.Owr r
is_on Publishers r = is_a kinds.Spu r || is_a kinds.Opu r

-- those among the records
abbrev pub owners : Side → List RecordValue → List RecordValue
owners side t = filter (is_on side) t

-- a writer's name, the last one first, or a publisher's
abbrev pub name_of_owner : Encoding → Side → RecordValue → List ℕ
name_of_owner enc Writers r =
    shown_cell enc (cell_named "last name" r)
    ++ (if is_blank "first name" r then [] else codes " " ++ shown_cell enc (cell_named "first name" r))
name_of_owner enc Publishers r = shown_cell enc (cell_named "publisher name" r)

-- the names, joined by semicolons
abbrev pub names : Encoding → Side → List RecordValue → List ℕ
names enc side t = join_by (name_of_owner enc side) (codes "; ") (owners side t)

-- the shares of the records in a right, added up, in hundredths of a percent: none where each of them is blank
abbrev pub total : String → List RecordValue → Option ℕ
total right records = if list_all (is_blank right) records then None else Some (sum_by (share_of right) records)

-- the same of a side, in the three rights
abbrev pub sums : Side → List RecordValue → Sums
sums side t = record {
  performing = total "pr share" (owners side t);
  mechanical = total "mr share" (owners side t);
  synchronization = total "sr share" (owners side t);
}

-- in percent, with two decimals; where there is none, blank
abbrev pub percent : Option ℕ → List ℕ
percent None = []
percent (Some n) = decimal (n / 100) ++ codes "." ++ (48 + n / 10 % 10) ∷ (48 + n % 10) ∷ []

-- ---- rows

abbrev pub share_cells : Sums → List (List ℕ)
share_cells s = percent s.performing ∷ percent s.mechanical ∷ percent s.synchronization ∷ []

abbrev pub work_cells : Encoding → Place → RecordValue → List RecordValue → List (List ℕ)
work_cells enc p head t =
    decimal p.group ∷ decimal p.transaction ∷ letters head.kind ∷ shown_cell enc (cell_named "submitter work number" head)
    ∷ shown_cell enc (cell_named "title" head) ∷ shown_cell enc (cell_named "iswc" head)
    ∷ names enc Writers t ∷ names enc Publishers t ∷ share_cells (sums Writers t) ++ share_cells (sums Publishers t)

-- the record is the header of a work
abbrev pub is_header : RecordValue → Bool
is_header r = is_a kinds.Nwr r || is_a kinds.Rev r

-- the row of a transaction that is a work
abbrev pub transaction_row : Encoding → Place → List RecordValue → List ℕ
transaction_row enc p [] = []
transaction_row enc p (head ∷ rest) = if is_header head then row_text (work_cells enc p head (head ∷ rest)) else []

abbrev pub work_row : Encoding → Place → Item → List ℕ
work_row enc p (Transaction t) = transaction_row enc p t
work_row enc p item = []

-- ---- the table

unfoldable pub work_rows : Encoding → List Item → List ℕ
work_rows enc items = flat_map (λ q. work_row enc (place_after (take q.0 items) q.1) q.1) (enumerate_from 0 items)

abbrev pub work_table : Encoding → List Item → List ℕ
work_table enc items = work_heading ++ work_rows enc items

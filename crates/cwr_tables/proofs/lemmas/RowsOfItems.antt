-- The rows of items are those of all but the last, and then those of the last.
use Rattle.std.proofs.Common.{◌≡◌, ℕ, ◌+◌, cond, List, [], ◌∷◌, ◌++◌, sym, ap, ap₂, ◌∙◌, append_assoc, append-nil}
use Rattle.cwr_fields.specs.declared.kinds.Kind.{Kind}
use Rattle.cwr_values.specs.declared.items.Item.{Item}
use Rattle.cwr_judge.specs.Format.Items.{opens_group}
use Rattle.cwr_tools.specs.declared.totals.Totals.{Totals}
use Rattle.cwr_tools.specs.Steps.Counts.{IsCount}
use Rattle.cwr_tools.proofs.lemmas.LinesOfItems.{lines_from-snoc}
use Rattle.cwr_json.specs.declared.encodings.Encoding.{Encoding}
use Rattle.cwr_tables.specs.declared.places.Place.{Place}
use Rattle.cwr_tables.specs.Format.RecordTables.{heading, item_rows, place_after, rows_of}
use Rattle.cwr_tables.specs.Format.WorkTables.{work_heading, work_row, work_rows}
use Rattle.cwr_tables.specs.declared.tables.Table.{Table}
use Rattle.cwr_tables.specs.declared.tables.Table.TheVariants.{Records, Works}
use Rattle.cwr_tables.specs.Format.TableLines.{table_text}
use Rattle.cwr_tables.specs.Steps.ItemRows.{place_at, rows_at, table_heading}

-- where an item stands is told by the numbers of the items before it
counted_place : (c : Totals) (given : List Item) (item : Item) → IsCount c given → place_after given item ≡ place_at c item
counted_place c given item k =
    let opened : ℕ = cond (opens_group item) 1 0 in
    let at : ℕ → ℕ → Place = λ groups in_group. record { group = groups + opened; transaction = in_group } in
    ap₂ at (sym k.groups) (sym k.in_group)

rows_of-snoc : (enc : Encoding) (this_kind : Kind) (given : List Item) (item : Item)
    → rows_of enc this_kind (given ++ item ∷ [])
    ≡ rows_of enc this_kind given ++ item_rows enc this_kind (place_after given item) item
unfolding rows_of
rows_of-snoc enc this_kind given item =
    lines_from-snoc (λ (before : List Item) (it : Item). item_rows enc this_kind (place_after before it) it) given item

work_rows-snoc : (enc : Encoding) (given : List Item) (item : Item)
    → work_rows enc (given ++ item ∷ []) ≡ work_rows enc given ++ work_row enc (place_after given item) item
unfolding work_rows
work_rows-snoc enc given item =
    lines_from-snoc (λ (before : List Item) (it : Item). work_row enc (place_after before it) it) given item

-- no items have a heading alone
pub table_none : (enc : Encoding) (table : Table) → table_heading table ≡ table_text enc table []
unfolding rows_of work_rows
table_none enc (Records this_kind) = sym (append-nil (heading this_kind))
table_none enc Works = sym (append-nil work_heading)

-- with one item more
pub table_more : (enc : Encoding) (table : Table) (c : Totals) (given : List Item) (item : Item) → IsCount c given
    → table_text enc table (given ++ item ∷ []) ≡ table_text enc table given ++ rows_at enc table c item
table_more enc (Records this_kind) c given item k =
    ap (λ (l : List ℕ). heading this_kind ++ l) (rows_of-snoc enc this_kind given item
    ∙ ap (λ (p : Place). rows_of enc this_kind given ++ item_rows enc this_kind p item) (counted_place c given item k))
    ∙ sym (append_assoc (heading this_kind) (rows_of enc this_kind given) (item_rows enc this_kind (place_at c item) item))
table_more enc Works c given item k =
    ap (λ (l : List ℕ). work_heading ++ l)
    (work_rows-snoc enc given item
    ∙ ap (λ (p : Place). work_rows enc given ++ work_row enc p item) (counted_place c given item k))
    ∙ sym (append_assoc work_heading (work_rows enc given) (work_row enc (place_at c item) item))

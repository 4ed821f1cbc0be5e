-- The rows of an item, by the numbers of the items before it.
use Rattle.std.specs.Prelude.{ℕ, ◌+◌, List, if◌then◌else◌}
use Rattle.cwr_values.specs.declared.items.Item.{Item}
use Rattle.cwr_judge.specs.Format.Items.{opens_group}
use Rattle.cwr_tools.specs.declared.totals.Totals.{Totals}
use Rattle.cwr_json.specs.declared.encodings.Encoding.{Encoding}
use Rattle.cwr_tables.specs.declared.places.Place.{Place}
use Rattle.cwr_tables.specs.Format.RecordTables.{heading, item_rows}
use Rattle.cwr_tables.specs.Format.WorkTables.{work_heading, work_row}
use Rattle.cwr_tables.specs.declared.tables.Table.{Table}
use Rattle.cwr_tables.specs.declared.tables.Table.TheVariants.{Records, Works}

-- where an item stands that comes after items with these numbers
abbrev pub place_at : Totals → Item → Place
place_at counts item = record { group = counts.groups + (if opens_group item then 1 else 0); transaction = counts.in_group }

-- the heading of a table
abbrev pub table_heading : Table → List ℕ
table_heading (Records this_kind) = heading this_kind
table_heading Works = work_heading

-- the rows of one item more
abbrev pub rows_at : Encoding → Table → Totals → Item → List ℕ
rows_at enc (Records this_kind) counts item = item_rows enc this_kind (place_at counts item) item
rows_at enc Works counts item = work_row enc (place_at counts item) item

-- What is written of items as a table.
use Rattle.std.specs.Prelude.{ℕ, false, List, []}
use Rattle.cwr_values.specs.declared.items.Item.{Item}
use Rattle.cwr_tools.specs.Format.Reports.{ItemLines}
use Rattle.cwr_json.specs.declared.encodings.Encoding.{Encoding}
use Rattle.cwr_tables.specs.Format.RecordTables.{table_of}
use Rattle.cwr_tables.specs.Format.WorkTables.{work_table}
use Rattle.cwr_tables.specs.declared.tables.Table.{Table}
use Rattle.cwr_tables.specs.declared.tables.Table.TheVariants.{Records, Works}

-- the text of the table, its cells shown by the encoding
abbrev pub table_text : Encoding → Table → List Item → List ℕ
table_text enc (Records this_kind) given = table_of enc this_kind given
table_text enc Works given = work_table enc given

-- that, and nothing for the verdict
abbrev pub lines_of_table : Encoding → Table → ItemLines
lines_of_table enc table = record { lines = table_text enc table; last = λ items verdict. []; take_memory = λ item. false }

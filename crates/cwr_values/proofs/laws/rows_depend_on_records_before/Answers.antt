use Rattle.cwr_values.proofs.lemmas.RowAt.{same_rows, rows_begin}
use Rattle.cwr_values.proofs.laws.rows_depend_on_records_before.Goals as goal

pub returns : goal.returns
returns c = record { same = same_rows; counted = rows_begin }

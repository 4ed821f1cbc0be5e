use Rattle.cwr_lines.proofs.lemmas.CellLaws.{record_cell-row}
use Rattle.cwr_lines.proofs.laws.cells_are_those_of_rows.Goals as goal

pub returns : goal.returns
returns c = record_cell-row

use Rattle.cwr_values.proofs.lemmas.OneSpelling.{one_row_of_values}
use Rattle.cwr_values.proofs.laws.line_has_one_row.Goals as goal

pub returns : goal.returns
returns c = one_row_of_values

use Rattle.cwr_tables.proofs.lemmas.ReadBack.{rows_read_back}
use Rattle.cwr_tables.proofs.laws.rows_read_back.Goals as goal

pub returns : goal.returns
returns c = rows_read_back

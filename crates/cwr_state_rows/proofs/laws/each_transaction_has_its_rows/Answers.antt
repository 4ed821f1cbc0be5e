use Rattle.cwr_state_rows.proofs.lemmas.RowLaws.{its_rows}
use Rattle.cwr_state_rows.proofs.laws.each_transaction_has_its_rows.Goals as goal

pub returns : goal.returns
returns c = its_rows

use Rattle.cwr_state_rows.proofs.lemmas.FileOrder.{any_order_of_files}
use Rattle.cwr_state_rows.proofs.lemmas.RowLaws.{any_order_of_told}
use Rattle.cwr_state_rows.proofs.laws.any_order_has_the_rows.Goals as goal

pub returns-clause-acknowledgements : goal.returns-clause-acknowledgements
returns-clause-acknowledgements c = any_order_of_told

pub returns-clause-files : goal.returns-clause-files
returns-clause-files c = any_order_of_files

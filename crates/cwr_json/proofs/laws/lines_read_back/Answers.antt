use Rattle.cwr_json.proofs.lemmas.PrintedItems.{item_reads}
use Rattle.cwr_json.proofs.laws.lines_read_back.Goals as goal

pub returns : goal.returns
returns c = item_reads

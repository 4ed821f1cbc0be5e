use Rattle.cwr_json.proofs.lemmas.OneItem.{one_data}
use Rattle.cwr_json.proofs.laws.data_is_of_one_item.Goals as goal

pub returns : goal.returns
returns c = one_data

use Rattle.cwr_json.proofs.lemmas.OneItem.{own_item}
use Rattle.cwr_json.proofs.laws.items_have_own_data.Goals as goal

pub returns : goal.returns
returns c = own_item

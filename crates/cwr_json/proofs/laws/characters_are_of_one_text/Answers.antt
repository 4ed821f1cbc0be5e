use Rattle.cwr_json.proofs.lemmas.Encoded.{one_text}
use Rattle.cwr_json.proofs.laws.characters_are_of_one_text.Goals as goal

pub returns : goal.returns
returns c = one_text

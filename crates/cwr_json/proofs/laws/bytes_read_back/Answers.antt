use Rattle.cwr_json.proofs.lemmas.Encoded.{read_back}
use Rattle.cwr_json.proofs.laws.bytes_read_back.Goals as goal

pub returns : goal.returns
returns c = read_back

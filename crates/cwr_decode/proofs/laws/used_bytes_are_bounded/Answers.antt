use Rattle.cwr_decode.proofs.lemmas.BoundedInputs.{input_bounded}
use Rattle.cwr_decode.proofs.laws.used_bytes_are_bounded.Goals as goal

pub returns : goal.returns
returns c = input_bounded

use Rattle.cwr_encode.proofs.lemmas.PartLaws.{has_part}
use Rattle.cwr_encode.proofs.laws.accepted_records_have_a_part.Goals as goal

pub returns : goal.returns
returns c = has_part

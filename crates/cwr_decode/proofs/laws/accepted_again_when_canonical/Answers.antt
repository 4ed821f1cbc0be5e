use Rattle.cwr_judge.proofs.lemmas.Accepted.{canonical_accepted}
use Rattle.cwr_decode.proofs.laws.accepted_again_when_canonical.Goals as goal

pub returns : goal.returns
returns c = λ limits text v n more accepted. canonical_accepted limits v more accepted.whole accepted.within

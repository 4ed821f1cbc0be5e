use Rattle.std.proofs.Common.{arith}
use Rattle.cwr_values.proofs.lemmas.NumbersFit.{numbers_fit}
use Rattle.cwr_values.proofs.laws.numbers_fit_their_fields.Goals as goal

pub returns : goal.returns
returns c = λ limits v h k records groups. numbers_fit limits v h k (omega arith) (omega arith)

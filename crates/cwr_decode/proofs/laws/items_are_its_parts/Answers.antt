use Rattle.std.proofs.Common.{arith}
use Rattle.cwr_judge.proofs.lemmas.ItemLaws.{items_of_parts}
use Rattle.cwr_decode.proofs.laws.items_are_its_parts.Goals as goal

pub returns : goal.returns
returns c limits v h k a = items_of_parts limits v h k (omega arith)

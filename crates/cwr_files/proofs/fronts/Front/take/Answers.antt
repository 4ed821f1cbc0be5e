use Rattle.std.proofs.Common.{rules}
use Rattle.cwr_files.proofs.lemmas.Taken.{taken}
use Rattle.cwr_files.proofs.fronts.Front.take.Goals as goal

pub returns : goal.returns
returns c = λ before is. search (rules, taken 101 before c.args.bytes.now)

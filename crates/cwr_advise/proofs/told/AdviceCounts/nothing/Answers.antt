use Rattle.std.proofs.Common.{sym}
use Rattle.cwr_advise.proofs.lemmas.AdviceCounted.{counts-none}
use Rattle.cwr_advise.proofs.told.AdviceCounts.nothing.Goals as goal

pub returns : goal.returns
returns c = sym counts-none

use Rattle.std.proofs.Common.{◌≡◌, drop}
use Rattle.cwr_write.specs.declared.hints.Lack.TheVariants.{Writer}
use Rattle.cwr_write.specs.Format.Lacks.{lack_told}
use Rattle.cwr_write.proofs.hints.lack_in.Given as goal

abbrev pub invariant-loop-place : goal.invariant-loop-place
invariant-loop-place l = lack_told l.lack (drop l.place l.transaction) ≡ lack_told Writer l.transaction

use Rattle.std.proofs.Common.{◌≡◌, ◌<◌, take}
use Rattle.cwr_sent.specs.Format.SentFacts.{title_check}
use Rattle.cwr_sent.proofs.facts.title_check.Given as goal

abbrev pub invariant-loop-b : goal.invariant-loop-b
invariant-loop-b l = record { value : l.check ≡ title_check (take l.b-index l.title); small : l.check < 4294967296 }

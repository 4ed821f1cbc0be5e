use Rattle.cwr_devices.specs.Steps.Pens.{Adds}
use Rattle.cwr_acks.proofs.lemmas.Statuses.{counts_to}
use Rattle.cwr_acks.proofs.data_texts.count_members.Given as goal

abbrev pub invariant-loop-i : goal.invariant-loop-i
invariant-loop-i g l = Adds g.W.Target.contents g.W.Target.failures (counts_to l.i l.answers.by_status) l.initial.pen l.pen

use Rattle.cwr_devices.specs.Steps.Pens.{Adds}
use Rattle.cwr_json.proofs.lemmas.MembersOfFields.{members_before}
use Rattle.cwr_json.proofs.records.member_texts.Given as goal

abbrev pub invariant-loop-before : goal.invariant-loop-before
invariant-loop-before g l =
    Adds g.W.Target.contents g.W.Target.failures (members_before l.encoding l.shown l.before) l.initial.pen l.pen

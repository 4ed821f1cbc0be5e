use Rattle.std.proofs.Common.{◌∙◌, ap}
use Rattle.cwr_decode.specs.Steps.Machines.{Standing}
use Rattle.cwr_decode.proofs.lemmas.AfterFinish.{ends_finish, settles_finish, cut_finish}
use Rattle.cwr_decode.proofs.lemmas.HeldOpen.{ended_fits}
use Rattle.cwr_decode.proofs.machine.Machine.finish.Goals as goal

pub settle-requires-clause-fits : goal.settle-requires-clause-fits
settle-requires-clause-fits c = ended_fits c.args.self.now c.last_line.new.self c.requires.under_way c.in_default.ensures

pub returns-in-Some-clause-finishes : goal.returns-in-Some-clause-finishes
returns-in-Some-clause-finishes c = ends_finish c.args.self.now c.last_line.new.self c.in-Some.outcome c.in-Some.ensures

pub returns-in-Some-settle-clause-finishes : goal.returns-in-Some-settle-clause-finishes
returns-in-Some-settle-clause-finishes c =
    settles_finish c.args.self.now c.last_line.new.self c.settle.new.self c.in-Some-settle.outcome c.in_default.ensures
    c.in-Some-settle.ensures

pub returns-clause-finishes : goal.returns-clause-finishes
returns-clause-finishes c =
    cut_finish c.args.self.now c.last_line.new.self c.settle.new.self c.stop.new.self c.records-records.result
    c.in_default.ensures c.in_default-settle.ensures c.stop.ensures
    (c.records-records.ensures.value ∙ ap (λ (d : Standing). d.tally.counts.records) c.self.view_is)

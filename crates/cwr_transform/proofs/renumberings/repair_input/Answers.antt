use Rattle.std.proofs.Common.{refl}
use Rattle.cwr_files.specs.Steps.Inputs.{remaining_of}
use Rattle.cwr_endings.specs.declared.stops.Stop.TheVariants as stops
use Rattle.cwr_transform.proofs.lemmas.RepairFails.{output_fails}
use Rattle.cwr_transform.proofs.lemmas.RepairsJudged.{repair_ends}
use Rattle.cwr_transform.proofs.renumberings.repair_input.Goals as goal

pub returns-clause-ends : goal.returns-clause-ends
returns-clause-ends g c =
    repair_ends c.args.repair.now.limits c.args.repair.now.wanted c.args.repair.now.anyway
    (remaining_of g.S.Reader.Read.remaining g.I.Read.remaining c.args.input) c.run-output.result.0 stops.Output stops.Output
    c.run-output.result.0.outcome c.ending-ended.result refl c.run-output.ensures.judged c.ending-ended.ensures

pub returns-clause-failed : goal.returns-clause-failed
returns-clause-failed g c =
    output_fails (g.S.Store.failures c.args.store.now) (g.S.Store.failures c.run-output.new.store) c.run-output.result.0
    c.args.repair.now.wanted.whole c.run-output.result.0.outcome c.ending-ended.result c.run-output.ensures.reads c.ending-ended.ensures

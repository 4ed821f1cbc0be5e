use Rattle.std.proofs.Common.{refl}
use Rattle.cwr_acks.specs.Format.AckLines.{telling_of}
use Rattle.cwr_acks.specs.Steps.AckSteps.{lines_of_held}
use Rattle.cwr_acks.proofs.lemmas.LeftHeld.{left_held}
use Rattle.cwr_acks.proofs.running.write_answers.Goals as goal

pub write_report-writer-requires : goal.write_report-writer-requires
write_report-writer-requires g c =
    (lines_of_held (telling_of c.args.manner) g.B.Before.held, (refl, c.requires, c.new.ensures))

pub returns-clause-runs : goal.returns-clause-runs
returns-clause-runs g c =
    c.write_report-writer.ensures.runs (lines_of_held (telling_of c.args.manner) g.B.Before.held)
    (refl, c.requires, c.new.ensures)

pub returns-clause-kept : goal.returns-clause-kept
returns-clause-kept g c =
    left_held g.B.Before.held c.args.limits _ _ c.write_report-writer.result.1 _ _ _ (λ given here. (here.1, here.2))
    (c.write_report-writer.ensures.stands (lines_of_held (telling_of c.args.manner) g.B.Before.held)
    (refl, c.requires, c.new.ensures))

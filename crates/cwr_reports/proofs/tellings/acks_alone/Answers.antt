use Rattle.std.proofs.Common.{refl}
use Rattle.std.specs.Prelude.{None}
use Rattle.cwr_reports.specs.Steps.Tellings.{telling_alone}
use Rattle.cwr_reports.proofs.tellings.acks_alone.Goals as goal

pub returns-clause-reported : goal.returns-clause-reported
returns-clause-reported g c = c.acks-writer.ensures.reported (telling_alone c.args.form c.args.statuses.now) None refl tt

pub returns-clause-told : goal.returns-clause-told
returns-clause-told g c = c.acks-writer.ensures.told (telling_alone c.args.form c.args.statuses.now) None refl tt

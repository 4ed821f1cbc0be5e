use Rattle.std.proofs.Common.{◌++◌, length}
use Rattle.cwr_values.specs.Format.Rows.{canonical_text}
use Rattle.cwr_judge.proofs.lemmas.Accepted.{canonical_accepted}
use Rattle.cwr_tools.proofs.lemmas.RightReports.{accepted_verdict, verdict_on}
use Rattle.cwr_tools.proofs.laws.text_has_the_verdict_told.Goals as goal

pub returns-clause-verdict : goal.returns-clause-verdict
returns-clause-verdict c = verdict_on

pub returns-clause-accepted : goal.returns-clause-accepted
returns-clause-accepted c = accepted_verdict

pub returns-clause-canonical : goal.returns-clause-canonical
returns-clause-canonical c = λ limits verdict given v more whole within told.
    accepted_verdict limits (canonical_text v ++ more) verdict given v (length (canonical_text v)) told
    (canonical_accepted limits v more whole within)

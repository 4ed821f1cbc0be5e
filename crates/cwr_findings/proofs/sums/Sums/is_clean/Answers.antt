use Rattle.cwr_findings.proofs.lemmas.SummedCopies.{none_elsewhere, none_in_work}
use Rattle.cwr_findings.proofs.sums.Sums.is_clean.Goals as goal

pub returns-in-Work : goal.returns-in-Work
returns-in-Work c =
    λ rs h yes. none_in_work c.args.self.now rs c.in-Work.is h (λ work n are. c.is_work_clean.ensures work n are yes)

pub returns-in-Agreement : goal.returns-in-Agreement
returns-in-Agreement c = λ rs h yes. none_elsewhere c.args.self.now rs c.in-Agreement.is h

use Rattle.std.proofs.Common.{sym, ◌∙◌}
use Rattle.cwr_findings.proofs.lemmas.SummedCopies.{begins_copy, stands_before, stands_in_agreement, stands_in_work}
use Rattle.cwr_findings.proofs.sums.Sums.add.Goals as goal

pub returns-in-Work : goal.returns-in-Work
returns-in-Work g c =
    λ rs h yes. stands_in_work c.args.self.now c.add_to_work.new.self rs c.args.shown.now c.in-Work.is h
    (λ work are. c.add_to_work.ensures work are yes)

pub returns-in-Agreement : goal.returns-in-Agreement
returns-in-Agreement g c =
    λ rs h yes. stands_in_agreement c.args.self.now c.add_to_agreement.new.self rs c.args.shown.now c.in-Agreement.is h
    (λ agreement are. c.add_to_agreement.ensures agreement are yes)

pub returns-then-stands_before_copy : goal.returns-then-stands_before_copy
returns-then-stands_before_copy g c =
    λ rs h yes. stands_before c.args.self.now rs c.args.shown.now c.in-Nothing.is h
    (sym c.stands_before_copy.ensures ∙ c.if-stands_before_copy.true)

pub returns-else-stands_before_copy : goal.returns-else-stands_before_copy
returns-else-stands_before_copy g c =
    λ rs h yes. begins_copy c.args.self.now c.begin_registered.new.self rs c.args.shown.now c.in-Nothing.is h
    (sym c.stands_before_copy.ensures ∙ c.if-stands_before_copy.false) (c.begin_registered.ensures yes)

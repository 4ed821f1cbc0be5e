use Rattle.std.proofs.Common.{sym, ◌∙◌}
use Rattle.cwr_findings.proofs.lemmas.SummedRecords.{on_ok}
use Rattle.cwr_advice.proofs.lemmas.CalmRecords.{since_territory}
use Rattle.cwr_advice.proofs.kept.keep_number.Goals as goal

pub returns-in-Some : goal.returns-in-Some
returns-in-Some c = λ rs h yes.
    since_territory rs c.args.shown.now c.in-Some.code c.args.territories.now.items c.try_push.new.self.items
    c.requires.owner c.requires.territory h
    (on_ok c.try_push.result _ (sym c.is_ok.ensures.value ∙ yes) c.try_push.ensures.ok) (c.in-Some.ensures ∙ c.code_of.ensures)

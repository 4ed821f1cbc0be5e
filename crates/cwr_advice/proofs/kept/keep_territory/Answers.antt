use Rattle.std.proofs.Common.{sym, ◌∙◌}
use Rattle.cwr_advice.proofs.lemmas.CalmRecords.{since_other, since_owner}
use Rattle.cwr_advice.proofs.kept.keep_territory.Goals as goal

pub keep_number-requires-clause-owner : goal.keep_number-requires-clause-owner
keep_number-requires-clause-owner c = sym c.is_owner.ensures ∙ c.if-is_owner.false

pub keep_number-requires-clause-territory : goal.keep_number-requires-clause-territory
keep_number-requires-clause-territory c = sym c.is_territory.ensures ∙ c.if-not-is_territory.false

pub returns-then-is_owner : goal.returns-then-is_owner
returns-then-is_owner c =
    λ rs h yes. since_owner rs c.args.shown.now c.clear.new.self.items (sym c.is_owner.ensures ∙ c.if-is_owner.true)
    c.clear.ensures

pub returns-then-not-is_territory : goal.returns-then-not-is_territory
returns-then-not-is_territory c =
    λ rs h yes. since_other rs c.args.shown.now c.args.territories.now.items (sym c.is_owner.ensures ∙ c.if-is_owner.false)
    (sym c.is_territory.ensures ∙ c.if-not-is_territory.true) h

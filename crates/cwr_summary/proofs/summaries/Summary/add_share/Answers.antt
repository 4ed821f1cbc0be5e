use Rattle.std.proofs.Common.{ℕ, sym, ap, ◌∙◌}
use Rattle.cwr_summary.specs.declared.columns.Column.TheVariants.{Controlled, Others}
use Rattle.cwr_summary.specs.Steps.Counted.{added, counted}
use Rattle.cwr_summary.proofs.lemmas.Owned.{controlled_added, none_added, other_added, other_more, owner_more, share_added}
use Rattle.cwr_summary.proofs.summaries.Summary.add_share.Goals as goal

pub returns-then-not-is_owner-clause-added : goal.returns-then-not-is_owner-clause-added
returns-then-not-is_owner-clause-added c =
    ap (counted c.args.self.now.numbers)
    (sym (none_added c.args.right c.args.shown.now (sym c.is_owner.ensures ∙ c.if-not-is_owner.true)))

pub returns-then-not-is_owner-clause-owned : goal.returns-then-not-is_owner-clause-owned
returns-then-not-is_owner-clause-owned c = λ records.
    other_more c.args.right records c.args.shown.now (sym c.is_owner.ensures ∙ c.if-not-is_owner.true)

pub returns-then-is_controlled-clause-added : goal.returns-then-is_controlled-clause-added
returns-then-is_controlled-clause-added c =
    c.add.ensures ∙ ap (λ (n : ℕ). added c.args.self.now.numbers (Controlled c.args.right, n)) c.unwrap_or.ensures
    ∙ share_added c.args.right c.args.shown.now c.share_in-share.result (Controlled c.args.right) c.args.self.now.numbers
    c.share_in-share.ensures
    ∙ ap (counted c.args.self.now.numbers)
    (sym (controlled_added c.args.right c.args.shown.now (sym c.is_controlled.ensures ∙ c.if-is_controlled.true)))

pub returns-else-is_controlled-clause-added : goal.returns-else-is_controlled-clause-added
returns-else-is_controlled-clause-added c =
    c.add-else-is_controlled.ensures
    ∙ ap (λ (n : ℕ). added c.args.self.now.numbers (Others c.args.right, n)) c.unwrap_or-else-is_controlled.ensures
    ∙ share_added c.args.right c.args.shown.now c.share_in-share.result (Others c.args.right) c.args.self.now.numbers
    c.share_in-share.ensures
    ∙ ap (counted c.args.self.now.numbers)
    (sym (other_added c.args.right c.args.shown.now (sym c.is_owner.ensures ∙ c.if-not-is_owner.false)
    (sym c.is_controlled.ensures ∙ c.if-is_controlled.false)))

pub returns-then-is_controlled-clause-owned : goal.returns-then-is_controlled-clause-owned
returns-then-is_controlled-clause-owned c = λ records.
    owner_more c.args.right records c.args.shown.now c.share_in-share.result (sym c.is_owner.ensures ∙ c.if-not-is_owner.false)
    c.share_in-share.ensures

pub returns-else-is_controlled-clause-owned : goal.returns-else-is_controlled-clause-owned
returns-else-is_controlled-clause-owned c = λ records.
    owner_more c.args.right records c.args.shown.now c.share_in-share.result (sym c.is_owner.ensures ∙ c.if-not-is_owner.false)
    c.share_in-share.ensures

use Rattle.std.proofs.Common.{inl, inr}
use Rattle.cwr_findings.specs.declared.rules.Rule.TheVariants.{V3, V4, V5, V6, V9}
use Rattle.cwr_notes.proofs.lemmas.OthersListed.{at_rule}
use Rattle.cwr_notes.proofs.finding_notes.others.Goals as goal

pub returns-in-V3 : goal.returns-in-V3
returns-in-V3 c = elim c.in-V3.is [
  | inl e ↦ at_rule c.args.finding.now.rule V3 c.args.transaction.now c.args.finding.now.rec c.args.shown.now
      c.positions_of.result e (λ l. l) c.positions_of.ensures
  | inr (inl e) ↦ at_rule c.args.finding.now.rule V4 c.args.transaction.now c.args.finding.now.rec c.args.shown.now
      c.positions_of.result e (λ l. l) c.positions_of.ensures
  | inr (inr (inl e)) ↦ at_rule c.args.finding.now.rule V5 c.args.transaction.now c.args.finding.now.rec c.args.shown.now
      c.positions_of.result e (λ l. l) c.positions_of.ensures
  | inr (inr (inr (inl e))) ↦ at_rule c.args.finding.now.rule V6 c.args.transaction.now c.args.finding.now.rec c.args.shown.now
      c.positions_of.result e (λ l. l) c.positions_of.ensures
  | inr (inr (inr (inr e))) ↦ at_rule c.args.finding.now.rule V9 c.args.transaction.now c.args.finding.now.rec c.args.shown.now
      c.positions_of.result e (λ l. l) c.positions_of.ensures
]

use Rattle.std.proofs.Common.{sym, drop, ◌∙◌}
use Rattle.cwr_findings.specs.Format.Findings.{parties_after}
use Rattle.cwr_findings.proofs.lemmas.BlockParties.{block_over_whole}
use Rattle.cwr_findings.proofs.finding_questions.begins_block_over_whole.Goals as goal

pub returns-then-not-before : goal.returns-then-not-before
returns-then-not-before c =
    λ agreement. c.exceed_whole.ensures (parties_after (drop c.args.sequence c.args.transaction.now)) c.of_block.ensures
    ∙ block_over_whole c.args.transaction.now c.args.sequence c.args.shown.now c.args.before.now.after_territory c.requires.there
    agreement (sym c.is_of.ensures ∙ c.if-not-is_of.false) c.requires.before.territory c.if-not-before.true

use Rattle.std.proofs.Common.{sym, ap, ◌∙◌}
use Rattle.cwr_advise.specs.Steps.AdviceCounts.{counts_of}
use Rattle.cwr_advise.proofs.lemmas.LinesOfAdvice.{advice_none}
use Rattle.cwr_advise.proofs.advice_lines.AdviceLines.beginning.Goals as goal

pub returns-clause-uncounted : goal.returns-clause-uncounted
returns-clause-uncounted c = c.nothing-2.ensures ∙ sym (ap counts_of (advice_none c.args.repeated))

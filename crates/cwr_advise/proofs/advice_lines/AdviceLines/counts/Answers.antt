use Rattle.std.proofs.Common.{◌∙◌}
use Rattle.cwr_advise.proofs.lemmas.Begun.{counts_up_to_fault}
use Rattle.cwr_advise.proofs.advice_lines.AdviceLines.counts.Goals as goal

pub returns : goal.returns
returns c = record {
  counts =
      λ manner given here.
      c.copy.ensures ∙ counts_up_to_fault c.args.self.now manner given here.0 here.4 here.6;
}

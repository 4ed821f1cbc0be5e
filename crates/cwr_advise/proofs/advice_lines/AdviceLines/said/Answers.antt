use Rattle.cwr_advise.proofs.advice_lines.AdviceLines.said.Goals as goal

pub returns : goal.returns
returns c = record {
  said =
      λ of given here. c.said.ensures given here.1;
}

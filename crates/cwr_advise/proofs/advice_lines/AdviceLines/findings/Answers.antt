use Rattle.cwr_advise.proofs.advice_lines.AdviceLines.findings.Goals as goal

pub returns : goal.returns
returns c = record {
  findings =
      λ of given here. here.3;
}

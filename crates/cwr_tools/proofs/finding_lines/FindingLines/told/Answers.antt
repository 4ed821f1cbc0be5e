use Rattle.cwr_tools.proofs.finding_lines.FindingLines.told.Goals as goal

pub returns : goal.returns
returns c = record { told = λ of given here. record { counted = here.2; worst = here.1 } }

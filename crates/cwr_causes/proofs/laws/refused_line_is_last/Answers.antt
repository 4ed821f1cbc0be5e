use Rattle.cwr_causes.proofs.lemmas.RefusedLines.{refused_last}
use Rattle.cwr_causes.proofs.laws.refused_line_is_last.Goals as goal

pub returns : goal.returns
returns c = refused_last

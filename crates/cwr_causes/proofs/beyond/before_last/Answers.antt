use Rattle.std.proofs.Common.{true}
use Rattle.cwr_causes.specs.Steps.LinesAtEnd.{EndsInLine}
use Rattle.cwr_causes.proofs.lemmas.LastRefused.{seen_before, unseen_before}
use Rattle.cwr_causes.proofs.beyond.before_last.Goals as goal

pub returns : goal.returns
returns c = (
  λ read front line held ends. seen_before (EndsInLine front true) c.line_before.result
      (c.line_before.ensures.told read front line held ends),
  λ read front line shown held ends split few none. c.line_before.ensures.untold read front line shown held ends split few
      (unseen_before c.line_before.result none),
)

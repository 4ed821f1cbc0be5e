use Rattle.std.proofs.Common.{false}
use Rattle.cwr_advise.specs.Format.AdviceLines.{advising}
use Rattle.cwr_advise.proofs.lemmas.Begun.{begun_lines}
use Rattle.cwr_advise.proofs.advice_lines.AdviceLines.new.Goals as goal

pub returns : goal.returns
returns c = record {
  stands =
      begun_lines c.beginning.result (advising c.args.all) false c.args.repeated c.beginning.ensures.manner
      c.beginning.ensures.up_to_fault c.beginning.ensures.repeated c.beginning.ensures.before c.beginning.ensures.works
      c.beginning.ensures.none c.beginning.ensures.uncounted c.beginning.ensures.untold (λ up. absurd (cc up));
}

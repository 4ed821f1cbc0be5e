use Rattle.std.proofs.Common.{true, refl}
use Rattle.cwr_advise.proofs.lemmas.Begun.{begun_lines}
use Rattle.cwr_advise.proofs.advice_lines.AdviceLines.up_to_fault.Goals as goal

pub returns : goal.returns
returns c = record {
  stands =
      begun_lines c.beginning.result c.args.manner true 0 c.beginning.ensures.manner c.beginning.ensures.up_to_fault
      c.beginning.ensures.repeated c.beginning.ensures.before c.beginning.ensures.works c.beginning.ensures.none
      c.beginning.ensures.uncounted c.beginning.ensures.untold (λ up. refl);
}

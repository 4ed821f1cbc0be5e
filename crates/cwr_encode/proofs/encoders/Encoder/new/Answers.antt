use Rattle.std.proofs.Common.{List, ℕ, sym, subst}
use Rattle.cwr_devices.specs.Steps.Sinks.{HasWritten}
use Rattle.cwr_encode.proofs.lemmas.Adding.{part_none}
use Rattle.cwr_encode.proofs.encoders.Encoder.new.Goals as goal

pub returns-clause-represents : goal.returns-clause-represents
returns-clause-represents g c = record {
  counted = c.new-2.ensures.stands;
  in_order = tt;
  between = λ e. absurd (cc e);
  written =
      subst (λ (l : List ℕ). HasWritten g.W.Target.contents (g.W.Target.contents c.args.writer) l c.new.result) (sym part_none)
      c.new.ensures.empty;
}

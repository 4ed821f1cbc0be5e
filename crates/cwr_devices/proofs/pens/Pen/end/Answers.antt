use Rattle.std.proofs.Common.{List, ℕ, ◌++◌, subst}
use Rattle.cwr_devices.specs.Steps.Sinks.{HasWritten}
use Rattle.cwr_devices.proofs.lemmas.Adding.{all_put}
use Rattle.cwr_devices.proofs.pens.Pen.end.Goals as goal

pub returns : goal.returns
returns g c = record {
  written = all_put g.W.Target.contents g.W.Target.failures _ c.put.result _ _ (record {
    written =
        λ start before h. subst (λ (l : List ℕ). HasWritten g.W.Target.contents start (before ++ l) c.put.new.self)
        c.as_slice.ensures.value (c.put.ensures.written start before h);
    failed = c.put.ensures.failed;
    counts = c.put.ensures.failures;
    again = c.put.ensures.again;
  });
  fault = c.put.ensures.fault;
  failed = c.put.ensures.failed;
  counts = c.put.ensures.failures;
  again = λ failed. (c.put.ensures.again failed).1;
}

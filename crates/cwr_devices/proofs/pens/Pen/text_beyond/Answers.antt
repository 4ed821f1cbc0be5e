use Rattle.std.proofs.Common.{List, ℕ, ◌++◌, refl, subst}
use Rattle.cwr_devices.specs.Steps.Sinks.{HasWritten}
use Rattle.cwr_devices.proofs.lemmas.Adding.{puts_beyond}
use Rattle.cwr_devices.proofs.pens.Pen.text_beyond.Goals as goal

pub returns : goal.returns
returns g c =
    puts_beyond g.W.Target.contents g.W.Target.failures c.args.text.now c.put.result c.put-2.result c.args.self.now _ c.put.new.self
    c.clear.ensures refl
    (record {
      written =
          λ start before h. subst (λ (l : List ℕ). HasWritten g.W.Target.contents start (before ++ l) c.put.new.self)
          c.as_slice.ensures.value (c.put.ensures.written start before h);
      failed = c.put.ensures.failed;
      counts = c.put.ensures.failures;
      again = c.put.ensures.again;
    })
    (record {
      written = c.put-2.ensures.written;
      failed = c.put-2.ensures.failed;
      counts = c.put-2.ensures.failures;
      again = c.put-2.ensures.again;
    })

use Rattle.std.proofs.Common.{true≢false}
use Rattle.cwr_devices.proofs.lemmas.Puts.{grown_whole, written_all, written_more}
use Rattle.cwr_devices.proofs.sinks.Sink.put.Goals as goal

pub returns-in-Ok-clause-written : goal.returns-in-Ok-clause-written
returns-in-Ok-clause-written g c =
    λ start before h. written_all _ start before c.args.text.now c.args.self.now _ c.if-self.false c.in-Ok.ensures.whole
    c.saturating_add-self.ensures h

pub returns-in-Err-clause-written : goal.returns-in-Err-clause-written
returns-in-Err-clause-written g c =
    λ start before h. written_more _ start before c.args.text.now c.args.self.now _ c.in-Err.count c.if-self.false
    c.in-Err.ensures.part.0 c.in-Err.ensures.part.1 c.saturating_add-self-in-Err.ensures (λ e. absurd (true≢false e)) h

pub returns-in-Ok-clause-grows : goal.returns-in-Ok-clause-grows
returns-in-Ok-clause-grows g c =
    λ _. grown_whole _ c.args.text.now _ c.args.self.now _ c.in-Ok.ensures.whole c.saturating_add-self.ensures

pub returns-in-Err-clause-grows : goal.returns-in-Err-clause-grows
returns-in-Err-clause-grows g c =
    λ _. record {
      taken = c.in-Err.count;
      within = c.in-Err.ensures.part.0;
      whole = tt;
      appended = c.in-Err.ensures.part.1;
      counted = c.saturating_add-self-in-Err.ensures;
    }

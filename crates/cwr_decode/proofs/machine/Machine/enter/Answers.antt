use Rattle.std.proofs.Common.{Option, Some, ap, sym, subst, ◌∙◌}
use Rattle.std.specs.Prelude.{◌≡◌}
use Rattle.cwr_lines.specs.Format.Records.{RecordValue}
use Rattle.cwr_lines.specs.Steps.Held.{held_record}
use Rattle.cwr_decode.specs.Steps.Machines.{EntersHeld, Standing}
use Rattle.cwr_decode.proofs.lemmas.LineSteps.{adds_enters}
use Rattle.cwr_decode.proofs.machine.Machine.enter.Goals as goal

pub returns : goal.returns
returns c =
    let i = c.self.inside in
    let d : Standing = record { line = i.line; tally = i.tally; held = i.held; state = i.state; finished = i.finished } in
    let accepted : RecordValue = c.known_record-accepted.result in
    let carried : held_record d.line ≡ Some accepted = ap held_record (sym c.cut.ensures) ∙ c.known_record-accepted.ensures in
    subst (λ (q : Standing). EntersHeld (held_record q.line) q c.finish_record.result c.finish_record.new.self) c.self.view_is
    (subst (λ (o : Option RecordValue). EntersHeld o d c.finish_record.result c.finish_record.new.self) (sym carried)
    (adds_enters accepted.kind accepted d c.add_accepted-outcome.result c.add_accepted-outcome.new.held c.finish_record.result
    c.finish_record.new.self
    c.add_accepted-outcome.ensures c.finish_record.ensures))

use Rattle.std.proofs.Common.{ℕ, ◌<◌, arith, map, sym, subst}
use Rattle.std.specs.Prelude.{Result, Ok, Err}
use Rattle.cwr_values.specs.Format.Values.{symbol_of}
use Rattle.cwr_judge.specs.Format.Items.{records_in, value_items}
use Rattle.cwr_encode.specs.declared.encoders.EncodeFault.{EncodeFault}
use Rattle.cwr_encode.specs.Format.Encoders.{IsUnlimited}
use Rattle.cwr_encode.specs.Steps.Encoders.{encoder_limits}
use Rattle.cwr_encode.specs.Format.Finishing.{JudgesEnd}
use Rattle.cwr_encode.specs.Steps.Finishing.{FinishesWriting}
use Rattle.cwr_select.specs.Steps.Sent.{sent_after}
use Rattle.cwr_select.specs.Steps.Selecting.{Finishes}
use Rattle.cwr_select.proofs.lemmas.SelectionsEnded.{ends_empty, ends_short, ends_whole, right_last}
use Rattle.cwr_select.proofs.selecting.Selecting.finish.Goals as goal

pub returns-then-report-eq0-clause-ends : goal.returns-then-report-eq0-clause-ends
returns-then-report-eq0-clause-ends g c =
    subst (λ (w : g.row.W.Denot). Finishes g.W.Target.contents c.args.self w (Ok c.args.self.held.report)) (sym c.abandon.ensures)
    (ends_empty g.W.Target.contents c.args.self c.requires.unfailed c.if-report-eq0.true)

pub returns-in-Ok-clause-ends : goal.returns-in-Ok-clause-ends
returns-in-Ok-clause-ends g c =
    let some : 0 < c.args.self.held.report.selected = omega arith in
    ends_whole g.W.Target.contents g.W.Target.failures c.args.self c.finish-writer.result.0 c.in-Ok.field-0 some
    (subst (λ (r : Result ℕ EncodeFault). FinishesWriting g.W.Target.contents g.W.Target.failures c.args.self.encoder
    c.finish-writer.result.0 r) c.in-Ok.is (c.finish-writer.ensures.finishes c.requires.unfailed))

pub fault_of-requires : goal.fault_of-requires
fault_of-requires g c =
    let some : 0 < c.args.self.held.report.selected = omega arith in
    let may = c.requires.may in
    right_last g.W.Target.contents c.args.self (Err c.in-Err.fault) may some
    (subst (λ (r : Result ℕ EncodeFault). JudgesEnd (encoder_limits c.args.self.encoder)
    (map symbol_of (records_in (sent_after may.works may.choice (value_items may.value)))) r) c.in-Err.is
    (c.finish-writer.ensures.judged c.requires.unfailed may.start
    (records_in (sent_after may.works may.choice (value_items may.value))) may.all.encodes))

pub returns-clause-ends : goal.returns-clause-ends
returns-clause-ends g c =
    let some : 0 < c.args.self.held.report.selected = omega arith in
    ends_short g.W.Target.contents g.W.Target.failures c.args.self c.finish-writer.result.0 c.in-Err.fault c.fault_of.result some
    (subst (λ (r : Result ℕ EncodeFault). FinishesWriting g.W.Target.contents g.W.Target.failures c.args.self.encoder
    c.finish-writer.result.0 r) c.in-Err.is (c.finish-writer.ensures.finishes c.requires.unfailed))
    (subst (λ (r : Result ℕ EncodeFault). IsUnlimited r) c.in-Err.is c.finish-writer.ensures.unlimited) c.fault_of.ensures

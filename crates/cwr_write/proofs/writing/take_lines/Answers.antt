use Rattle.std.proofs.Common.{◌≡◌, ℕ, List, [], ◌∷◌, ◌++◌, Option, refl, sym, ap, subst, ◌∙◌, arith}
use Rattle.std.specs.Prelude.{◌+◌, Err, IfErr}
use Rattle.cwr_write.specs.declared.writing.WriteFault.TheVariants as write_faults
use Rattle.cwr_lines.specs.Format.Records.{RecordValue}
use Rattle.cwr_shape.specs.Format.Ranges.{LimitValues}
use Rattle.cwr_encode.specs.Steps.Encoders.{RepresentsMore, encoder_limits, target_of}
use Rattle.cwr_write.specs.Format.Endings.{LeavesAfter}
use Rattle.cwr_write.specs.Format.Faults.{IsReason}
use Rattle.cwr_write.specs.Format.Imports.{SaysItem, given_in, given_records, is_blank_line}
use Rattle.cwr_write.specs.Steps.Lines.{TakesLineOf}
use Rattle.cwr_write.proofs.lemmas.LeftWritten.{left_ended, left_stopped, left_unread, lines_left}
use Rattle.cwr_write.proofs.lemmas.LinesTaken.{said_all, said_blank, said_first, said_item, said_none, stops_line, stops_long}
use Rattle.cwr_write.proofs.lemmas.RunsEnded.{RunEnds, run_full, run_over, run_stopped, run_unread}
use Rattle.cwr_write.proofs.lemmas.TakenLines.{ReasonOf, ends_lines, ends_read, given_one_more, reads_stopped, reads_unread}
use Rattle.cwr_write.proofs.lemmas.TakenLines.{represents_both, represents_none, stands_none, stops_at, stops_unread}
use Rattle.cwr_write.proofs.writing.take_lines.Goals as goal

pub returns-in-Err-clause-takes : goal.returns-in-Err-clause-takes
returns-in-Err-clause-takes g c =
    stops_unread c.args.encoding _ (g.R.Source.remaining c.args.reader.now) g.W.Target.contents g.W.Target.failures c.in-Err.fault
    c.unread_at.result c.args.encoder.now c.loop-before.encoder c.unread_at.ensures c.loop-before.invariant.counts

pub returns-in-Err-clause-reads : goal.returns-in-Err-clause-reads
returns-in-Err-clause-reads g c =
    reads_unread _ c.in-Err.fault c.unread_at.result _ _ _ c.in-Err.ensures.failures c.unread_at.ensures
    c.loop-before.invariant.reads

pub returns-in-Err-clause-ends : goal.returns-in-Err-clause-ends
returns-in-Err-clause-ends g c =
    let i = c.loop-before.invariant in
    let left : Option (List ℕ) = g.R.Source.remaining c.args.reader.now in
    subst (λ (l : LimitValues). RunEnds c.args.encoding l c.args.most left (Err c.unread_at.result)) i.limits
    (run_unread c.args.encoding (encoder_limits c.loop-before.encoder) c.args.most _ left c.in-Err.fault c.unread_at.result
    c.unread_at.ensures
    (λ f why first long. stops_long c.args.encoding (encoder_limits c.loop-before.encoder) c.args.most c.loop-before.before f left
    (g.R.Source.remaining c.loop-before.reader) i.items why first i.said (c.in-Err.ensures.long long) i.stands.first))

pub returns-in-Err-take_line-clause-reads : goal.returns-in-Err-take_line-clause-reads
returns-in-Err-take_line-clause-reads g c =
    reads_stopped _ c.in-Err-take_line.fault c.fault_at.result _ _ c.fault_at.ensures
    (c.in-Ok-true.ensures.failures ∙ c.loop-before.invariant.reads)

pub returns-in-Err-take_line-clause-takes : goal.returns-in-Err-take_line-clause-takes
returns-in-Err-take_line-clause-takes g c =
    stops_at c.args.encoding _ (SaysItem c.args.encoding c.as_slice-text.result.now)
    (ReasonOf c.args.encoding c.as_slice-text.result.now) c.loop-before.reached (g.R.Source.remaining c.args.reader.now)
    g.W.Target.contents g.W.Target.failures
    c.in-Err-take_line.fault c.fault_at.result c.args.encoder.now c.loop-before.encoder c.take_line.new.encoder
    c.in-Err-take_line.ensures.takes c.fault_at.ensures c.loop-before.invariant.counts

pub returns-in-Err-take_line-clause-ends : goal.returns-in-Err-take_line-clause-ends
returns-in-Err-take_line-clause-ends g c =
    let i = c.loop-before.invariant in
    let left : Option (List ℕ) = g.R.Source.remaining c.args.reader.now in
    let limits : LimitValues = encoder_limits c.loop-before.encoder in
    subst (λ (l : LimitValues). RunEnds c.args.encoding l c.args.most left (Err c.fault_at.result)) i.limits
    (run_stopped c.args.encoding _ c.args.most (SaysItem c.args.encoding c.as_slice-text.result.now)
    (ReasonOf c.args.encoding c.as_slice-text.result.now) c.loop-before.reached left g.W.Target.contents g.W.Target.failures _
    i.items
    c.in-Err-take_line.fault c.fault_at.result c.loop-before.encoder c.take_line.new.encoder c.in-Err-take_line.ensures.takes
    c.fault_at.ensures i.stands
    (λ why none reason. stops_line c.args.encoding limits c.args.most c.loop-before.before why left
    (g.R.Source.remaining c.loop-before.reader) (g.R.Source.remaining c.next_line.new.reader) c.next_line.new.line.items
    i.items i.said
    (subst (TakesLineOf (g.R.Source.remaining c.loop-before.reader) (g.R.Source.remaining c.next_line.new.reader)
    c.next_line.new.line.items) c.in-Ok-true.field-0-test c.in-Ok-true.ensures.taken)
    (ap is_blank_line (sym c.as_slice-text.ensures.value) ∙ sym c.is_blank.ensures ∙ c.if-is_blank.false) i.stands.first
    (λ item says. none item (subst (λ (l : List ℕ). SaysItem c.args.encoding l item) (sym c.as_slice-text.ensures.value) says))
    (subst (λ (l : List ℕ). IsReason c.args.encoding limits c.args.most i.items l why) c.as_slice-text.ensures.value
    (reason c.args.most))))

pub loop-before-preserved : goal.loop-before-preserved
loop-before-preserved g c =
    let taken = c.in-Ok.ensures.takes in
    let i = c.loop-before.invariant in
    let grown = taken.6 _ i.items i.stands in
    record {
      unfailed = taken.4;
      items = i.items ++ taken.0 ∷ [];
      added =
          subst (λ (l : List RecordValue). RepresentsMore g.W.Target.contents l c.args.encoder.now c.take_line.new.encoder)
          (sym (given_one_more i.items taken.0))
          (represents_both g.W.Target.contents (given_in i.items) (given_records taken.0) c.args.encoder.now c.loop-before.encoder
          c.take_line.new.encoder i.added taken.3);
      stands = grown;
      said =
          said_item c.args.encoding c.args.most c.loop-before.before (g.R.Source.remaining c.args.reader.now)
          (g.R.Source.remaining c.loop-before.reader) (g.R.Source.remaining c.next_line.new.reader) c.next_line.new.line.items
          i.items taken.0
          i.said (subst (TakesLineOf (g.R.Source.remaining c.loop-before.reader) (g.R.Source.remaining c.next_line.new.reader)
          c.next_line.new.line.items) c.in-Ok-true.field-0-test c.in-Ok-true.ensures.taken)
          c.in-Ok-true.ensures.short
          (ap is_blank_line (sym c.as_slice-text.ensures.value) ∙ sym c.is_blank.ensures ∙ c.if-is_blank.false)
          (subst (λ (l : List ℕ). SaysItem c.args.encoding l taken.0) c.as_slice-text.ensures.value taken.1);
      counts = taken.5 ∙ i.counts;
      limits = c.in-Ok.ensures.limits ∙ i.limits;
      reads = c.in-Ok-true.ensures.failures ∙ i.reads;
    }

pub loop-before-init : goal.loop-before-init
loop-before-init g c = record {
  unfailed = c.requires.unfailed;
  items = [];
  added = represents_none g.W.Target.contents c.args.encoder.now;
  stands = stands_none g.W.Target.contents _ c.args.encoder.now c.requires.fresh;
  said = said_none c.args.encoding c.args.most (g.R.Source.remaining c.args.reader.now);
  counts = refl;
  limits = refl;
  reads = refl;
}

pub returns-in-Ok-false-clause-takes : goal.returns-in-Ok-false-clause-takes
returns-in-Ok-false-clause-takes g c =
    let i = c.loop-before.invariant in
    ends_lines c.args.encoding c.loop-before.before (g.R.Source.remaining c.args.reader.now) g.W.Target.contents
    g.W.Target.failures _ c.loop-before.reached i.items c.ended_with.result c.args.encoder.now c.loop-before.encoder
    c.ended_with.ensures
    i.added i.unfailed i.counts i.stands
    (said_all c.args.encoding c.args.most c.loop-before.before (g.R.Source.remaining c.args.reader.now)
    (g.R.Source.remaining c.loop-before.reader) (g.R.Source.remaining c.next_line.new.reader) c.next_line.new.line.items
    i.items i.said
    (subst (TakesLineOf (g.R.Source.remaining c.loop-before.reader) (g.R.Source.remaining c.next_line.new.reader)
    c.next_line.new.line.items) c.in-Ok-false.field-0-test c.in-Ok-false.ensures.taken))

pub returns-in-Ok-false-clause-reads : goal.returns-in-Ok-false-clause-reads
returns-in-Ok-false-clause-reads g c =
    ends_read c.loop-before.before c.loop-before.reached c.ended_with.result _ _ c.ended_with.ensures
    (c.in-Ok-false.ensures.failures ∙ c.loop-before.invariant.reads)

pub returns-in-Ok-false-clause-ends : goal.returns-in-Ok-false-clause-ends
returns-in-Ok-false-clause-ends g c =
    let i = c.loop-before.invariant in
    let left : Option (List ℕ) = g.R.Source.remaining c.args.reader.now in
    subst (λ (l : LimitValues). RunEnds c.args.encoding l c.args.most left c.ended_with.result) i.limits
    (run_over c.args.encoding c.loop-before.before c.args.most c.loop-before.reached left
    (g.R.Source.remaining c.loop-before.reader) (g.R.Source.remaining c.next_line.new.reader) c.next_line.new.line.items
    g.W.Target.contents _ i.items c.ended_with.result c.loop-before.encoder c.ended_with.ensures i.said
    (subst (TakesLineOf (g.R.Source.remaining c.loop-before.reader) (g.R.Source.remaining c.next_line.new.reader)
    c.next_line.new.line.items) c.in-Ok-false.field-0-test c.in-Ok-false.ensures.taken) i.stands)

pub loop-before-preserved-then-is_blank : goal.loop-before-preserved-then-is_blank
loop-before-preserved-then-is_blank g c =
    let i = c.loop-before.invariant in
    record {
      unfailed = i.unfailed;
      items = i.items;
      added = i.added;
      stands = i.stands;
      said =
          said_blank c.args.encoding c.args.most c.loop-before.before (g.R.Source.remaining c.args.reader.now)
          (g.R.Source.remaining c.loop-before.reader) (g.R.Source.remaining c.next_line.new.reader) c.next_line.new.line.items
          i.items i.said
          (subst (TakesLineOf (g.R.Source.remaining c.loop-before.reader) (g.R.Source.remaining c.next_line.new.reader)
          c.next_line.new.line.items) c.in-Ok-true.field-0-test c.in-Ok-true.ensures.taken)
          c.in-Ok-true.ensures.short
          (ap is_blank_line (sym c.as_slice-text.ensures.value) ∙ sym c.is_blank.ensures ∙ c.if-is_blank.true);
      counts = i.counts;
      limits = i.limits;
      reads = c.in-Ok-true.ensures.failures ∙ i.reads;
    }

pub returns-clause-ends : goal.returns-clause-ends
returns-clause-ends g c =
    run_full c.args.encoding (encoder_limits c.args.encoder.now) c.args.most c.loop-before.before
    (g.R.Source.remaining c.args.reader.now) (g.R.Source.remaining c.loop-before.reader) c.loop-before.invariant.items
    (Err (write_faults.Early 18446744073709551615)) c.loop-before.invariant.said (omega (arith, c.loop-before-test.false))

pub returns-in-Err-clause-leaves : goal.returns-in-Err-clause-leaves
returns-in-Err-clause-leaves g c =
    let i = c.loop-before.invariant in
    let left : Option (List ℕ) = g.R.Source.remaining c.args.reader.now in
    subst (λ (l : LimitValues). LeavesAfter c.args.encoding l left g.W.Target.contents (target_of c.args.encoder.now)
    (target_of c.loop-before.encoder) c.unread_at.result) i.limits
    (left_unread c.args.encoding (encoder_limits c.loop-before.encoder) c.loop-before.before left g.W.Target.contents
    (target_of c.args.encoder.now) (target_of c.loop-before.encoder) c.in-Err.fault c.unread_at.result c.unread_at.ensures
    (lines_left c.args.encoding c.loop-before.before left g.W.Target.contents i.items c.loop-before.reached
    (target_of c.args.encoder.now) c.loop-before.encoder i.stands i.unfailed
    (said_first c.args.encoding c.args.most c.loop-before.before left (g.R.Source.remaining c.loop-before.reader) i.items
    i.said)))

pub returns-in-Err-take_line-clause-leaves : goal.returns-in-Err-take_line-clause-leaves
returns-in-Err-take_line-clause-leaves g c =
    let i = c.loop-before.invariant in
    let left : Option (List ℕ) = g.R.Source.remaining c.args.reader.now in
    subst (λ (l : LimitValues). LeavesAfter c.args.encoding l left g.W.Target.contents (target_of c.args.encoder.now)
    (target_of c.take_line.new.encoder) c.fault_at.result) i.limits
    (left_stopped c.args.encoding c.loop-before.before (SaysItem c.args.encoding c.as_slice-text.result.now)
    (ReasonOf c.args.encoding c.as_slice-text.result.now) c.loop-before.reached left g.W.Target.contents g.W.Target.failures
    i.items c.in-Err-take_line.fault c.fault_at.result (target_of c.args.encoder.now) c.loop-before.encoder
    c.take_line.new.encoder c.in-Err-take_line.ensures.takes c.fault_at.ensures i.stands i.unfailed
    (said_first c.args.encoding c.args.most c.loop-before.before left (g.R.Source.remaining c.loop-before.reader) i.items i.said)
    (λ item says. said_first c.args.encoding c.args.most (c.loop-before.before + 1) left
    (g.R.Source.remaining c.next_line.new.reader) (i.items ++ item ∷ [])
    (said_item c.args.encoding c.args.most c.loop-before.before left (g.R.Source.remaining c.loop-before.reader)
    (g.R.Source.remaining c.next_line.new.reader) c.next_line.new.line.items i.items item i.said
    (subst (TakesLineOf (g.R.Source.remaining c.loop-before.reader) (g.R.Source.remaining c.next_line.new.reader)
    c.next_line.new.line.items) c.in-Ok-true.field-0-test c.in-Ok-true.ensures.taken) c.in-Ok-true.ensures.short
    (ap is_blank_line (sym c.as_slice-text.ensures.value) ∙ sym c.is_blank.ensures ∙ c.if-is_blank.false)
    (subst (λ (l : List ℕ). SaysItem c.args.encoding l item) c.as_slice-text.ensures.value says))))

pub returns-in-Ok-false-clause-leaves : goal.returns-in-Ok-false-clause-leaves
returns-in-Ok-false-clause-leaves g c =
    let i = c.loop-before.invariant in
    let left : Option (List ℕ) = g.R.Source.remaining c.args.reader.now in
    subst (λ (l : LimitValues). IfErr c.ended_with.result (LeavesAfter c.args.encoding l left g.W.Target.contents
    (target_of c.args.encoder.now) (target_of c.loop-before.encoder))) i.limits
    (left_ended c.args.encoding (encoder_limits c.loop-before.encoder) c.loop-before.before c.loop-before.reached left
    g.W.Target.contents (target_of c.args.encoder.now) (target_of c.loop-before.encoder) c.ended_with.result c.ended_with.ensures
    (lines_left c.args.encoding c.loop-before.before left g.W.Target.contents i.items c.loop-before.reached
    (target_of c.args.encoder.now) c.loop-before.encoder i.stands i.unfailed
    (said_first c.args.encoding c.args.most c.loop-before.before left (g.R.Source.remaining c.loop-before.reader) i.items
    i.said)))

pub returns-clause-leaves : goal.returns-clause-leaves
returns-clause-leaves g c =
    let i = c.loop-before.invariant in
    let left : Option (List ℕ) = g.R.Source.remaining c.args.reader.now in
    let all : c.loop-before.before ≡ 18446744073709551615 = omega (arith, c.loop-before-test.false) in
    subst (λ (l : LimitValues). LeavesAfter c.args.encoding l left g.W.Target.contents (target_of c.args.encoder.now)
    (target_of c.loop-before.encoder) (write_faults.Early 18446744073709551615)) i.limits
    (subst (λ (n : ℕ). LeavesAfter c.args.encoding (encoder_limits c.loop-before.encoder) left g.W.Target.contents
    (target_of c.args.encoder.now) (target_of c.loop-before.encoder) (write_faults.Early n)) all
    (lines_left c.args.encoding c.loop-before.before left g.W.Target.contents i.items c.loop-before.reached
    (target_of c.args.encoder.now) c.loop-before.encoder i.stands i.unfailed
    (said_first c.args.encoding c.args.most c.loop-before.before left (g.R.Source.remaining c.loop-before.reader) i.items
    i.said)))

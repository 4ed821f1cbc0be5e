use Rattle.std.proofs.Common.{rules, refl, sym, ap, subst, ◌∙◌, arith}
use Rattle.std.specs.Prelude.{Result, Ok, Err}
use Rattle.cwr_decode.specs.Steps.Runs.{HasReadAll}
use Rattle.cwr_decode.proofs.lemmas.ItemsReadSoFar.{none_read, nothing_read_yet}
use Rattle.cwr_tools.specs.declared.verdicts.ToolFault.{ToolFault}
use Rattle.cwr_parts.specs.Steps.SplitItems.{SplitsItems}
use Rattle.cwr_parts.specs.Steps.SplitOutputs.{told_by}
use Rattle.cwr_parts.specs.Steps.Splitting.{Splits}
use Rattle.cwr_tools.specs.Steps.Verdicts.{StopsAfter}
use Rattle.cwr_tools.proofs.lemmas.ReportsOn.{same_fault, stops_after}
use Rattle.cwr_parts.proofs.lemmas.SplittingOn.{few_handed_out, item_taken, leaves_item, may_take, next_item, none_split}
use Rattle.cwr_parts.proofs.lemmas.SplitsEnded.{all_split, no_output_left, output_stopped, reading_stopped}
use Rattle.cwr_parts.specs.Steps.SplitWriters.{TellsOpen}
use Rattle.cwr_parts.proofs.lemmas.WritersCounted.{known_still, ok_tells, open_failed, reading_tells}
use Rattle.cwr_tools.proofs.lemmas.Viewed.{sees_more, sees_none, sees_text}
use Rattle.cwr_parts.proofs.splitting.split_items.Goals as goal

pub items-init : goal.items-init
unfolding none_split
items-init g c =
    let new = c.new-reading.ensures in
    let reading =
    nothing_read_yet c.args.limits c.new-reading.result.decoder (g.R.Source.remaining c.args.reader.now)
    (g.R.Source.remaining c.new-reading.result.reader.now) new.represents new.limits new.open new.fresh
    (ap g.R.Source.remaining new.kept) in
    record {
      splitting =
          none_split c.args.limits c.args.splitting.now.size c.new-reading.result.decoder (g.R.Source.remaining c.args.reader.now)
          (g.R.Source.remaining c.new-reading.result.reader.now)
          (told_by g.O.Outputs.texts g.O.Outputs.failures g.O.Outputs.given_up g.O.W.Target.contents g.O.W.Target.failures)
          c.args.splitting.now c.args.outputs.now c.requires.fresh reading;
      seen = sees_none g.V.Viewer.has_seen c.args.viewer.now;
      lent = λ others e. e;
      began = λ known e b. b;
      failures = ap g.R.Source.failures new.kept;
      same = refl;
    }

pub take_item-requires : goal.take_item-requires
take_item-requires g c =
    let reading =
    next_item c.args.limits c.args.splitting.now.size c.items.reading.decoder c.next_item.new.self.decoder
    (g.R.Source.remaining c.args.reader.now) _ _
    (told_by g.O.Outputs.texts g.O.Outputs.failures g.O.Outputs.given_up g.O.W.Target.contents g.O.W.Target.failures)
    c.items.handed_out c.args.outputs.now c.items.splitting c.items.outputs
    c.in-Ok-Some.field-0 c.in-Ok-Some.item _ _ c.in-Ok-Some.field-0-is c.items.invariant.splitting c.in-Ok-Some.ensures.reads
    c.in-Ok-Some.ensures.again in
    (may_take c.args.limits c.args.splitting.now.size c.items.reading.decoder c.next_item.new.self.decoder
    (g.R.Source.remaining c.args.reader.now) _ _
    (told_by g.O.Outputs.texts g.O.Outputs.failures g.O.Outputs.given_up g.O.W.Target.contents g.O.W.Target.failures)
    c.items.handed_out c.args.outputs.now c.items.splitting c.items.outputs
    c.in-Ok-Some.item
    c.requires.some c.items.invariant.splitting reading).0

pub overflow_add-handed_out : goal.overflow_add-handed_out
overflow_add-handed_out g c =
    let reading =
    next_item c.args.limits c.args.splitting.now.size c.items.reading.decoder c.next_item.new.self.decoder
    (g.R.Source.remaining c.args.reader.now) _ _
    (told_by g.O.Outputs.texts g.O.Outputs.failures g.O.Outputs.given_up g.O.W.Target.contents g.O.W.Target.failures)
    c.items.handed_out c.args.outputs.now c.items.splitting c.items.outputs
    c.in-Ok-Some.field-0 c.in-Ok-Some.item _ _ c.in-Ok-Some.field-0-is c.items.invariant.splitting c.in-Ok-Some.ensures.reads
    c.in-Ok-Some.ensures.again in
    omega (
      arith,
      few_handed_out c.args.limits c.args.splitting.now.size c.items.reading.decoder c.next_item.new.self.decoder
          (g.R.Source.remaining c.args.reader.now) _ _
          (told_by g.O.Outputs.texts g.O.Outputs.failures g.O.Outputs.given_up g.O.W.Target.contents g.O.W.Target.failures)
          c.items.handed_out c.args.outputs.now c.items.splitting c.items.outputs
          c.in-Ok-Some.item c.items.invariant.splitting reading,
    )

pub items-smaller : goal.items-smaller
items-smaller g c =
    let reading =
    next_item c.args.limits c.args.splitting.now.size c.items.reading.decoder c.next_item.new.self.decoder
    (g.R.Source.remaining c.args.reader.now) _ _
    (told_by g.O.Outputs.texts g.O.Outputs.failures g.O.Outputs.given_up g.O.W.Target.contents g.O.W.Target.failures)
    c.items.handed_out c.args.outputs.now c.items.splitting c.items.outputs
    c.in-Ok-Some.field-0 c.in-Ok-Some.item _ _ c.in-Ok-Some.field-0-is c.items.invariant.splitting c.in-Ok-Some.ensures.reads
    c.in-Ok-Some.ensures.again in
    omega (
      arith,
      few_handed_out c.args.limits c.args.splitting.now.size c.items.reading.decoder c.next_item.new.self.decoder
          (g.R.Source.remaining c.args.reader.now) _ _
          (told_by g.O.Outputs.texts g.O.Outputs.failures g.O.Outputs.given_up g.O.W.Target.contents g.O.W.Target.failures)
          c.items.handed_out c.args.outputs.now c.items.splitting c.items.outputs
          c.in-Ok-Some.item c.items.invariant.splitting reading,
    )

pub items-preserved : goal.items-preserved
unfolding item_taken
items-preserved g c =
    let reading =
    next_item c.args.limits c.args.splitting.now.size c.items.reading.decoder c.next_item.new.self.decoder
    (g.R.Source.remaining c.args.reader.now) _ _
    (told_by g.O.Outputs.texts g.O.Outputs.failures g.O.Outputs.given_up g.O.W.Target.contents g.O.W.Target.failures)
    c.items.handed_out c.args.outputs.now c.items.splitting c.items.outputs
    c.in-Ok-Some.field-0 c.in-Ok-Some.item _ _ c.in-Ok-Some.field-0-is c.items.invariant.splitting c.in-Ok-Some.ensures.reads
    c.in-Ok-Some.ensures.again in
    let may =
    may_take c.args.limits c.args.splitting.now.size c.items.reading.decoder c.next_item.new.self.decoder
    (g.R.Source.remaining c.args.reader.now) _ _
    (told_by g.O.Outputs.texts g.O.Outputs.failures g.O.Outputs.given_up g.O.W.Target.contents g.O.W.Target.failures)
    c.items.handed_out c.args.outputs.now c.items.splitting c.items.outputs
    c.in-Ok-Some.item
    c.requires.some c.items.invariant.splitting reading in
    record {
      splitting =
          item_taken c.args.limits c.args.splitting.now.size c.items.reading.decoder c.next_item.new.self.decoder
          (g.R.Source.remaining c.args.reader.now) _ _
          (told_by g.O.Outputs.texts g.O.Outputs.failures g.O.Outputs.given_up g.O.W.Target.contents g.O.W.Target.failures)
          c.items.handed_out c.args.outputs.now c.items.splitting
          c.take_item.new.splitting c.items.outputs
          c.take_item.new.outputs c.in-Ok-Some.item c.requires.some c.items.invariant.splitting reading (leaves_item
          c.in-Ok-Some.field-0 c.in-Ok-Some.item c.next_item.new.self.decoder.state c.in-Ok-Some.field-0-is
          c.in-Ok-Some.ensures.reads.leaves) may.0.stage may.1 (c.in_ok-take_item-in-Ok-Some.ensures.takes may.0);
      seen =
          sees_more g.V.Viewer.has_seen c.args.viewer.now c.items.viewer c.see.new.self c.items.invariant.splitting.given
          c.in-Ok-Some.item c.items.invariant.seen c.see.ensures;
      lent = λ others e. c.in_ok-take_item-in-Ok-Some.ensures.lent others (c.items.invariant.lent others e);
      began = λ known e b.
          let now =
          known_still (g.O.Outputs.texts c.args.outputs.now) (g.O.Outputs.texts c.items.outputs) _ known e
          c.items.invariant.splitting.texts in
          (c.in_ok-take_item-in-Ok-Some.ensures.written now.0 now.1 (c.items.invariant.began known e b)).0;
      failures = c.in-Ok-Some.ensures.failures ∙ c.items.invariant.failures;
      same = c.in-Ok-Some.ensures.same_reference ∙ c.items.invariant.same;
    }

pub returns-in_err-take_item-in-Ok-Some-clause-splits : goal.returns-in_err-take_item-in-Ok-Some-clause-splits
returns-in_err-take_item-in-Ok-Some-clause-splits g c =
    let reading =
    next_item c.args.limits c.args.splitting.now.size c.items.reading.decoder c.next_item.new.self.decoder
    (g.R.Source.remaining c.args.reader.now) _ _
    (told_by g.O.Outputs.texts g.O.Outputs.failures g.O.Outputs.given_up g.O.W.Target.contents g.O.W.Target.failures)
    c.items.handed_out c.args.outputs.now c.items.splitting c.items.outputs
    c.in-Ok-Some.field-0 c.in-Ok-Some.item _ _ c.in-Ok-Some.field-0-is c.items.invariant.splitting c.in-Ok-Some.ensures.reads
    c.in-Ok-Some.ensures.again in
    let stopped : Splits c.args.limits c.args.splitting.now.size (g.R.Source.remaining c.args.reader.now)
    (g.R.Source.remaining c.next_item.new.self.reader.now) (g.O.Outputs.texts c.args.outputs.now)
    (g.O.Outputs.texts c.take_item.new.outputs) (Err c.in_err-take_item-in-Ok-Some.field-0.0)
    = output_stopped c.args.limits c.args.splitting.now.size c.items.reading.decoder c.next_item.new.self.decoder
    (g.R.Source.remaining c.args.reader.now) _ (g.R.Source.remaining c.next_item.new.self.reader.now)
    (told_by g.O.Outputs.texts g.O.Outputs.failures g.O.Outputs.given_up g.O.W.Target.contents g.O.W.Target.failures)
    c.items.handed_out c.args.outputs.now c.items.splitting c.items.outputs c.take_item.new.outputs
    c.in-Ok-Some.item c.in_err-take_item-in-Ok-Some.field-0.0 _ c.requires.some c.items.invariant.splitting reading
    c.in_err-take_item-in-Ok-Some.ensures.takes in
    let faulty : SplitsItems c.args.limits c.args.splitting.now.size (g.R.Source.remaining c.args.reader.now)
    (g.R.Source.remaining c.next_item.new.self.reader.now) (g.O.Outputs.texts c.args.outputs.now)
    (g.O.Outputs.texts c.take_item.new.outputs) c.take_item.new.splitting.report c.from_residual.result
    = subst (λ (r : Result (Unit {0}) ToolFault). SplitsItems c.args.limits c.args.splitting.now.size
    (g.R.Source.remaining c.args.reader.now) (g.R.Source.remaining c.next_item.new.self.reader.now)
    (g.O.Outputs.texts c.args.outputs.now) (g.O.Outputs.texts c.take_item.new.outputs) c.take_item.new.splitting.report r)
    (sym (same_fault c.from_residual.result c.in_err-take_item-in-Ok-Some.field-0.0 c.from_residual.ensures.1)) stopped in
    search rules

pub returns-in-Ok-None-clause-splits : goal.returns-in-Ok-None-clause-splits
returns-in-Ok-None-clause-splits g c =
    let all : HasReadAll c.args.limits (g.R.Source.remaining c.args.reader.now)
    (g.R.Source.remaining c.next_item.new.self.reader.now) c.items.invariant.splitting.given
    = none_read c.args.limits c.items.reading.decoder c.next_item.new.self.decoder (g.R.Source.remaining c.args.reader.now) _ _
    c.items.invariant.splitting.given c.in-Ok-None.field-0 _ c.in-Ok-None.field-0-is
    c.items.invariant.splitting.reading c.in-Ok-None.ensures.reads c.in-Ok-None.ensures.again (λ e. ap g.R.Source.remaining e) in
    let good : SplitsItems c.args.limits c.args.splitting.now.size (g.R.Source.remaining c.args.reader.now)
    (g.R.Source.remaining c.next_item.new.self.reader.now) (g.O.Outputs.texts c.args.outputs.now)
    (g.O.Outputs.texts c.items.outputs) c.items.splitting.report (Ok tt)
    = all_split c.args.limits c.args.splitting.now.size c.items.reading.decoder (g.R.Source.remaining c.args.reader.now) _
    (g.R.Source.remaining c.next_item.new.self.reader.now)
    (told_by g.O.Outputs.texts g.O.Outputs.failures g.O.Outputs.given_up g.O.W.Target.contents g.O.W.Target.failures)
    c.items.handed_out c.args.outputs.now c.items.splitting c.items.outputs c.requires.some c.items.invariant.splitting all in
    search rules

pub returns-in-Err-clause-splits : goal.returns-in-Err-clause-splits
returns-in-Err-clause-splits g c =
    let stop : StopsAfter c.args.limits c.in-Err.fault (g.R.Source.remaining c.args.reader.now)
    (g.R.Source.remaining c.next_item.new.self.reader.now) c.items.invariant.splitting.given
    = stops_after c.args.limits c.items.reading.decoder c.next_item.new.self.decoder (g.R.Source.remaining c.args.reader.now) _ _
    c.items.invariant.splitting.given c.in-Err.fault _ _
    c.items.invariant.splitting.reading c.in-Err.ensures.reads c.in-Err.ensures.again in
    let stopped : Splits c.args.limits c.args.splitting.now.size (g.R.Source.remaining c.args.reader.now)
    (g.R.Source.remaining c.next_item.new.self.reader.now) (g.O.Outputs.texts c.args.outputs.now)
    (g.O.Outputs.texts c.items.outputs) (Err c.reading_fault.result)
    = subst (λ (f : ToolFault). Splits c.args.limits c.args.splitting.now.size (g.R.Source.remaining c.args.reader.now)
    (g.R.Source.remaining c.next_item.new.self.reader.now) (g.O.Outputs.texts c.args.outputs.now)
    (g.O.Outputs.texts c.items.outputs) (Err f))
    (sym c.reading_fault.ensures) (reading_stopped c.args.limits c.args.splitting.now.size c.items.reading.decoder
    (g.R.Source.remaining c.args.reader.now) _ (g.R.Source.remaining c.next_item.new.self.reader.now)
    (told_by g.O.Outputs.texts g.O.Outputs.failures g.O.Outputs.given_up g.O.W.Target.contents g.O.W.Target.failures)
    c.items.handed_out c.args.outputs.now c.items.splitting c.items.outputs c.in-Err.fault _ _ c.requires.some
    c.items.invariant.splitting
    c.in-Err.ensures.again stop) in
    search rules

pub returns-in-Ok-None-clause-ended : goal.returns-in-Ok-None-clause-ended
returns-in-Ok-None-clause-ended g c =
    let all : HasReadAll c.args.limits (g.R.Source.remaining c.args.reader.now)
    (g.R.Source.remaining c.next_item.new.self.reader.now) c.items.invariant.splitting.given
    = none_read c.args.limits c.items.reading.decoder c.next_item.new.self.decoder (g.R.Source.remaining c.args.reader.now) _ _
    c.items.invariant.splitting.given c.in-Ok-None.field-0 _ c.in-Ok-None.field-0-is
    c.items.invariant.splitting.reading c.in-Ok-None.ensures.reads c.in-Ok-None.ensures.again (λ e. ap g.R.Source.remaining e) in
    no_output_left c.args.limits c.args.splitting.now.size c.items.reading.decoder (g.R.Source.remaining c.args.reader.now) _
    (g.R.Source.remaining c.next_item.new.self.reader.now)
    (told_by g.O.Outputs.texts g.O.Outputs.failures g.O.Outputs.given_up g.O.W.Target.contents g.O.W.Target.failures)
    c.items.handed_out c.args.outputs.now c.items.splitting c.items.outputs c.requires.some c.items.invariant.splitting all

pub returns-in_err-take_item-in-Ok-Some-clause-lent : goal.returns-in_err-take_item-in-Ok-Some-clause-lent
returns-in_err-take_item-in-Ok-Some-clause-lent g c =
    λ others e. c.in_err-take_item-in-Ok-Some.ensures.lent others (c.items.invariant.lent others e)

pub returns-in-Ok-None-clause-written : goal.returns-in-Ok-None-clause-written
returns-in-Ok-None-clause-written g c =
    λ known e b. (c.items.invariant.began known e b, ok_tells tt c.items.splitting.output (g.O.Outputs.had c.items.outputs))

pub returns-in-Err-clause-written : goal.returns-in-Err-clause-written
returns-in-Err-clause-written g c = λ known e b. (
  c.items.invariant.began known e b,
  subst (λ (f : ToolFault). TellsOpen (Err f) c.items.splitting.output (g.O.Outputs.had c.items.outputs))
      (sym c.reading_fault.ensures) (reading_tells c.in-Err.fault c.items.splitting.output (g.O.Outputs.had c.items.outputs)),
)

pub returns-in_err-take_item-in-Ok-Some-clause-written : goal.returns-in_err-take_item-in-Ok-Some-clause-written
returns-in_err-take_item-in-Ok-Some-clause-written g c = λ known e b.
    let now =
    known_still (g.O.Outputs.texts c.args.outputs.now) (g.O.Outputs.texts c.items.outputs) _ known e
    c.items.invariant.splitting.texts in
    open_failed g.O.W.Target.contents c.items.splitting.output c.take_item.new.splitting.output
    (g.O.Outputs.had c.take_item.new.outputs) c.in_err-take_item-in-Ok-Some.field-0.0 c.from_residual.result
    c.from_residual.ensures.1
    (c.in_err-take_item-in-Ok-Some.ensures.written now.0 now.1) (c.items.invariant.began known e b)

pub returns-in-Ok-None-clause-seen : goal.returns-in-Ok-None-clause-seen
returns-in-Ok-None-clause-seen g c =
    let all : HasReadAll c.args.limits (g.R.Source.remaining c.args.reader.now)
    (g.R.Source.remaining c.next_item.new.self.reader.now) c.items.invariant.splitting.given
    = none_read c.args.limits c.items.reading.decoder c.next_item.new.self.decoder (g.R.Source.remaining c.args.reader.now) _ _
    c.items.invariant.splitting.given c.in-Ok-None.field-0 _ c.in-Ok-None.field-0-is
    c.items.invariant.splitting.reading c.in-Ok-None.ensures.reads c.in-Ok-None.ensures.again (λ e. ap g.R.Source.remaining e) in
    sees_text c.args.limits g.V.Viewer.has_seen (g.R.Source.remaining c.args.reader.now) _ c.args.viewer.now c.items.viewer
    c.items.invariant.splitting.given all c.items.invariant.seen

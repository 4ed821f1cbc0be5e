use Rattle.std.proofs.Common.{rules, refl, sym, ap, subst, ◌∙◌, arith}
use Rattle.std.specs.Prelude.{Result, Ok, Err}
use Rattle.cwr_decode.specs.Steps.Runs.{HasReadAll}
use Rattle.cwr_decode.proofs.lemmas.ItemsReadSoFar.{none_read, nothing_read_yet}
use Rattle.cwr_tools.specs.declared.verdicts.ToolFault.{ToolFault}
use Rattle.cwr_tools.specs.Steps.Verdicts.{StopsAfter}
use Rattle.cwr_parts.specs.Steps.Joined.{AddsInput, SeesInput}
use Rattle.cwr_tools.proofs.lemmas.ReportsOn.{same_fault, stops_after}
use Rattle.cwr_parts.proofs.lemmas.OneInputJoined.{few_handed_out, input_joined, item_added, item_refused, may_add}
use Rattle.cwr_parts.proofs.lemmas.OneInputJoined.{next_handed_out}
use Rattle.cwr_parts.proofs.lemmas.OneInputJoined.{none_yet, reading_stopped}
use Rattle.cwr_tools.proofs.lemmas.Viewed.{sees_more, sees_none, sees_taken}
use Rattle.cwr_parts.proofs.joining.add_input.Goals as goal

pub items-init : goal.items-init
unfolding none_yet
items-init g c =
    let new = c.new-reading.ensures in
    let reading =
    nothing_read_yet c.args.limits c.new-reading.result.decoder (g.R.Source.remaining c.args.reader.now)
    (g.R.Source.remaining c.new-reading.result.reader.now) new.represents new.limits new.open new.fresh
    (ap g.R.Source.remaining new.kept) in
    record {
      joining =
          none_yet c.args.limits c.args.first c.new-reading.result.decoder (g.R.Source.remaining c.args.reader.now)
          (g.R.Source.remaining c.new-reading.result.reader.now) g.W.Target.contents g.W.Target.failures
          c.args.joined.now reading c.requires.unfailed;
      seen = sees_none g.V.Viewer.has_seen c.args.viewer.now;
      failures = ap g.R.Source.failures new.kept;
      same = refl;
    }

pub add-requires-clause-unfailed : goal.add-requires-clause-unfailed
add-requires-clause-unfailed g c = c.items.invariant.joining.on.unfailed

pub add-requires-clause-may : goal.add-requires-clause-may
add-requires-clause-may g c =
    let reading =
    next_handed_out c.args.limits c.args.first c.items.reading.decoder c.next_item_after.new.self.decoder
    (g.R.Source.remaining c.args.reader.now) _ _ g.W.Target.contents g.W.Target.failures c.items.handed_out c.args.joined.now
    c.items.joined
    c.in-Ok-Some.field-0 c.in-Ok-Some.item _ _ c.in-Ok-Some.field-0-is c.items.invariant.joining c.in-Ok-Some.ensures.reads
    c.in-Ok-Some.ensures.again in
    may_add c.args.limits c.args.first c.items.reading.decoder c.next_item_after.new.self.decoder
    (g.R.Source.remaining c.args.reader.now) _ _ g.W.Target.contents g.W.Target.failures c.items.handed_out c.args.joined.now
    c.items.joined
    c.in-Ok-Some.item c.requires.between c.requires.limits c.items.invariant.joining reading

pub overflow_add-handed_out : goal.overflow_add-handed_out
overflow_add-handed_out g c =
    let reading =
    next_handed_out c.args.limits c.args.first c.items.reading.decoder c.next_item_after.new.self.decoder
    (g.R.Source.remaining c.args.reader.now) _ _ g.W.Target.contents g.W.Target.failures c.items.handed_out c.args.joined.now
    c.items.joined
    c.in-Ok-Some.field-0 c.in-Ok-Some.item _ _ c.in-Ok-Some.field-0-is c.items.invariant.joining c.in-Ok-Some.ensures.reads
    c.in-Ok-Some.ensures.again in
    omega (
      arith,
      few_handed_out c.args.limits c.args.first c.items.reading.decoder c.next_item_after.new.self.decoder
          (g.R.Source.remaining c.args.reader.now) _ _ g.W.Target.contents g.W.Target.failures c.items.handed_out
          c.args.joined.now c.items.joined
          c.in-Ok-Some.item c.items.invariant.joining reading,
    )

pub items-smaller : goal.items-smaller
items-smaller g c =
    let reading =
    next_handed_out c.args.limits c.args.first c.items.reading.decoder c.next_item_after.new.self.decoder
    (g.R.Source.remaining c.args.reader.now) _ _ g.W.Target.contents g.W.Target.failures c.items.handed_out c.args.joined.now
    c.items.joined
    c.in-Ok-Some.field-0 c.in-Ok-Some.item _ _ c.in-Ok-Some.field-0-is c.items.invariant.joining c.in-Ok-Some.ensures.reads
    c.in-Ok-Some.ensures.again in
    omega (
      arith,
      few_handed_out c.args.limits c.args.first c.items.reading.decoder c.next_item_after.new.self.decoder
          (g.R.Source.remaining c.args.reader.now) _ _ g.W.Target.contents g.W.Target.failures c.items.handed_out
          c.args.joined.now c.items.joined
          c.in-Ok-Some.item c.items.invariant.joining reading,
    )

pub items-preserved : goal.items-preserved
unfolding item_added
items-preserved g c =
    let reading =
    next_handed_out c.args.limits c.args.first c.items.reading.decoder c.next_item_after.new.self.decoder
    (g.R.Source.remaining c.args.reader.now) _ _ g.W.Target.contents g.W.Target.failures c.items.handed_out c.args.joined.now
    c.items.joined
    c.in-Ok-Some.field-0 c.in-Ok-Some.item _ _ c.in-Ok-Some.field-0-is c.items.invariant.joining c.in-Ok-Some.ensures.reads
    c.in-Ok-Some.ensures.again in
    record {
      joining =
          item_added c.args.limits c.args.first c.items.reading.decoder c.next_item_after.new.self.decoder
          (g.R.Source.remaining c.args.reader.now) _ _ g.W.Target.contents g.W.Target.failures c.items.handed_out
          c.args.joined.now c.items.joined
          c.add.new.self c.in-Ok-Some.item tt c.items.invariant.joining reading c.in_ok-add-in-Ok-Some.ensures;
      seen =
          sees_more g.V.Viewer.has_seen c.args.viewer.now c.items.viewer c.see.new.self c.items.invariant.joining.given
          c.in-Ok-Some.item c.items.invariant.seen c.see.ensures;
      failures = c.in-Ok-Some.ensures.failures ∙ c.items.invariant.failures;
      same = c.in-Ok-Some.ensures.same_reference ∙ c.items.invariant.same;
    }

pub returns-in_err-add-in-Ok-Some-clause-adds : goal.returns-in_err-add-in-Ok-Some-clause-adds
returns-in_err-add-in-Ok-Some-clause-adds g c =
    let reading =
    next_handed_out c.args.limits c.args.first c.items.reading.decoder c.next_item_after.new.self.decoder
    (g.R.Source.remaining c.args.reader.now) _ _ g.W.Target.contents g.W.Target.failures c.items.handed_out c.args.joined.now
    c.items.joined
    c.in-Ok-Some.field-0 c.in-Ok-Some.item _ _ c.in-Ok-Some.field-0-is c.items.invariant.joining c.in-Ok-Some.ensures.reads
    c.in-Ok-Some.ensures.again in
    let faulty : AddsInput c.args.limits g.W.Target.contents g.W.Target.failures c.args.first
    (g.R.Source.remaining c.args.reader.now) (g.R.Source.remaining c.next_item_after.new.self.reader.now) c.from_residual.result
    c.args.joined.now c.add.new.self
    = subst (λ (r : Result (Unit {0}) ToolFault). AddsInput c.args.limits g.W.Target.contents g.W.Target.failures c.args.first
    (g.R.Source.remaining c.args.reader.now) (g.R.Source.remaining c.next_item_after.new.self.reader.now) r c.args.joined.now
    c.add.new.self)
    (sym (same_fault c.from_residual.result c.in_err-add-in-Ok-Some.field-0.0 c.from_residual.ensures.1))
    (item_refused c.args.limits c.args.first c.items.reading.decoder c.next_item_after.new.self.decoder
    (g.R.Source.remaining c.args.reader.now) _ _ g.W.Target.contents g.W.Target.failures c.items.handed_out c.args.joined.now
    c.items.joined c.add.new.self
    c.in-Ok-Some.item c.in_err-add-in-Ok-Some.field-0.0 c.requires.limits c.items.invariant.joining reading
    c.in_err-add-in-Ok-Some.ensures) in
    search rules

pub returns-in-Ok-None-clause-adds : goal.returns-in-Ok-None-clause-adds
returns-in-Ok-None-clause-adds g c =
    let all : HasReadAll c.args.limits (g.R.Source.remaining c.args.reader.now)
    (g.R.Source.remaining c.next_item_after.new.self.reader.now) c.items.invariant.joining.given
    = none_read c.args.limits c.items.reading.decoder c.next_item_after.new.self.decoder (g.R.Source.remaining c.args.reader.now) _ _
    c.items.invariant.joining.given c.in-Ok-None.field-0 _ c.in-Ok-None.field-0-is
    c.items.invariant.joining.reading c.in-Ok-None.ensures.reads c.in-Ok-None.ensures.again (λ e. ap g.R.Source.remaining e) in
    let good : AddsInput c.args.limits g.W.Target.contents g.W.Target.failures c.args.first
    (g.R.Source.remaining c.args.reader.now) (g.R.Source.remaining c.next_item_after.new.self.reader.now) (Ok tt) c.args.joined.now
    c.items.joined
    = input_joined c.args.limits c.args.first _ _ g.W.Target.contents g.W.Target.failures c.args.joined.now c.items.joined
    c.items.invariant.joining.given tt all c.items.invariant.joining.on in
    search rules

pub returns-in-Err-clause-adds : goal.returns-in-Err-clause-adds
returns-in-Err-clause-adds g c =
    let stop : StopsAfter c.args.limits c.in-Err.fault (g.R.Source.remaining c.args.reader.now)
    (g.R.Source.remaining c.next_item_after.new.self.reader.now) c.items.invariant.joining.given
    = stops_after c.args.limits c.items.reading.decoder c.next_item_after.new.self.decoder (g.R.Source.remaining c.args.reader.now) _ _
    c.items.invariant.joining.given c.in-Err.fault _ _
    c.items.invariant.joining.reading c.in-Err.ensures.reads c.in-Err.ensures.again in
    let stopped : AddsInput c.args.limits g.W.Target.contents g.W.Target.failures c.args.first
    (g.R.Source.remaining c.args.reader.now) (g.R.Source.remaining c.next_item_after.new.self.reader.now)
    (Err c.reading_fault.result) c.args.joined.now c.items.joined
    = subst (λ (f : ToolFault). AddsInput c.args.limits g.W.Target.contents g.W.Target.failures c.args.first
    (g.R.Source.remaining c.args.reader.now) (g.R.Source.remaining c.next_item_after.new.self.reader.now) (Err f) c.args.joined.now
    c.items.joined)
    (sym c.reading_fault.ensures) (reading_stopped c.args.limits c.args.first _ _ g.W.Target.contents g.W.Target.failures
    c.args.joined.now c.items.joined c.items.invariant.joining.given c.in-Err.fault stop c.items.invariant.joining.on) in
    search rules

pub returns-in-Ok-None-clause-seen : goal.returns-in-Ok-None-clause-seen
returns-in-Ok-None-clause-seen g c =
    let all : HasReadAll c.args.limits (g.R.Source.remaining c.args.reader.now)
    (g.R.Source.remaining c.next_item_after.new.self.reader.now) c.items.invariant.joining.given
    = none_read c.args.limits c.items.reading.decoder c.next_item_after.new.self.decoder (g.R.Source.remaining c.args.reader.now) _ _
    c.items.invariant.joining.given c.in-Ok-None.field-0 _ c.in-Ok-None.field-0-is
    c.items.invariant.joining.reading c.in-Ok-None.ensures.reads c.in-Ok-None.ensures.again (λ e. ap g.R.Source.remaining e) in
    let seen : SeesInput c.args.limits g.V.Viewer.has_seen (g.R.Source.remaining c.args.reader.now)
    (g.R.Source.remaining c.next_item_after.new.self.reader.now) c.args.viewer.now c.items.viewer
    = sees_taken c.args.limits g.V.Viewer.has_seen (g.R.Source.remaining c.args.reader.now) _ c.args.viewer.now c.items.viewer
    c.items.invariant.joining.given all c.items.invariant.seen in
    search rules

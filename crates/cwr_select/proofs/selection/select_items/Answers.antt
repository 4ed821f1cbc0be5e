use Rattle.std.proofs.Common.{rules, refl, sym, ap, subst, ◌∙◌, arith}
use Rattle.std.specs.Prelude.{Result, Ok, Err, Option}
use Rattle.cwr_decode.specs.Steps.Runs.{HasReadAll}
use Rattle.cwr_decode.proofs.lemmas.ItemsReadSoFar.{fewer_left, none_read, nothing_read_yet}
use Rattle.cwr_tools.specs.declared.verdicts.ToolFault.{ToolFault}
use Rattle.cwr_tools.specs.Steps.Verdicts.{StopsAfter}
use Rattle.cwr_tools.proofs.lemmas.ReportsOn.{same_fault, stops_after}
use Rattle.cwr_tools.proofs.lemmas.Viewed.{sees_more, sees_none, sees_text}
use Rattle.cwr_values.specs.declared.items.Item.{Item}
use Rattle.cwr_select.specs.Steps.Selecting.{MayTake, SelectsItems}
use Rattle.cwr_select.proofs.lemmas.FewItems.{few_read}
use Rattle.cwr_select.proofs.lemmas.SelectingOn.{few_handed_out, item_taken, may_take, next_item, none_yet, opens_so}
use Rattle.cwr_select.proofs.lemmas.SelectionsEnded.{all_selected, item_refused, reading_stopped}
use Rattle.cwr_select.proofs.selection.select_items.Goals as goal

pub items-init : goal.items-init
unfolding none_yet
items-init g c =
    let new = c.new-reading.ensures in
    let reading =
    nothing_read_yet c.args.limits c.new-reading.result.decoder (g.R.Source.remaining c.args.reader.now)
    (g.R.Source.remaining c.new-reading.result.reader.now) new.represents new.limits new.open new.fresh
    (ap g.R.Source.remaining new.kept) in
    record {
      selecting =
          none_yet c.args.limits c.args.changes (g.C.Chooses.choice c.args.choice.now) c.new-reading.result.decoder
          (g.R.Source.remaining c.args.reader.now) (g.R.Source.remaining c.new-reading.result.reader.now) g.W.Target.contents
          g.W.Target.failures c.args.selecting.now reading c.requires.unfailed c.requires.held;
      seen = λ first. sees_none (g.V.SelectViewer.has_seen first) c.args.viewer.now;
      failures = ap g.R.Source.failures new.kept;
      same = refl;
    }

pub take-requires : goal.take-requires
take-requires g c =
    let reading =
    next_item c.args.limits c.args.changes (g.C.Chooses.choice c.args.choice.now) c.items.reading.decoder
    c.next_item_after.new.self.decoder
    (g.R.Source.remaining c.args.reader.now) _ _ g.W.Target.contents g.W.Target.failures c.items.handed_out c.args.selecting.now
    c.items.selecting c.in-Ok-Some.field-0 c.in-Ok-Some.item _ _ c.in-Ok-Some.field-0-is c.items.invariant.selecting
    c.in-Ok-Some.ensures.reads c.in-Ok-Some.ensures.again in
    subst (λ (i : Item). MayTake g.W.Target.contents c.args.changes.works (g.C.Chooses.choice c.args.choice.now) i c.items.selecting)
    (sym c.created_item.ensures) (may_take c.args.limits c.args.changes (g.C.Chooses.choice c.args.choice.now)
    c.items.reading.decoder c.next_item_after.new.self.decoder (g.R.Source.remaining c.args.reader.now) _ _ g.W.Target.contents
    g.W.Target.failures c.items.handed_out c.args.selecting.now c.items.selecting c.in-Ok-Some.item c.requires.limits
    c.requires.encodes c.items.invariant.selecting reading)

pub created_item-requires : goal.created_item-requires
created_item-requires g c =
    let reading =
    next_item c.args.limits c.args.changes (g.C.Chooses.choice c.args.choice.now) c.items.reading.decoder
    c.next_item_after.new.self.decoder
    (g.R.Source.remaining c.args.reader.now) _ _ g.W.Target.contents g.W.Target.failures c.items.handed_out c.args.selecting.now
    c.items.selecting c.in-Ok-Some.field-0 c.in-Ok-Some.item _ _ c.in-Ok-Some.field-0-is c.items.invariant.selecting
    c.in-Ok-Some.ensures.reads c.in-Ok-Some.ensures.again in
    opens_so c.args.limits c.args.changes (g.C.Chooses.choice c.args.choice.now) c.items.reading.decoder
    c.next_item_after.new.self.decoder (g.R.Source.remaining c.args.reader.now) _ _ g.W.Target.contents g.W.Target.failures
    c.items.handed_out c.args.selecting.now c.items.selecting c.in-Ok-Some.item c.items.invariant.selecting reading

pub overflow_add-handed_out : goal.overflow_add-handed_out
overflow_add-handed_out g c =
    let reading =
    next_item c.args.limits c.args.changes (g.C.Chooses.choice c.args.choice.now) c.items.reading.decoder
    c.next_item_after.new.self.decoder
    (g.R.Source.remaining c.args.reader.now) _ _ g.W.Target.contents g.W.Target.failures c.items.handed_out c.args.selecting.now
    c.items.selecting c.in-Ok-Some.field-0 c.in-Ok-Some.item _ _ c.in-Ok-Some.field-0-is c.items.invariant.selecting
    c.in-Ok-Some.ensures.reads c.in-Ok-Some.ensures.again in
    omega (
      arith,
      few_handed_out c.args.limits c.args.changes (g.C.Chooses.choice c.args.choice.now) c.items.reading.decoder
          c.next_item_after.new.self.decoder (g.R.Source.remaining c.args.reader.now) _ _ g.W.Target.contents
          g.W.Target.failures c.items.handed_out c.args.selecting.now c.items.selecting c.in-Ok-Some.item
          c.items.invariant.selecting reading,
    )

pub items-smaller : goal.items-smaller
items-smaller g c =
    let reading =
    next_item c.args.limits c.args.changes (g.C.Chooses.choice c.args.choice.now) c.items.reading.decoder
    c.next_item_after.new.self.decoder
    (g.R.Source.remaining c.args.reader.now) _ _ g.W.Target.contents g.W.Target.failures c.items.handed_out c.args.selecting.now
    c.items.selecting c.in-Ok-Some.field-0 c.in-Ok-Some.item _ _ c.in-Ok-Some.field-0-is c.items.invariant.selecting
    c.in-Ok-Some.ensures.reads c.in-Ok-Some.ensures.again in
    omega (
      arith,
      few_handed_out c.args.limits c.args.changes (g.C.Chooses.choice c.args.choice.now) c.items.reading.decoder
          c.next_item_after.new.self.decoder (g.R.Source.remaining c.args.reader.now) _ _ g.W.Target.contents
          g.W.Target.failures c.items.handed_out c.args.selecting.now c.items.selecting c.in-Ok-Some.item
          c.items.invariant.selecting reading,
    )

pub items-preserved : goal.items-preserved
unfolding item_taken
items-preserved g c =
    let reading =
    next_item c.args.limits c.args.changes (g.C.Chooses.choice c.args.choice.now) c.items.reading.decoder
    c.next_item_after.new.self.decoder
    (g.R.Source.remaining c.args.reader.now) _ _ g.W.Target.contents g.W.Target.failures c.items.handed_out c.args.selecting.now
    c.items.selecting c.in-Ok-Some.field-0 c.in-Ok-Some.item _ _ c.in-Ok-Some.field-0-is c.items.invariant.selecting
    c.in-Ok-Some.ensures.reads c.in-Ok-Some.ensures.again in
    record {
      selecting =
          item_taken c.args.limits c.args.changes (g.C.Chooses.choice c.args.choice.now) c.items.reading.decoder
          c.next_item_after.new.self.decoder (g.R.Source.remaining c.args.reader.now) _ _ g.W.Target.contents
          g.W.Target.failures c.items.handed_out c.args.selecting.now c.items.selecting c.take.new.self c.in-Ok-Some.item
          c.created_item.result c.in_ok-spent-in-Ok-Some.spent c.created_item.ensures c.items.invariant.selecting reading
          c.in_ok-spent-in-Ok-Some.ensures.writes
          c.in_ok-spent-in-Ok-Some.ensures.held;
      seen =
          λ first. sees_more (g.V.SelectViewer.has_seen first) c.args.viewer.now c.items.viewer c.see.new.self
          c.items.invariant.selecting.given c.in-Ok-Some.item (c.items.invariant.seen first) (c.see.ensures first);
      failures = c.in-Ok-Some.ensures.failures ∙ c.items.invariant.failures;
      same = c.in-Ok-Some.ensures.same_reference ∙ c.items.invariant.same;
    }

pub returns-in_err-spent-in-Ok-Some-clause-selects : goal.returns-in_err-spent-in-Ok-Some-clause-selects
returns-in_err-spent-in-Ok-Some-clause-selects g c =
    let reading =
    next_item c.args.limits c.args.changes (g.C.Chooses.choice c.args.choice.now) c.items.reading.decoder
    c.next_item_after.new.self.decoder
    (g.R.Source.remaining c.args.reader.now) _ _ g.W.Target.contents g.W.Target.failures c.items.handed_out c.args.selecting.now
    c.items.selecting c.in-Ok-Some.field-0 c.in-Ok-Some.item _ _ c.in-Ok-Some.field-0-is c.items.invariant.selecting
    c.in-Ok-Some.ensures.reads c.in-Ok-Some.ensures.again in
    let faulty : SelectsItems c.args.limits c.args.changes (g.C.Chooses.choice c.args.choice.now) g.W.Target.contents
    g.W.Target.failures
    (g.R.Source.remaining c.args.reader.now) (g.R.Source.remaining c.next_item_after.new.self.reader.now)
    c.from_residual.result c.args.selecting.now c.take.new.self
    = subst (λ (r : Result (Unit {0}) ToolFault). SelectsItems c.args.limits c.args.changes (g.C.Chooses.choice c.args.choice.now)
    g.W.Target.contents g.W.Target.failures (g.R.Source.remaining c.args.reader.now)
    (g.R.Source.remaining c.next_item_after.new.self.reader.now) r c.args.selecting.now c.take.new.self)
    (sym (same_fault c.from_residual.result c.in_err-spent-in-Ok-Some.field-0.0 c.from_residual.ensures.1))
    (item_refused (Option Item) c.args.limits c.args.changes (g.C.Chooses.choice c.args.choice.now) c.items.reading.decoder
    c.next_item_after.new.self.decoder (g.R.Source.remaining c.args.reader.now) _ _ g.W.Target.contents g.W.Target.failures
    c.items.handed_out c.args.selecting.now c.items.selecting c.take.new.self c.in-Ok-Some.item
    c.created_item.result c.in_err-spent-in-Ok-Some.field-0.0 c.created_item.ensures c.items.invariant.selecting reading
    c.in_err-spent-in-Ok-Some.ensures.writes) in
    search rules

pub returns-in-Ok-None-clause-selects : goal.returns-in-Ok-None-clause-selects
returns-in-Ok-None-clause-selects g c =
    let all : HasReadAll c.args.limits (g.R.Source.remaining c.args.reader.now)
    (g.R.Source.remaining c.next_item_after.new.self.reader.now) c.items.invariant.selecting.given
    = none_read c.args.limits c.items.reading.decoder c.next_item_after.new.self.decoder (g.R.Source.remaining c.args.reader.now)
    _ _ c.items.invariant.selecting.given c.in-Ok-None.field-0 _ c.in-Ok-None.field-0-is
    c.items.invariant.selecting.reading c.in-Ok-None.ensures.reads c.in-Ok-None.ensures.again (λ e. ap g.R.Source.remaining e) in
    let good : SelectsItems c.args.limits c.args.changes (g.C.Chooses.choice c.args.choice.now) g.W.Target.contents
    g.W.Target.failures
    (g.R.Source.remaining c.args.reader.now) (g.R.Source.remaining c.next_item_after.new.self.reader.now) (Ok tt)
    c.args.selecting.now c.items.selecting
    = all_selected c.args.limits c.args.changes (g.C.Chooses.choice c.args.choice.now) c.items.reading.decoder
    (g.R.Source.remaining c.args.reader.now) _ _ g.W.Target.contents g.W.Target.failures c.items.handed_out
    c.args.selecting.now c.items.selecting tt c.items.invariant.selecting all in
    search rules

pub returns-in-Ok-None-clause-seen : goal.returns-in-Ok-None-clause-seen
returns-in-Ok-None-clause-seen g c =
    let all : HasReadAll c.args.limits (g.R.Source.remaining c.args.reader.now)
    (g.R.Source.remaining c.next_item_after.new.self.reader.now) c.items.invariant.selecting.given
    = none_read c.args.limits c.items.reading.decoder c.next_item_after.new.self.decoder (g.R.Source.remaining c.args.reader.now)
    _ _ c.items.invariant.selecting.given c.in-Ok-None.field-0 _ c.in-Ok-None.field-0-is
    c.items.invariant.selecting.reading c.in-Ok-None.ensures.reads c.in-Ok-None.ensures.again (λ e. ap g.R.Source.remaining e) in
    λ first. sees_text c.args.limits (g.V.SelectViewer.has_seen first) (g.R.Source.remaining c.args.reader.now) _ c.args.viewer.now
    c.items.viewer c.items.invariant.selecting.given all (c.items.invariant.seen first)

pub returns-in-Ok-None-clause-few : goal.returns-in-Ok-None-clause-few
returns-in-Ok-None-clause-few g c =
    let all : HasReadAll c.args.limits (g.R.Source.remaining c.args.reader.now)
    (g.R.Source.remaining c.next_item_after.new.self.reader.now) c.items.invariant.selecting.given
    = none_read c.args.limits c.items.reading.decoder c.next_item_after.new.self.decoder (g.R.Source.remaining c.args.reader.now)
    _ _ c.items.invariant.selecting.given c.in-Ok-None.field-0 _ c.in-Ok-None.field-0-is
    c.items.invariant.selecting.reading c.in-Ok-None.ensures.reads c.in-Ok-None.ensures.again (λ e. ap g.R.Source.remaining e) in
    few_read c.args.limits (g.R.Source.remaining c.args.reader.now) _ c.items.invariant.selecting.given all
    (fewer_left c.args.limits c.items.reading.decoder (g.R.Source.remaining c.args.reader.now) _ c.items.invariant.selecting.given
    c.items.invariant.selecting.reading)

pub returns-in-Err-clause-selects : goal.returns-in-Err-clause-selects
returns-in-Err-clause-selects g c =
    let stop : StopsAfter c.args.limits c.in-Err.fault (g.R.Source.remaining c.args.reader.now)
    (g.R.Source.remaining c.next_item_after.new.self.reader.now) c.items.invariant.selecting.given
    = stops_after c.args.limits c.items.reading.decoder c.next_item_after.new.self.decoder
    (g.R.Source.remaining c.args.reader.now)
    _ _ c.items.invariant.selecting.given c.in-Err.fault _ _ c.items.invariant.selecting.reading c.in-Err.ensures.reads
    c.in-Err.ensures.again in
    let stopped : SelectsItems c.args.limits c.args.changes (g.C.Chooses.choice c.args.choice.now) g.W.Target.contents
    g.W.Target.failures
    (g.R.Source.remaining c.args.reader.now) (g.R.Source.remaining c.next_item_after.new.self.reader.now)
    (Err c.reading_fault.result) c.args.selecting.now c.items.selecting
    = subst
    (λ (f : ToolFault). SelectsItems c.args.limits c.args.changes (g.C.Chooses.choice c.args.choice.now) g.W.Target.contents
    g.W.Target.failures (g.R.Source.remaining c.args.reader.now) (g.R.Source.remaining c.next_item_after.new.self.reader.now)
    (Err f) c.args.selecting.now c.items.selecting)
    (sym c.reading_fault.ensures) (reading_stopped c.args.limits c.args.changes (g.C.Chooses.choice c.args.choice.now)
    c.items.reading.decoder (g.R.Source.remaining c.args.reader.now) _ _ g.W.Target.contents g.W.Target.failures
    c.items.handed_out c.args.selecting.now c.items.selecting c.in-Err.fault c.items.invariant.selecting stop) in
    search rules

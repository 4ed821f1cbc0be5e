use Rattle.std.proofs.Common.{[], sym, subst}
use Rattle.std.specs.Prelude.{Err, IfErr}
use Rattle.cwr_encode.specs.Steps.Encoders.{Encodes, target_of}
use Rattle.cwr_select.specs.Format.Selecting.{Selects}
use Rattle.cwr_select.proofs.lemmas.SelectionsEnded.{may_finish, reader_still, selects_accepted, selects_stopped, selects_whole}
use Rattle.cwr_select.specs.Steps.Selecting.{LeavesSelected}
use Rattle.cwr_select.proofs.lemmas.LeftSelections.{left_at_end, left_in_items}
use Rattle.cwr_select.proofs.selection.select_viewed.Goals as goal

pub finish-requires-clause-may : goal.finish-requires-clause-may
finish-requires-clause-may g c =
    may_finish c.args.limits c.args.changes (g.C.Chooses.choice c.args.choice.now) g.W.Target.contents g.W.Target.failures
    (g.R.Source.remaining c.args.reader.now) (g.R.Source.remaining c.select_items.new.reader) c.new-selecting.result
    c.select_items.new.selecting c.new-selecting.ensures.limits
    (subst (λ (w : g.row.W.Denot). Encodes g.W.Target.contents (g.W.Target.contents w) [] c.new-selecting.result.encoder)
    (sym c.new-selecting.ensures.writer) c.new-selecting.ensures.encodes) c.in-Ok.ensures.selects

pub returns-in-Ok-clause-selects : goal.returns-in-Ok-clause-selects
returns-in-Ok-clause-selects g c =
    subst (λ (w : g.row.W.Denot). Selects c.args.limits c.args.changes (g.C.Chooses.choice c.args.choice.now)
    (g.R.Source.remaining c.args.reader.now) (g.R.Source.remaining c.select_items.new.reader) (g.W.Target.contents w)
    (g.W.Target.contents c.finish.result.0) c.finish.result.1) c.new-selecting.ensures.writer
    (selects_whole c.args.limits c.args.changes (g.C.Chooses.choice c.args.choice.now) g.W.Target.contents g.W.Target.failures
    (g.R.Source.remaining c.args.reader.now) (g.R.Source.remaining c.select_items.new.reader) c.new-selecting.result
    c.select_items.new.selecting c.finish.result.0 c.finish.result.1 c.new-selecting.ensures.limits
    (subst (λ (w : g.row.W.Denot). Encodes g.W.Target.contents (g.W.Target.contents w) [] c.new-selecting.result.encoder)
    (sym c.new-selecting.ensures.writer) c.new-selecting.ensures.encodes) c.in-Ok.ensures.selects c.finish.ensures.ends)

pub returns-in-Ok-clause-accepted : goal.returns-in-Ok-clause-accepted
returns-in-Ok-clause-accepted g c =
    let whole : Selects c.args.limits c.args.changes (g.C.Chooses.choice c.args.choice.now)
    (g.R.Source.remaining c.args.reader.now)
    (g.R.Source.remaining c.select_items.new.reader) (g.W.Target.contents c.args.writer)
    (g.W.Target.contents c.finish.result.0) c.finish.result.1 =
    subst (λ (w : g.row.W.Denot). Selects c.args.limits c.args.changes (g.C.Chooses.choice c.args.choice.now)
    (g.R.Source.remaining c.args.reader.now) (g.R.Source.remaining c.select_items.new.reader) (g.W.Target.contents w)
    (g.W.Target.contents c.finish.result.0) c.finish.result.1) c.new-selecting.ensures.writer
    (selects_whole c.args.limits c.args.changes (g.C.Chooses.choice c.args.choice.now) g.W.Target.contents g.W.Target.failures
    (g.R.Source.remaining c.args.reader.now) (g.R.Source.remaining c.select_items.new.reader) c.new-selecting.result
    c.select_items.new.selecting c.finish.result.0 c.finish.result.1 c.new-selecting.ensures.limits
    (subst (λ (w : g.row.W.Denot). Encodes g.W.Target.contents (g.W.Target.contents w) [] c.new-selecting.result.encoder)
    (sym c.new-selecting.ensures.writer) c.new-selecting.ensures.encodes) c.in-Ok.ensures.selects c.finish.ensures.ends) in
    selects_accepted c.args.limits c.args.changes (g.C.Chooses.choice c.args.choice.now) (g.R.Source.remaining c.args.reader.now)
    (g.R.Source.remaining c.select_items.new.reader) (g.W.Target.contents c.args.writer)
    (g.W.Target.contents c.finish.result.0) c.finish.result.1 whole

pub returns-in-Ok-clause-reader_failures : goal.returns-in-Ok-clause-reader_failures
returns-in-Ok-clause-reader_failures g c =
    reader_still g.W.Target.contents c.select_items.new.selecting c.finish.result.0 c.finish.result.1 _ _
    (may_finish c.args.limits c.args.changes (g.C.Chooses.choice c.args.choice.now) g.W.Target.contents g.W.Target.failures
    (g.R.Source.remaining c.args.reader.now) (g.R.Source.remaining c.select_items.new.reader) c.new-selecting.result
    c.select_items.new.selecting c.new-selecting.ensures.limits
    (subst (λ (w : g.row.W.Denot). Encodes g.W.Target.contents (g.W.Target.contents w) [] c.new-selecting.result.encoder)
    (sym c.new-selecting.ensures.writer) c.new-selecting.ensures.encodes) c.in-Ok.ensures.selects) c.finish.ensures.ends
    c.in-Ok.ensures.failures

pub returns-in-Err-clause-selects : goal.returns-in-Err-clause-selects
returns-in-Err-clause-selects g c =
    selects_stopped c.args.limits c.args.changes (g.C.Chooses.choice c.args.choice.now) g.W.Target.contents g.W.Target.failures
    (g.R.Source.remaining c.args.reader.now) (g.R.Source.remaining c.select_items.new.reader) (g.W.Target.contents c.args.writer)
    (g.W.Target.contents c.abandon.result) c.new-selecting.result c.select_items.new.selecting c.in-Err.fault
    c.in-Err.ensures.selects

pub returns-in-Err-clause-accepted : goal.returns-in-Err-clause-accepted
returns-in-Err-clause-accepted g c =
    selects_accepted c.args.limits c.args.changes (g.C.Chooses.choice c.args.choice.now) (g.R.Source.remaining c.args.reader.now)
    (g.R.Source.remaining c.select_items.new.reader) (g.W.Target.contents c.args.writer)
    (g.W.Target.contents c.abandon.result) (Err c.in-Err.fault)
    (selects_stopped c.args.limits c.args.changes (g.C.Chooses.choice c.args.choice.now) g.W.Target.contents g.W.Target.failures
    (g.R.Source.remaining c.args.reader.now) (g.R.Source.remaining c.select_items.new.reader)
    (g.W.Target.contents c.args.writer) (g.W.Target.contents c.abandon.result) c.new-selecting.result
    c.select_items.new.selecting c.in-Err.fault c.in-Err.ensures.selects)

pub returns-in-Ok-clause-leaves : goal.returns-in-Ok-clause-leaves
returns-in-Ok-clause-leaves g c =
    subst (λ (w : g.row.W.Denot). IfErr c.finish.result.1
    (LeavesSelected c.args.limits c.args.changes (g.C.Chooses.choice c.args.choice.now)
    (g.R.Source.remaining c.args.reader.now) (g.R.Source.remaining c.select_items.new.reader) g.W.Target.contents w
    c.finish.result.0)) c.new-selecting.ensures.writer
    (left_at_end c.args.limits c.args.changes (g.C.Chooses.choice c.args.choice.now) g.W.Target.contents g.W.Target.failures
    (g.R.Source.remaining c.args.reader.now) (g.R.Source.remaining c.select_items.new.reader) c.new-selecting.result
    c.select_items.new.selecting c.finish.result.0 c.finish.result.1 c.new-selecting.ensures.limits
    (subst (λ (w : g.row.W.Denot). Encodes g.W.Target.contents (g.W.Target.contents w) [] c.new-selecting.result.encoder)
    (sym c.new-selecting.ensures.writer) c.new-selecting.ensures.encodes) c.in-Ok.ensures.selects c.finish.ensures.ends)

pub returns-in-Err-clause-leaves : goal.returns-in-Err-clause-leaves
returns-in-Err-clause-leaves g c =
    subst (λ (w : g.row.W.Denot). LeavesSelected c.args.limits c.args.changes (g.C.Chooses.choice c.args.choice.now)
    (g.R.Source.remaining c.args.reader.now) (g.R.Source.remaining c.select_items.new.reader) g.W.Target.contents w
    c.abandon.result c.in-Err.fault) c.new-selecting.ensures.writer
    (subst (λ (w : g.row.W.Denot). LeavesSelected c.args.limits c.args.changes (g.C.Chooses.choice c.args.choice.now)
    (g.R.Source.remaining c.args.reader.now) (g.R.Source.remaining c.select_items.new.reader) g.W.Target.contents
    (target_of c.new-selecting.result.encoder) w c.in-Err.fault) (sym c.abandon.ensures)
    (left_in_items c.args.limits c.args.changes (g.C.Chooses.choice c.args.choice.now) g.W.Target.contents g.W.Target.failures
    (g.R.Source.remaining c.args.reader.now) (g.R.Source.remaining c.select_items.new.reader) c.new-selecting.result
    c.select_items.new.selecting c.in-Err.fault c.new-selecting.ensures.limits
    (subst (λ (w : g.row.W.Denot). Encodes g.W.Target.contents (g.W.Target.contents w) [] c.new-selecting.result.encoder)
    (sym c.new-selecting.ensures.writer) c.new-selecting.ensures.encodes) c.in-Err.ensures.selects))

use Rattle.std.proofs.Common.{List, ℕ, Option}
use Rattle.cwr_files.specs.Steps.Inputs.{remaining_of}
use Rattle.cwr_endings.proofs.lemmas.StatusesOnTexts.{from_source}
use Rattle.cwr_select.specs.Format.Selections.{Choice}
use Rattle.cwr_transform.specs.declared.select_views.SelectView.{SelectView}
use Rattle.cwr_transform.specs.Steps.Selections.{SeesBy, TellsBy, WritesBy, asked_by}
use Rattle.cwr_transform.proofs.lemmas.SelectionStatuses.{sees_so}
use Rattle.cwr_transform.proofs.lemmas.SelectionsJudged.{counts_writer, reads_so, run_judged}
use Rattle.cwr_transform.proofs.lemmas.SelectionsTold.{sees_ended, tells_so}
use Rattle.cwr_transform.proofs.selections.run.Goals as goal

pub returns-clause-judges : goal.returns-clause-judges
returns-clause-judges g c =
    from_source (λ (known : Option (List ℕ)). WritesBy c.args.selection.now.limits c.args.selection.now.changes
    (g.C.Chooses.choice c.args.choice.now) known g.W.Target.contents c.args.writer c.select_viewed-writer.result.0 c.with_memory-outcome.result
    c.look_after-look.result c.is_empty.result) (remaining_of g.S.Reader.Read.remaining g.I.Read.remaining) c.args.input
    c.new-reader.result.inner _ c.new-reader.ensures.inner c.new-reader.ensures.ahead
    (run_judged c.args.selection.now.limits c.args.selection.now.changes (g.C.Chooses.choice c.args.choice.now) _ _ _ g.W.Target.contents
    c.args.writer c.select_viewed-writer.result.0 c.select_viewed-writer.result.1 c.with_memory-outcome.result c.lacks_memory.result
    c.is_empty.result c.look_after-look.result c.select_viewed-writer.ensures.selects c.with_memory-outcome.ensures
    c.is_empty.ensures c.look_after-look.ensures.look)

pub returns-clause-failures : goal.returns-clause-failures
returns-clause-failures g c =
    counts_writer c.select_viewed-writer.result.1 c.with_memory-outcome.result c.lacks_memory.result _ _ c.with_memory-outcome.ensures
    c.select_viewed-writer.ensures.writer_failures

pub returns-clause-reads : goal.returns-clause-reads
returns-clause-reads g c =
    reads_so c.select_viewed-writer.result.1 c.with_memory-outcome.result c.lacks_memory.result c.look_after-look.result _ _ _ _ _
    c.with_memory-outcome.ensures c.new-reader.ensures.failures c.select_viewed-writer.ensures.reader_failures
    c.look_after-look.ensures.failures c.end_input-read.ensures.failures

pub returns-clause-sees : goal.returns-clause-sees
returns-clause-sees g c =
    let limits = c.args.selection.now.limits in
    let wanted = c.args.selection.now.wanted in
    let choice : g.row.C.Denot → Choice = g.C.Chooses.choice in
    let first = c.args.view.now in
    let viewer = c.select_viewed-writer.new.viewer in
    let now : SelectView g.row.C.Denot = record viewer { sought = c.end.new.self } in
    from_source (λ (known : Option (List ℕ)). SeesBy (asked_by limits wanted choice first) known c.with_memory-outcome.result
    c.look_after-look.result now.is_same_moment c.lacks_one.result c.reaches.result c.is_empty.result)
    (remaining_of g.S.Reader.Read.remaining g.I.Read.remaining) c.args.input c.new-reader.result.inner _ c.new-reader.ensures.inner
    c.new-reader.ensures.ahead
    (sees_so limits wanted choice first now c.args.selection.now.changes c.args.choice.now c.look_after-look.result c.reaches.result
    c.lacks_one.result c.is_empty.result _ _ _ g.W.Target.contents c.args.writer c.select_viewed-writer.result.0
    c.select_viewed-writer.result.1 c.with_memory-outcome.result c.lacks_memory.result c.requires.same
    c.select_viewed-writer.ensures.selects c.with_memory-outcome.ensures c.is_empty.ensures c.lacks_one.ensures
    c.look_after-look.ensures.look c.reaches.ensures c.lacks_memory.ensures.findings
    (sees_ended limits choice first viewer c.end.new.self c.end.ensures.noted _ c.select_viewed-writer.result.1
    c.select_viewed-writer.ensures.seen)
    c.select_viewed-writer.ensures.few c.requires.fresh)

pub returns-clause-told : goal.returns-clause-told
returns-clause-told g c =
    let limits = c.args.selection.now.limits in
    let wanted = c.args.selection.now.wanted in
    let choice : g.row.C.Denot → Choice = g.C.Chooses.choice in
    let first = c.args.view.now in
    let viewer = c.select_viewed-writer.new.viewer in
    let now : SelectView g.row.C.Denot = record viewer { sought = c.end.new.self } in
    from_source (λ (known : Option (List ℕ)). TellsBy (asked_by limits wanted choice first) known c.with_memory-outcome.result
    c.look_after-look.result now.is_same_moment c.lacks_one.result c.reaches.result c.is_empty.result now.sought)
    (remaining_of g.S.Reader.Read.remaining g.I.Read.remaining) c.args.input c.new-reader.result.inner _ c.new-reader.ensures.inner
    c.new-reader.ensures.ahead
    (tells_so limits wanted choice first now c.args.selection.now.changes c.args.choice.now c.look_after-look.result c.reaches.result
    c.lacks_one.result c.is_empty.result _ _ _ g.W.Target.contents c.args.writer c.select_viewed-writer.result.0
    c.select_viewed-writer.result.1 c.with_memory-outcome.result c.lacks_memory.result c.requires.same
    c.select_viewed-writer.ensures.selects c.with_memory-outcome.ensures c.is_empty.ensures c.lacks_one.ensures
    c.look_after-look.ensures.look c.reaches.ensures c.lacks_memory.ensures.findings c.lacks_memory.ensures.sought c.end.ensures.ended
    (sees_ended limits choice first viewer c.end.new.self c.end.ensures.noted _ c.select_viewed-writer.result.1
    c.select_viewed-writer.ensures.seen)
    c.select_viewed-writer.ensures.few c.requires.fresh)

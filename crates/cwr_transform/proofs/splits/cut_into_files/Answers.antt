use Rattle.std.proofs.Common.{◌≡◌, ◌∙◌, refl, rules, sym, subst}
use Rattle.std.specs.Prelude.{OnOk}
use Rattle.cwr_files.specs.Format.Faults.{IsFaultOfPart}
use Rattle.cwr_files.specs.Format.Files.{Turns}
use Rattle.cwr_files.specs.Steps.NewFiles.{HasKeptCount}
use Rattle.cwr_files.specs.Steps.NumberedFiles.{texts_of_parts}
use Rattle.cwr_tools.specs.Format.Watching.{CountsAccepted}
use Rattle.cwr_transform.specs.Steps.Splits.{CountsCut, JudgesCut, LeavesTold}
use Rattle.cwr_transform.proofs.lemmas.SplitFails.{reads_stopped, stopped_counted, stopped_judged}
use Rattle.cwr_transform.proofs.lemmas.SplitFiles.{cut_borrow, cut_leaves, of_same, of_store, starts_as}
use Rattle.cwr_transform.proofs.splits.cut_into_files.Goals as goal

pub new-files-requires-clause-unasked : goal.new-files-requires-clause-unasked
new-files-requires-clause-unasked g c =
    let u = c.new-parts.ensures in (refl, refl, u.2, u.3, u.4, u.5, u.6)

pub new-files-requires-clause-starts : goal.new-files-requires-clause-starts
new-files-requires-clause-starts g c =
    let store = c.args.store.now in
    starts_as g.B.Unsplit.texts g.B.Unsplit.prefix g.B.Unsplit.created g.B.Unsplit.failures (g.S.Store.making store) (g.S.Store.held store)
    (g.S.Store.failures store) _ _ _ _ c.new-parts.ensures.0 c.new-parts.ensures.1 c.requires

pub returns-clause-judged : goal.returns-clause-judged
returns-clause-judged g c =
    subst (λ r. JudgesCut c.args.cut.now.limits (g.R.Source.remaining c.args.reader.now) r c.cut_source-outcome.result.1)
    (sym c.unless_stopped.ensures)
    (stopped_judged c.args.cut.now.limits (g.R.Source.remaining c.args.reader.now) c.end-made.result.stopped c.cut_source-outcome.result.0
    c.cut_source-outcome.result.1 c.cut_source-outcome.ensures.judged)

pub returns-clause-counted : goal.returns-clause-counted
returns-clause-counted g c =
    subst (λ r. OnOk r (CountsAccepted c.args.cut.now.limits (g.R.Source.remaining c.args.reader.now) c.cut_source-outcome.result.2))
    (sym c.unless_stopped.ensures)
    (stopped_counted c.end-made.result.stopped c.cut_source-outcome.result.0 _ c.cut_source-outcome.ensures.counted)

pub returns-clause-reads : goal.returns-clause-reads
returns-clause-reads g c =
    subst (λ r. CountsCut r c.cut_source-outcome.result.1 (g.R.Source.failures c.args.reader.now)
    (g.R.Source.failures c.cut_source-outcome.new.reader)) (sym c.unless_stopped.ensures)
    (reads_stopped c.end-made.result.stopped c.cut_source-outcome.result.0 c.cut_source-outcome.result.1 _ _ c.cut_source-outcome.ensures.reads)

pub returns-clause-failed : goal.returns-clause-failed
returns-clause-failed g c = λ some.
    let first = c.new-files.result in
    let last = c.cut_source-outcome.new.outputs in
    let one : last.store.ghost_name ≡ first.store.ghost_name
    = cut_borrow c.args.cut.now.limits c.args.cut.now.transactions.value (g.R.Source.remaining c.args.reader.now) g.B.Unsplit.texts
    first.store.ghost_name last.store.ghost_name (texts_of_parts g.S.Writer.Write.contents first.parts.now.finished.writers)
    (texts_of_parts g.S.Writer.Write.contents last.parts.now.finished.writers) c.cut_source-outcome.result.0 c.new-files.ensures.none
    c.cut_source-outcome.ensures.handed some in
    of_same (λ s. IsFaultOfPart g.B.Unsplit.failures (g.S.Store.failures s) c.end-made.result.fault) last.store.now _ (search rules)
    c.end-made.ensures.failed

pub returns-clause-failures : goal.returns-clause-failures
returns-clause-failures g c = λ some.
    let first = c.new-files.result in
    let last = c.cut_source-outcome.new.outputs in
    let one : last.store.ghost_name ≡ first.store.ghost_name
    = cut_borrow c.args.cut.now.limits c.args.cut.now.transactions.value (g.R.Source.remaining c.args.reader.now) g.B.Unsplit.texts
    first.store.ghost_name last.store.ghost_name (texts_of_parts g.S.Writer.Write.contents first.parts.now.finished.writers)
    (texts_of_parts g.S.Writer.Write.contents last.parts.now.finished.writers) c.cut_source-outcome.result.0 c.new-files.ensures.none
    c.cut_source-outcome.ensures.handed some in
    of_same (λ s. HasKeptCount g.B.Unsplit.failures (g.S.Store.failures s)) last.store.now _ (search rules) c.end-made.ensures.failures

pub returns-clause-files : goal.returns-clause-files
returns-clause-files g c =
    let limits = c.args.cut.now.limits in
    let n = c.args.cut.now.transactions.value in
    let input = g.R.Source.remaining c.args.reader.now in
    let first = c.new-files.result in
    let last = c.cut_source-outcome.new.outputs in
    let told = c.cut_source-outcome.result.0 in
    let stopped = c.end-made.result.stopped in
    let known = texts_of_parts g.S.Writer.Write.contents first.parts.now.finished.writers in
    let found = texts_of_parts g.S.Writer.Write.contents last.parts.now.finished.writers in
    let same = cut_borrow limits n input g.B.Unsplit.texts first.store.ghost_name last.store.ghost_name known found told
    c.new-files.ensures.none c.cut_source-outcome.ensures.handed in
    let none = c.cut_source-outcome.ensures.lent ∙ c.new-files.ensures.lent in
    of_store g.B.Unsplit.texts g.S.Store.held
    (λ s. LeavesTold limits n g.B.Unsplit.prefix g.B.Unsplit.created input g.B.Unsplit.failures (g.S.Store.failures s) c.unless_stopped.result) last.store.now _
    (λ some. let one = same some in search rules)
    (subst (λ r. Turns g.B.Unsplit.texts (g.S.Store.held last.store.now)
    (LeavesTold limits n g.B.Unsplit.prefix g.B.Unsplit.created input g.B.Unsplit.failures (g.S.Store.failures last.store.now) r)) (sym c.unless_stopped.ensures)
    (cut_leaves limits n g.B.Unsplit.prefix g.B.Unsplit.created input g.B.Unsplit.texts first.store.ghost_name last.store.ghost_name known found
    (g.S.Store.held last.store.now) g.B.Unsplit.failures (g.S.Store.failures last.store.now) stopped told c.new-files.ensures.none
    c.cut_source-outcome.ensures.handed (λ name parts. c.end-made.ensures.left name parts none)
    (λ name parts. c.end-made.ensures.whole name parts none)))

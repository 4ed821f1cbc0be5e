use Rattle.std.proofs.Common.{Bor, List, ℕ, None, map, not, subst}
use Rattle.cwr_reports.specs.Format.Endings.{EndsOnEach}
use Rattle.cwr_summary_rows.specs.declared.forms.Form.{Form}
use Rattle.cwr_summaries.specs.Steps.Rows.{TellsRows}
use Rattle.cwr_summaries.specs.Format.Summed.{summed}
use Rattle.cwr.proofs.lemmas.Several.{of_each}
use Rattle.cwr.proofs.lemmas.Summing.{summed_failed}
use Rattle.cwr.specs.Format.Tables.{rows_form}
use Rattle.cwr.proofs.program.sum_up.Goals as goal

pub returns-clause-ends : goal.returns-clause-ends
returns-clause-ends g c =
    let names : List (List ℕ) = map {A = Bor (List ℕ)} {B = List ℕ} (λ n. n.now) c.args.words.now.files.items in
    of_each None c.args.task.now.limits (record { whole = c.args.task.now.whole; fail_on = None }) (g.S.Store.held c.args.store.now)
    (g.I.Read.remaining c.args.standard) (summed names) c.summarize.result.1
    (subst
    (λ (l : List (Bor (List ℕ))). EndsOnEach None c.args.task.now.limits (record { whole = c.args.task.now.whole; fail_on = None })
    (g.S.Store.held c.args.store.now) (g.I.Read.remaining c.args.standard)
    (summed (map {A = Bor (List ℕ)} {B = List ℕ} (λ n. n.now) l)) c.summarize.result.1) c.as_slice.ensures.value c.summarize.ensures.ends)

pub returns-clause-told : goal.returns-clause-told
returns-clause-told g c =
    let words = c.args.words.now in
    let task = c.args.task.now in
    let summary = c.summarize in
    let told_so : Form → List (Bor (List ℕ)) → Type 0 = λ form files.
    TellsRows form task.limits (not words.undigested) task.whole words.quiet (g.S.Store.held c.args.store.now)
    (g.I.Read.remaining c.args.standard) (map {A = Bor (List ℕ)} {B = List ℕ} (λ n. n.now) files) g.W.Target.contents c.args.lines
    summary.result.0 (g.S.Store.failures c.args.store.now) (g.S.Store.failures summary.new.store) summary.result.1 in
    subst (λ form. told_so form words.files.items) c.form_of_rows.ensures
    (subst (told_so c.form_of_rows.result) c.as_slice.ensures.value summary.ensures.told)

pub returns-clause-failed : goal.returns-clause-failed
returns-clause-failed g c =
    let words = c.args.words.now in
    let task = c.args.task.now in
    let names : List (List ℕ) = map {A = Bor (List ℕ)} {B = List ℕ} (λ n. n.now) words.files.items in
    summed_failed (rows_form words.as_csv words.as_json) task.limits (not words.undigested) task.whole (g.S.Store.held c.args.store.now)
    (g.I.Read.remaining c.args.standard) words.quiet names g.W.Target.contents c.args.lines c.summarize.result.0
    (g.S.Store.failures c.args.store.now) (g.S.Store.failures c.summarize.new.store) c.summarize.result.1
    (subst
    (λ (l : List (Bor (List ℕ))). EndsOnEach None task.limits (record { whole = task.whole; fail_on = None })
    (g.S.Store.held c.args.store.now) (g.I.Read.remaining c.args.standard)
    (summed (map {A = Bor (List ℕ)} {B = List ℕ} (λ n. n.now) l)) c.summarize.result.1) c.as_slice.ensures.value c.summarize.ensures.ends)
    (returns-clause-told g c)

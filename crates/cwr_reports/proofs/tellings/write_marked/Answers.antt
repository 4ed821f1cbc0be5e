use Rattle.std.proofs.Common.{◌≡◌, ◌<◌, Bor, List, ℕ, Some, refl, sym, ap, subst, ◌∙◌}
use Rattle.std.specs.Prelude.{option_map}
use Rattle.cwr_devices.specs.Format.Failures.{most_failures}
use Rattle.cwr_files.specs.declared.faults.Told.{Told}
use Rattle.cwr_files.specs.Steps.Inputs.{remaining_of}
use Rattle.cwr_reports.specs.declared.tellings.Count.{Count}
use Rattle.cwr_reports.proofs.lemmas.MarkedLines.{marked_as, passes_stopped, told_read, told_up_to, writes_well}
use Rattle.cwr_reports.proofs.tellings.write_marked.Goals as goal

pub returns-in-Ok-clause-told : goal.returns-in-Ok-clause-told
returns-in-Ok-clause-told g c = λ few.
    let judge = c.judge_input-marked in
    let left = remaining_of g.S.Reader.Read.remaining g.I.Read.remaining c.args.input in
    let text : List ℕ = judge.result.0.taken.text in
    let below : g.B.Unmarked.failures < most_failures = subst (λ (n : ℕ). n < most_failures) (sym c.requires.failures) few in
    let same : g.W.Target.failures c.into_inner-lines.result ≡ g.W.Target.failures c.args.lines =
    ap g.W.Target.failures c.into_inner-lines.ensures.writer
    ∙ writes_well judge.result.1 c.in-Ok.judgement (g.W.Target.failures c.new-marked.result.lines)
    (g.W.Target.failures judge.result.0.lines) c.in-Ok.is judge.ensures.writer_failures
    ∙ ap g.W.Target.failures c.new-marked.ensures.writer in (
      text,
      told_read _ c.args.telling c.args.asked.now.limits left c.new-marked.result judge.result.0 text judge.result.1 c.in-Ok.judgement
          c.in-Ok.is (ap Some c.new-marked.ensures.taken) refl judge.ensures.told,
      marked_as g.B.Unmarked.start (g.W.Target.contents c.args.lines) (g.W.Target.contents c.into_inner-lines.result) g.B.Unmarked.name
          (option_map {T = Bor (List ℕ)} {U = List ℕ} (λ n. n.now) c.args.marks.name) g.B.Unmarked.passing c.args.marks.passing text
          c.requires.start c.requires.name c.requires.passing
          (c.into_inner-lines.ensures.marked (same ∙ sym c.requires.failures) below),
    )

pub returns-in-Err-clause-told : goal.returns-in-Err-clause-told
returns-in-Err-clause-told g c = λ few.
    let judge = c.judge_input-marked in
    let left = remaining_of g.S.Reader.Read.remaining g.I.Read.remaining c.args.input in
    let text : List ℕ = judge.result.0.taken.text in
    let name = option_map {T = Bor (List ℕ)} {U = List ℕ} (λ n. n.now) c.args.marks.name in
    let below : g.B.Unmarked.failures < most_failures = subst (λ (n : ℕ). n < most_failures) (sym c.requires.failures) few in
    passes_stopped Told Count c.args.asked.now.limits c.args.telling name c.args.marks.passing left g.W.Target.contents c.args.lines
    c.into_inner-lines.result judge.result.2 judge.result.1 c.in-Err.fault c.stop_of.result
    (g.W.Target.failures c.new-marked.result.lines) (g.W.Target.failures judge.result.0.lines) c.in-Err.is c.stop_of.ensures
    judge.ensures.writer_failures
    (λ kept.
    let same : g.W.Target.failures c.into_inner-lines.result ≡ g.W.Target.failures c.args.lines =
    ap g.W.Target.failures c.into_inner-lines.ensures.writer ∙ kept ∙ ap g.W.Target.failures c.new-marked.ensures.writer in
    let it =
    told_up_to _ c.args.telling c.args.asked.now.limits left c.new-marked.result judge.result.0 text judge.result.1 c.in-Err.fault
    c.in-Err.is (ap Some c.new-marked.ensures.taken) refl judge.ensures.stopped in (
      text,
      it.0,
      it.1,
      marked_as g.B.Unmarked.start (g.W.Target.contents c.args.lines) (g.W.Target.contents c.into_inner-lines.result) g.B.Unmarked.name name
          g.B.Unmarked.passing c.args.marks.passing text c.requires.start c.requires.name c.requires.passing
          (c.into_inner-lines.ensures.marked (same ∙ sym c.requires.failures) below),
    ))

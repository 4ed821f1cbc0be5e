use Rattle.std.proofs.Common.{ℕ, ◌≤◌, List, [], Bor, length, get_or, map, take, Option, None, refl, sym, subst, ◌∙◌, arith}
use Rattle.std.specs.Prelude.{Err, Result}
use Rattle.std.proofs.lemmas.List.{length-map, take_all}
use Rattle.cwr_files.specs.Format.Files.{Texts}
use Rattle.cwr_files.proofs.lemmas.Reads.{words_more}
use Rattle.cwr_endings.specs.declared.endings.Status.{Status}
use Rattle.cwr_endings.specs.declared.stops.Stop.{Stop}
use Rattle.cwr_reports.specs.Format.Endings.{IsWorstOf}
use Rattle.cwr_reports.specs.Steps.Marked.{CountsOutput}
use Rattle.cwr_answers.specs.Format.Endings.{wanted_of}
use Rattle.cwr_answers.specs.Steps.Reading.{CountsOne}
use Rattle.cwr_answers.proofs.lemmas.Ends.{one_more}
use Rattle.cwr_summaries.specs.Format.Rows.{SummedInput}
use Rattle.cwr_summaries.specs.Steps.Rows.{AreInputs, TellsNext}
use Rattle.cwr_summaries.proofs.lemmas.Inputs.{inputs_more, no_inputs, none_written}
use Rattle.cwr_summaries.proofs.summaries.summarize_each.Goals as goal

pub loop-name-init : goal.loop-name-init
loop-name-init g c = record {
  kept = refl;
  first = λ some. refl;
  worst = subst (λ (s : Status). IsWorstOf None c.args.summing.now.limits (wanted_of c.args.summing.now.whole)
      (g.S.Store.held c.args.store.now) (g.I.Read.remaining c.args.standard) [] s) (sym c.requires.good) (λ k d lt. absurd (omega (arith, lt)));
  output = refl;
  told = no_inputs c.args.summing.now.form c.args.summing.now.limits c.args.summing.now.digests c.args.summing.now.whole
      c.args.summing.now.quiet (g.S.Store.held c.args.store.now) (g.I.Read.remaining c.args.standard) g.W.Target.contents c.args.lines
      (g.S.Store.failures c.args.store.now) c.args.totals.now
      (none_written c.args.summing.now.form c.args.summing.now.quiet (g.W.Target.contents c.args.lines)) c.requires.none c.requires.good;
}

pub loop-name-preserved : goal.loop-name-preserved
loop-name-preserved g c =
    let d : Bor (List ℕ) = record { ref_ptr = (0, 0); now = [] } in
    let i : ℕ = c.loop-name.name-index in
    let words : List (Bor (List ℕ)) = c.args.names.now in
    let limits = c.args.summing.now.limits in
    let whole = c.args.summing.now.whole in
    let held = g.S.Store.held c.args.store.now in
    let first : Option (List ℕ) = g.I.Read.remaining c.args.standard in
    let next = c.summarize_next-after in
    let name : List ℕ = (get_or words i d).now in
    let before : Status = c.loop-name.totals.sums.status in
    let now : Status = next.new.totals.sums.status in
    record {
      kept = next.ensures.kept ∙ c.loop-name.invariant.kept;
      first = next.ensures.first first c.loop-name.invariant.first;
      worst = subst (λ (ws : List (List ℕ)). IsWorstOf None limits (wanted_of whole) held first ws now)
          (sym (words_more words i d (omega arith)))
          (one_more limits whole held first (take i (map {A = Bor (List ℕ)} {B = List ℕ} (λ w. w.now) words)) name before now
          c.loop-name.invariant.worst
          (subst (λ (r : Result (Unit {0}) Stop). CountsOne limits whole held first name before now r) c.in-Ok.is
          (subst (λ (h : Option Texts). CountsOne limits whole h first name before now next.result.1) c.loop-name.invariant.kept
          (next.ensures.counted first c.loop-name.invariant.first))));
      output = subst (λ (r : Result (Unit {0}) Stop). CountsOutput r (g.W.Target.failures c.loop-name.lines)
          (g.W.Target.failures next.result.0)) c.in-Ok.is next.ensures.output ∙ c.loop-name.invariant.output;
      told =
          let summing = c.args.summing.now in
          let lines = c.loop-name.lines in
          let told_so : Option Texts → Result (Unit {0}) Stop → Type 0 = λ h r.
          TellsNext summing.form limits summing.digests whole summing.quiet h first name g.W.Target.contents lines next.result.0
          (g.S.Store.failures c.loop-name.store) (g.S.Store.failures next.new.store) c.loop-name.totals next.new.totals r in
          subst (λ (ws : List (List ℕ)). (inputs : List SummedInput) × AreInputs summing.form limits summing.digests whole summing.quiet held
          first ws g.W.Target.contents c.args.lines next.result.0 (g.S.Store.failures c.args.store.now)
          (g.S.Store.failures next.new.store) next.new.totals inputs) (sym (words_more words i d (omega arith)))
          (inputs_more summing.form limits summing.digests whole summing.quiet held first g.W.Target.contents
          (take i (map {A = Bor (List ℕ)} {B = List ℕ} (λ w. w.now) words)) name c.args.lines lines next.result.0
          (g.S.Store.failures c.args.store.now) (g.S.Store.failures c.loop-name.store) (g.S.Store.failures next.new.store)
          c.loop-name.totals next.new.totals c.loop-name.invariant.told
          (subst (told_so held) c.in-Ok.is
          (subst (λ (h : Option Texts). told_so h next.result.1) c.loop-name.invariant.kept
          (next.ensures.told first c.loop-name.invariant.first))));
    }

pub returns-in-Err-clause-ends : goal.returns-in-Err-clause-ends
returns-in-Err-clause-ends g c =
    let d : Bor (List ℕ) = record { ref_ptr = (0, 0); now = [] } in
    let name : List ℕ = (get_or c.args.names.now c.loop-name.name-index d).now in
    subst (λ (r : Result (Unit {0}) Stop). CountsOne c.args.summing.now.limits c.args.summing.now.whole (g.S.Store.held c.loop-name.store)
    (g.I.Read.remaining c.args.standard) name c.loop-name.totals.sums.status c.summarize_next-after.new.totals.sums.status r) c.in-Err.is
    (c.summarize_next-after.ensures.counted (g.I.Read.remaining c.args.standard) c.loop-name.invariant.first)

pub returns-clause-ends : goal.returns-clause-ends
returns-clause-ends g c =
    let i : ℕ = c.loop-name.name-index in
    let words : List (List ℕ) = map {A = Bor (List ℕ)} {B = List ℕ} (λ w. w.now) c.args.names.now in
    let enough : length words ≤ i = rw length-map (omega arith) in
    subst (λ (ws : List (List ℕ)). IsWorstOf None c.args.summing.now.limits (wanted_of c.args.summing.now.whole)
    (g.S.Store.held c.args.store.now) (g.I.Read.remaining c.args.standard) ws c.loop-name.totals.sums.status) (take_all i words enough)
    c.loop-name.invariant.worst

pub returns-in-Err-clause-output : goal.returns-in-Err-clause-output
returns-in-Err-clause-output g c =
    let now : ℕ = g.W.Target.failures c.summarize_next-after.result.0 in
    subst (λ (n : ℕ). CountsOutput {A = Unit {0}} (Err c.in-Err.stop) n now) c.loop-name.invariant.output
    (subst (λ (r : Result (Unit {0}) Stop). CountsOutput r (g.W.Target.failures c.loop-name.lines) now) c.in-Err.is
    c.summarize_next-after.ensures.output)

pub returns-clause-output : goal.returns-clause-output
returns-clause-output g c = c.loop-name.invariant.output

pub returns-clause-told : goal.returns-clause-told
returns-clause-told g c =
    let i : ℕ = c.loop-name.name-index in
    let words : List (List ℕ) = map {A = Bor (List ℕ)} {B = List ℕ} (λ w. w.now) c.args.names.now in
    let enough : length words ≤ i = rw length-map (omega arith) in
    let summing = c.args.summing.now in
    subst (λ (ws : List (List ℕ)). (inputs : List SummedInput) × AreInputs summing.form summing.limits summing.digests summing.whole
    summing.quiet (g.S.Store.held c.args.store.now) (g.I.Read.remaining c.args.standard) ws g.W.Target.contents c.args.lines
    c.loop-name.lines (g.S.Store.failures c.args.store.now) (g.S.Store.failures c.loop-name.store) c.loop-name.totals inputs)
    (take_all i words enough) c.loop-name.invariant.told

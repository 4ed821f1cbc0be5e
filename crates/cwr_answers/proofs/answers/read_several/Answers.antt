use Rattle.std.proofs.Common.{ℕ, ◌≤◌, List, [], Bor, length, get_or, map, take, Option, None, refl, sym, subst, ◌∙◌, arith}
use Rattle.std.specs.Prelude.{OnOk, Result}
use Rattle.std.proofs.lemmas.List.{length-map, take_all}
use Rattle.cwr_acks.specs.Steps.AckSteps.{held_if}
use Rattle.cwr_files.specs.Format.Files.{Texts}
use Rattle.cwr_files.proofs.lemmas.Reads.{words_more}
use Rattle.cwr_endings.specs.declared.endings.Status.{Status}
use Rattle.cwr_endings.specs.declared.stops.Stop.{Stop}
use Rattle.cwr_reports.specs.Format.Endings.{IsWorstOf}
use Rattle.cwr_reports.specs.Steps.Marked.{CountsOutput}
use Rattle.cwr_answers.specs.Format.Endings.{wanted_of}
use Rattle.cwr_answers.specs.Steps.Reading.{CountsOne, IsStanding}
use Rattle.cwr_answers.specs.Steps.Seeking.{ReadsEach, ReadsNextIfGood}
use Rattle.cwr_answers.proofs.lemmas.AnsweredPlaces.{each_none}
use Rattle.cwr_answers.proofs.lemmas.Ends.{one_more}
use Rattle.cwr_answers.proofs.lemmas.States.{all_good}
use Rattle.cwr_answers.proofs.answers.read_several.Goals as goal

pub loop-name-init : goal.loop-name-init
loop-name-init g c = record {
  kept = refl;
  first = λ first is. is;
  stands = c.requires.stands;
  output = refl;
  worst = λ first is. subst (λ (s : Status). IsWorstOf None c.args.answering.now.limits (wanted_of c.args.answering.now.whole)
      (g.S.Store.held c.args.store.now) first [] s) (sym c.new-sums.ensures.status) (λ k d lt. absurd (omega (arith, lt)));
  answers = λ first is matched kept good.
      each_none c.args.answering.now.limits (g.S.Store.held c.args.store.now) first matched (held_if c.args.reading.delivery) kept;
}

pub loop-name-preserved : goal.loop-name-preserved
loop-name-preserved g c =
    let d : Bor (List ℕ) = record { ref_ptr = (0, 0); now = [] } in
    let i : ℕ = c.loop-name.name-index in
    let words : List (Bor (List ℕ)) = c.args.answering.now.files.now in
    let limits = c.args.answering.now.limits in
    let whole = c.args.answering.now.whole in
    let held = g.S.Store.held c.args.store.now in
    let next = c.read_next-after in
    let name : List ℕ = (get_or words i d).now in
    let before : Status = c.loop-name.sums.status in
    let now : Status = next.new.sums.status in
    record {
      kept = next.ensures.kept ∙ c.loop-name.invariant.kept;
      first = λ first is. next.ensures.first first (c.loop-name.invariant.first first is);
      stands = subst (λ (r : Result (Unit {0}) Stop). OnOk r (IsStanding next.result.0.delivery)) c.in-Ok.is next.ensures.stands;
      output = subst (λ (r : Result (Unit {0}) Stop). CountsOutput r (g.W.Target.failures c.loop-name.reading.lines)
          (g.W.Target.failures next.result.0.lines)) c.in-Ok.is next.ensures.output ∙ c.loop-name.invariant.output;
      worst = λ first is. subst (λ (ws : List (List ℕ)). IsWorstOf None limits (wanted_of whole) held first ws now)
          (sym (words_more words i d (omega arith)))
          (one_more limits whole held first (take i (map {A = Bor (List ℕ)} {B = List ℕ} (λ w. w.now) words)) name before now
          (c.loop-name.invariant.worst first is)
          (subst (λ (r : Result (Unit {0}) Stop). CountsOne limits whole held first name before now r) c.in-Ok.is
          (subst (λ (h : Option Texts). CountsOne limits whole h first name before now next.result.1) c.loop-name.invariant.kept
          (next.ensures.counted first (c.loop-name.invariant.first first is)))));
      answers = λ first is matched kept good.
          subst (λ (ws : List (List ℕ)). ReadsEach limits held first ws matched (held_if next.result.0.delivery))
          (sym (words_more words i d (omega arith)))
          (all_good limits held first (take i (map {A = Bor (List ℕ)} {B = List ℕ} (λ w. w.now) words)) name matched
          (held_if c.loop-name.reading.delivery) (held_if next.result.0.delivery) before now
          (c.loop-name.invariant.answers first is matched kept)
          (λ m it. subst (λ (r : Result (Unit {0}) Stop). OnOk r (ReadsNextIfGood limits held first name m (held_if next.result.0.delivery)
          before now)) c.in-Ok.is
          (subst (λ (h : Option Texts). OnOk next.result.1 (ReadsNextIfGood limits h first name m (held_if next.result.0.delivery) before now))
          c.loop-name.invariant.kept (next.ensures.answers first (c.loop-name.invariant.first first is) m it)))
          c.loop-name.invariant.stands good);
    }

pub returns-in-Err-clause-ends : goal.returns-in-Err-clause-ends
returns-in-Err-clause-ends g c = λ first is.
    let d : Bor (List ℕ) = record { ref_ptr = (0, 0); now = [] } in
    let name : List ℕ = (get_or c.args.answering.now.files.now c.loop-name.name-index d).now in
    subst (λ (r : Result (Unit {0}) Stop). CountsOne c.args.answering.now.limits c.args.answering.now.whole (g.S.Store.held c.loop-name.store)
    first name c.loop-name.sums.status c.read_next-after.new.sums.status r) c.in-Err.is
    (c.read_next-after.ensures.counted first (c.loop-name.invariant.first first is))

pub returns-clause-ends : goal.returns-clause-ends
returns-clause-ends g c = λ first is.
    let i : ℕ = c.loop-name.name-index in
    let words : List (List ℕ) = map {A = Bor (List ℕ)} {B = List ℕ} (λ w. w.now) c.args.answering.now.files.now in
    let enough : length words ≤ i = rw length-map (omega arith) in
    subst (λ (ws : List (List ℕ)). IsWorstOf None c.args.answering.now.limits (wanted_of c.args.answering.now.whole)
    (g.S.Store.held c.args.store.now) first ws c.loop-name.sums.status) (take_all i words enough) (c.loop-name.invariant.worst first is)

pub returns-clause-answers : goal.returns-clause-answers
returns-clause-answers g c = λ first is matched kept good.
    let i : ℕ = c.loop-name.name-index in
    let words : List (List ℕ) = map {A = Bor (List ℕ)} {B = List ℕ} (λ w. w.now) c.args.answering.now.files.now in
    let enough : length words ≤ i = rw length-map (omega arith) in
    subst (λ (ws : List (List ℕ)). ReadsEach c.args.answering.now.limits (g.S.Store.held c.args.store.now) first ws matched
    (held_if c.loop-name.reading.delivery)) (take_all i words enough) (c.loop-name.invariant.answers first is matched kept good)

use Rattle.std.proofs.Common.{◌≡◌, Bor, List, Option, ℕ, map, refl, subst, sym}
use Rattle.std.specs.Prelude.{IfOk, Result}
use Rattle.cwr_delivery.specs.declared.deliveries.Delivery.{Delivery}
use Rattle.cwr_acks.specs.Steps.AckSteps.{held_if}
use Rattle.cwr_endings.specs.declared.endings.Status.TheVariants as statuses
use Rattle.cwr_endings.specs.declared.stops.Stop.{Stop}
use Rattle.cwr_endings.specs.declared.sums.Sums.{Sums}
use Rattle.cwr_files.specs.Steps.Inputs.{standard_left}
use Rattle.cwr_answers.specs.Steps.Reading.{EndsOnSums}
use Rattle.cwr_answers.specs.Steps.Seeking.{ReadsEach}
use Rattle.cwr_answers.proofs.lemmas.AnswersFail.{untold_answers}
use Rattle.cwr_answers.proofs.lemmas.Ends.{each_ends}
use Rattle.cwr_answers.proofs.answers.read_each.Goals as goal

pub returns-in-Err-clause-ends : goal.returns-in-Err-clause-ends
returns-in-Err-clause-ends g c = λ first is.
    let names : List (List ℕ) = map {A = Bor (List ℕ)} {B = List ℕ} (λ n. n.now) c.args.answering.now.files.now in
    each_ends c.args.answering.now.limits c.args.answering.now.whole (g.S.Store.held c.args.store.now) first names c.in-Err.stop
    (subst (λ (r : Result Sums Stop). EndsOnSums c.args.answering.now.limits c.args.answering.now.whole (g.S.Store.held c.args.store.now) first
    names r) c.in-Err.is (c.read_several-reading.ensures.ends first is))

pub returns-in-Ok-line-clause-ends : goal.returns-in-Ok-line-clause-ends
returns-in-Ok-line-clause-ends g c = λ first is.
    let names : List (List ℕ) = map {A = Bor (List ℕ)} {B = List ℕ} (λ n. n.now) c.args.answering.now.files.now in
    subst (λ (r : Result Sums Stop). EndsOnSums c.args.answering.now.limits c.args.answering.now.whole (g.S.Store.held c.args.store.now) first
    names r) c.in-Ok.is (c.read_several-reading.ensures.ends first is)

pub returns-in-Err-clause-failed : goal.returns-in-Err-clause-failed
returns-in-Err-clause-failed g c =
    let names : List (List ℕ) = map {A = Bor (List ℕ)} {B = List ℕ} (λ n. n.now) c.args.answering.now.files.now in
    let first : Option (List ℕ) = standard_left g.I.Read.remaining c.args.standard.now in
    untold_answers c.in-Err.stop (g.S.Store.failures c.args.store.now) (g.S.Store.failures c.read_several-reading.new.store)
    (subst (λ (r : Result Sums Stop). EndsOnSums c.args.answering.now.limits c.args.answering.now.whole (g.S.Store.held c.args.store.now) first
    names r) c.in-Err.is (c.read_several-reading.ensures.ends first (λ there. refl)))

pub returns-in-Ok-line-clause-answers : goal.returns-in-Ok-line-clause-answers
returns-in-Ok-line-clause-answers g c = λ first is matched kept good.
    let names : List (List ℕ) = map {A = Bor (List ℕ)} {B = List ℕ} (λ n. n.now) c.args.answering.now.files.now in
    let each = subst (λ (r : Result Sums Stop). IfOk r (λ sums. sums.status ≡ statuses.Good → ReadsEach c.args.answering.now.limits
    (g.S.Store.held c.args.store.now) first names matched (held_if c.read_several-reading.result.0.delivery))) c.in-Ok.is
    (c.read_several-reading.ensures.answers first is matched kept) good in
    subst (λ (d : Option Delivery). ReadsEach c.args.answering.now.limits (g.S.Store.held c.args.store.now) first names matched (held_if d))
    (sym c.end_lines-reading.ensures.same) each

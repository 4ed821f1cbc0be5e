use Rattle.std.proofs.Common.{Bor, List, ℕ, map, subst}
use Rattle.std.specs.Prelude.{Result}
use Rattle.cwr_acks.specs.Steps.AckSteps.{held_if}
use Rattle.cwr_endings.specs.declared.endings.Status.{Status}
use Rattle.cwr_endings.specs.declared.stops.Stop.{Stop}
use Rattle.cwr_answers.specs.Format.Endings.{words_of}
use Rattle.cwr_answers.specs.Steps.Reading.{EndsOnFiles}
use Rattle.cwr_answers.specs.Steps.Seeking.{ReadsAllIfGood}
use Rattle.cwr_answers.proofs.lemmas.AnswersFail.{untold_fails}
use Rattle.cwr_answers.proofs.lemmas.States.{by_written}
use Rattle.cwr_answers.proofs.answers.tell_table.Goals as goal

pub returns-clause-ends : goal.returns-clause-ends
returns-clause-ends g c = λ first is matched kept.
    let limits = c.args.answering.now.limits in
    let whole = c.args.answering.now.whole in
    let held = g.S.Store.held c.args.store.now in
    let names : List (List ℕ) = map {A = Bor (List ℕ)} {B = List ℕ} (λ n. n.now) c.args.answering.now.files.now in
    let delivery = c.read_all-reading.result.0.delivery in
    let status : Status = c.in-Ok.status in
    by_written limits whole c.args.answering.now.fail_on held first names matched delivery status c.write_table.result.1
    (subst (λ (r : Result Status Stop). EndsOnFiles limits whole held first names r) c.in-Ok.is (c.read_all-reading.ensures.ends first is))
    (subst (λ (r : Result Status Stop). ReadsAllIfGood limits held first (words_of names) matched (held_if delivery) r) c.in-Ok.is
    (c.read_all-reading.ensures.answers first is matched kept))
    c.write_table.ensures.states c.write_table.ensures.others c.write_table.ensures.untold

pub returns-clause-failed : goal.returns-clause-failed
returns-clause-failed g c =
    untold_fails c.write_table.result.1 (g.S.Store.failures c.args.store.now) (g.S.Store.failures c.read_all-reading.new.store)
    c.write_table.ensures.untold

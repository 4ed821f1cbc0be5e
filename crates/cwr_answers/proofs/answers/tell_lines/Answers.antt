use Rattle.std.proofs.Common.{Bor, List, ℕ, map, subst}
use Rattle.std.specs.Prelude.{Result}
use Rattle.cwr_acks.specs.Steps.AckSteps.{held_if}
use Rattle.cwr_endings.specs.declared.endings.Status.{Status}
use Rattle.cwr_endings.specs.declared.stops.Stop.{Stop}
use Rattle.cwr_answers.specs.Format.Endings.{words_of}
use Rattle.cwr_answers.specs.Steps.Reading.{EndsOnFiles}
use Rattle.cwr_answers.specs.Steps.Seeking.{ReadsAllIfGood}
use Rattle.cwr_answers.proofs.lemmas.States.{by_states}
use Rattle.cwr_answers.proofs.answers.tell_lines.Goals as goal

pub returns-in-Ok-status_by-clause-ends : goal.returns-in-Ok-status_by-clause-ends
returns-in-Ok-status_by-clause-ends g c = λ first is matched kept.
    let limits = c.args.answering.now.limits in
    let whole = c.args.answering.now.whole in
    let held = g.S.Store.held c.args.store.now in
    let names : List (List ℕ) = map {A = Bor (List ℕ)} {B = List ℕ} (λ n. n.now) c.args.answering.now.files.now in
    let delivery = c.read_all-reading.result.0.delivery in
    by_states limits whole c.args.answering.now.fail_on held first names matched delivery c.in-Ok-read.status c.in-Ok-status_by.status
    (subst (λ (r : Result Status Stop). EndsOnFiles limits whole held first names r) c.in-Ok-read.is (c.read_all-reading.ensures.ends first is))
    (subst (λ (r : Result Status Stop). ReadsAllIfGood limits held first (words_of names) matched (held_if delivery) r) c.in-Ok-read.is
    (c.read_all-reading.ensures.answers first is matched kept)) c.in-Ok-status_by.ensures.states c.in-Ok-status_by.ensures.others

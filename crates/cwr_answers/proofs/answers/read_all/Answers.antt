use Rattle.std.proofs.Common.{Bor, List, [], ℕ, subst, sym}
use Rattle.cwr_acks.specs.Steps.AckSteps.{held_if}
use Rattle.cwr_answers.specs.Steps.Seeking.{ReadsAllIfGood}
use Rattle.cwr_answers.proofs.lemmas.Ends.{none_named, one_named, several_named}
use Rattle.cwr_answers.proofs.lemmas.States.{none_words, one_words, several_words}
use Rattle.cwr_answers.proofs.answers.read_all.Goals as goal

pub returns-in-empty-clause-ends : goal.returns-in-empty-clause-ends
returns-in-empty-clause-ends g c = λ first is.
    none_named c.args.answering.now.limits c.args.answering.now.whole (g.S.Store.held c.args.store.now) first c.args.answering.now.files.now
    c.read_alone.result.1 c.in-empty.len_below (c.read_alone.ensures.ends first is)

pub returns-in-len1-clause-ends : goal.returns-in-len1-clause-ends
returns-in-len1-clause-ends g c = λ first is.
    let d : Bor (List ℕ) = record { ref_ptr = (0, 0); now = [] } in
    one_named c.args.answering.now.limits c.args.answering.now.whole (g.S.Store.held c.args.store.now) first c.args.answering.now.files.now d
    c.read_alone-in-len1.result.1 c.in-len1.len_at_least c.in-len1.len_below (c.read_alone-in-len1.ensures.ends first is)

pub returns-in_default-clause-ends : goal.returns-in_default-clause-ends
returns-in_default-clause-ends g c = λ first is.
    several_named c.args.answering.now.limits c.args.answering.now.whole (g.S.Store.held c.args.store.now) first c.args.answering.now.files.now
    c.read_each.result.1 c.in_default.len_at_least (c.read_each.ensures.ends first is)

pub returns-in-empty-clause-answers : goal.returns-in-empty-clause-answers
returns-in-empty-clause-answers g c = λ first is matched kept.
    subst (λ (words : List (List ℕ)). ReadsAllIfGood c.args.answering.now.limits (g.S.Store.held c.args.store.now) first words matched
    (held_if c.read_alone.result.0.delivery) c.read_alone.result.1) (sym (none_words c.args.answering.now.files.now c.in-empty.len_below))
    (c.read_alone.ensures.answers first is matched kept)

pub returns-in-len1-clause-answers : goal.returns-in-len1-clause-answers
returns-in-len1-clause-answers g c = λ first is matched kept.
    subst (λ (words : List (List ℕ)). ReadsAllIfGood c.args.answering.now.limits (g.S.Store.held c.args.store.now) first words matched
    (held_if c.read_alone-in-len1.result.0.delivery) c.read_alone-in-len1.result.1) (sym (one_words c.args.answering.now.files.now (record { ref_ptr = (0, 0); now = [] }) c.in-len1.len_at_least
    c.in-len1.len_below))
    (c.read_alone-in-len1.ensures.answers first is matched kept)

pub returns-in_default-clause-answers : goal.returns-in_default-clause-answers
returns-in_default-clause-answers g c = λ first is matched kept.
    subst (λ (words : List (List ℕ)). ReadsAllIfGood c.args.answering.now.limits (g.S.Store.held c.args.store.now) first words matched
    (held_if c.read_each.result.0.delivery) c.read_each.result.1) (sym (several_words c.args.answering.now.files.now c.in_default.len_at_least))
    (c.read_each.ensures.answers first is matched kept)

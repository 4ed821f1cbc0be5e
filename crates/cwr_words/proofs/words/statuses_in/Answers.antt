use Rattle.std.proofs.Common.{◌++◌, Bor, List, [], ℕ, ap, map, sym, ◌∙◌}
use Rattle.std.specs.List.{slice_index_or}
use Rattle.cwr_states.specs.Format.StateSets.{names_in}
use Rattle.cwr_words.specs.Format.Words.{codes_in}
use Rattle.cwr_words.proofs.lemmas.Statuses.{uncoded_texts}
use Rattle.cwr_words.proofs.words.statuses_in.Goals as goal

pub returns-in_default : goal.returns-in_default
returns-in_default c = λ all e.
    let texts : List (Bor (List ℕ)) = c.as_slice-text-items.result.now in
    let none = rw c.in_default.is at c.in_ok-more.ensures in
    uncoded_texts texts c.loop-text.text-index (record { ref_ptr = (0, 0); now = [] }) c.loop-text-test.true
    (λ more m. none more (m ∙ ap (λ (front : List (List ℕ)). front ++ names_in (slice_index_or texts c.loop-text.text-index (record { ref_ptr = (0, 0); now = [] })).now)
    (sym c.loop-text.invariant))) all
    (e ∙ ap codes_in (sym (ap (map (λ (text : Bor (List ℕ)). text.now)) c.as_slice-text-items.ensures.value ∙ c.in_ok-texts.ensures)))

use Rattle.std.proofs.Common.{◌++◌, Bor, List, ℕ, ap, map, sym, ◌∙◌}
use Rattle.cwr_fields.specs.Format.MessageCodes.{status_code}
use Rattle.cwr_words.proofs.lemmas.Statuses.{uncoded}
use Rattle.cwr_words.proofs.words.with_statuses.Goals as goal

pub returns-in_default : goal.returns-in_default
returns-in_default c = λ all e.
    let before = map status_code c.args.statuses.items in
    let codes : List (Bor (List ℕ)) = c.as_slice-code-items.result.now in
    uncoded before codes c.loop-code.code-index _ all c.loop-code-test.true c.in_default.ensures
    (e ∙ ap (λ (after : List (List ℕ)). before ++ after)
    (sym (ap (map (λ (code : Bor (List ℕ)). code.now)) c.as_slice-code-items.ensures.value ∙ c.in_ok-codes.ensures)))

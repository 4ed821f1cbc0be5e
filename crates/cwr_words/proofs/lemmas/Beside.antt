-- What stands beside the words that are read stands beside any that are asked for.
use Rattle.std.proofs.Common.{◌≡◌, ◌<◌, ℕ, List, ap, length, map, subst, sym, ◌∙◌}
use Rattle.std.proofs.lemmas.List.{length-map}
use Rattle.std.specs.Prelude.{codes}
use Rattle.cwr_words.specs.declared.words.AcksWords.{AcksWords}
use Rattle.cwr_words.specs.Format.Words.{AreBeside, AreStatusesOf, AreValuesOf, Given, IsAcksOf, IsFlagOf}

as_long : {X Y Z : Type 0} (f : X → Z) (g : Y → Z) (xs : List X) (ys : List Y) → map f xs ≡ map g ys → length xs ≡ length ys
as_long f g xs ys e = sym (length-map xs f) ∙ ap length e ∙ length-map ys g

pub beside_too : (given : Given) (words other : AcksWords) → AreValuesOf given (codes "sent") (map (λ name. name.now) words.sent.items)
    → IsFlagOf given (codes "by-place") words.by_place → IsFlagOf given (codes "state") words.state → AreStatusesOf given words.statuses.items
    → IsAcksOf given other → AreBeside given words
beside_too given words other sent by_place state statuses h =
    let beside : AreBeside given other = h.8 in
    let all : length other.sent.items ≡ length words.sent.items = as_long _ _ other.sent.items words.sent.items (h.1 ∙ sym sent) in
    let some : length words.statuses.items ≡ length other.statuses.items = as_long _ _ words.statuses.items other.statuses.items (statuses ∙ sym h.6) in
    let place : other.by_place ≡ words.by_place = h.3 ∙ sym by_place in
    let table : other.state ≡ words.state = h.4 ∙ sym state in
    record {
      by_place = λ e. subst (λ (n : ℕ). 0 < n) all (beside.by_place (place ∙ e));
      state = λ e. subst (λ (n : ℕ). 0 < n) all (beside.state (table ∙ e));
      fail_on = λ e. subst (λ (n : ℕ). 0 < n) all (beside.fail_on e);
      statuses = λ e. some ∙ beside.statuses (table ∙ e);
    }

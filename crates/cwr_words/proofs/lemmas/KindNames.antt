-- Names of kinds with commas between them, one by one.
use Rattle.std.proofs.Common.{◌≡◌, ◌==◌, ◌<◌, ℕ, List, Option, Some, None, length, arith, refl, ap, ◌∙◌}
use Rattle.std.specs.List.{after_first, before_first, position_or_len}
use Rattle.std.specs.Option.{option_and_then}
use Rattle.std.proofs.lemmas.List.Splits.{slice_split_first, slice_split_none}
use Rattle.std.proofs.lemmas.List.Sums.{fails_before_first}
use Rattle.cwr_states.specs.Format.StateSets.{names_in}
use Rattle.cwr_words.specs.declared.words.Kinds.{Kinds}
use Rattle.cwr_words.specs.Format.Words.{with_kind, with_kinds}

-- the name before the first comma, and then those after it
first_of_names : (kinds : Kinds) (text : List ℕ) → position_or_len (λ b. b == 44) text < length text
    → with_kinds kinds (names_in text)
    ≡ option_and_then (λ it. with_kinds it (names_in (after_first (λ b. b == 44) text)))
    (with_kind kinds (before_first (λ b. b == 44) text))
first_of_names kinds text comma = ap (with_kinds kinds) (slice_split_first (λ b. b == 44) text 0 comma)

same : (o : Option Kinds) → option_and_then (λ (it : Kinds). Some it) o ≡ o
same None = refl
same (Some kinds) = refl

-- without a comma there is one name
pub only_name : (kinds : Kinds) (text : List ℕ) → position_or_len (λ b. b == 44) text ≡ length text
    → with_kinds kinds (names_in text) ≡ with_kind kinds text
only_name kinds text alone =
    ap (with_kinds kinds)
    (slice_split_none (λ b. b == 44) text (λ k d within. fails_before_first (λ b. b == 44) text k d (omega (arith, alone, within))))
    ∙ same (with_kind kinds text)

-- so the kinds of the names after the first comma are added to its kind
pub first_is_added : (kinds : Kinds) (text : List ℕ) (it : Kinds) → position_or_len (λ b. b == 44) text < length text
    → with_kind kinds (before_first (λ b. b == 44) text) ≡ Some it
    → with_kinds kinds (names_in text) ≡ with_kinds it (names_in (after_first (λ b. b == 44) text))
first_is_added kinds text it comma named =
    first_of_names kinds text comma
    ∙ ap (option_and_then (λ it. with_kinds it (names_in (after_first (λ b. b == 44) text)))) named

-- and there are none where the first is no kind's
pub first_is_none : (kinds : Kinds) (text : List ℕ) → position_or_len (λ b. b == 44) text < length text
    → with_kind kinds (before_first (λ b. b == 44) text) ≡ None → with_kinds kinds (names_in text) ≡ None
first_is_none kinds text comma unnamed =
    first_of_names kinds text comma
    ∙ ap (option_and_then (λ it. with_kinds it (names_in (after_first (λ b. b == 44) text)))) unnamed

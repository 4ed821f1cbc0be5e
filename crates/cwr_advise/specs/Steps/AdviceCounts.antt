-- Which advice is told, by how many pieces of each rule stand before it.
use Rattle.std.specs.Prelude.{◌≡◌, ℕ, ◌+◌, ◌||◌, nat_lt, Bool, List, [], ◌∷◌, ◌++◌, flat_map, map, slice_index, slice_set, if◌then◌else◌, Option}
use Rattle.cwr_devices.specs.declared.pens.Pen.{Pen}
use Rattle.cwr_devices.specs.Steps.Pens.{Adds}
use Rattle.cwr_advice.specs.declared.rules.Advice.{Advice}
use Rattle.cwr_advice.specs.declared.rules.AdviceRule.{AdviceRule}
use Rattle.cwr_advice.specs.Format.RuleOrder.{all_rules, place_of_rule}
use Rattle.cwr_advise.specs.Format.ToldAdvice.{count_of, counted, most_told, summary_line, summary_lines, told_after}

-- so many come from each rule, in the order of the rules
abbrev pub counts_of : List Advice → List ℕ
counts_of advice = map (λ rule. counted (count_of (place_of_rule rule) advice)) all_rules

-- with one piece of the rule more
abbrev pub counts_with : List ℕ → AdviceRule → List ℕ
counts_with counts rule =
    slice_set counts (place_of_rule rule) (counted (slice_index counts (place_of_rule rule) + 1))

-- with these more
abbrev pub counts_after : List ℕ → List Advice → List ℕ
counts_after counts [] = counts
counts_after counts (a ∷ advice) = counts_after (counts_with counts a.rule) advice

-- advice of the rule is told after so many
abbrev pub is_told_by : Bool → List ℕ → AdviceRule → Bool
is_told_by all counts rule = all || nat_lt (slice_index counts (place_of_rule rule)) most_told

-- what is told of advice after so many
abbrev pub told_by : Bool → List ℕ → List Advice → List Advice
told_by all counts [] = []
told_by all counts (a ∷ advice) =
    (if is_told_by all counts a.rule then a ∷ [] else []) ++ told_by all (counts_with counts a.rule) advice

-- each piece of advice, with the counts of what stands before it
abbrev pub counted_from : List ℕ → List Advice → List (List ℕ × Advice)
counted_from counts [] = []
counted_from counts (a ∷ advice) = (counts, a) ∷ counted_from (counts_with counts a.rule) advice

-- the lines of one piece, where it is told after so many
abbrev pub lines_by : (Advice → List ℕ) → Bool → List ℕ × Advice → List ℕ
lines_by lines all p = if is_told_by all p.0 p.1.rule then lines p.1 else []

-- how many come from each rule, where not all of them are told
abbrev pub summary_by : Bool → List ℕ → List ℕ
summary_by all counts = flat_map (λ rule. summary_line all rule (slice_index counts (place_of_rule rule))) all_rules

-- that is added
abbrev pub AddsSummary : {W : Type 0} → (W → Option (List ℕ)) → (W → ℕ) → Bool → List ℕ → Pen W → Pen W → Type 0
AddsSummary contents failures all counts old new = Adds contents failures (summary_by all counts) old new

-- ---- what the counts of advice stand for

-- what is told of advice that comes after it
abbrev pub CountsTell : Type 0
CountsTell =
    (all : Bool) (before advice : List Advice) → told_by all (counts_of before) advice ≡ told_after all before advice

-- the counts of both
abbrev pub CountsAreCounted : Type 0
CountsAreCounted = (before advice : List Advice) → counts_after (counts_of before) advice ≡ counts_of (before ++ advice)

-- how much of it isn't told
abbrev pub CountsAreSummed : Type 0
CountsAreSummed = (all : Bool) (advice : List Advice) → summary_by all (counts_of advice) ≡ summary_lines all advice

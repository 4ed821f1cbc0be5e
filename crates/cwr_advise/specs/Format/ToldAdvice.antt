-- Which advice on a transmission is told: all of it, or of each rule the first three pieces. Then a line says how many there are.
use Rattle.std.specs.Prelude.{ℕ, ◌+◌, ◌-◌, ◌^◌, ◌==◌, ◌||◌, nat_le, nat_lt, min, Bool, List, [], ◌∷◌, ◌++◌, codes, decimal}
use Rattle.std.specs.Prelude.{count_by, flat_map, if◌then◌else◌}
use Rattle.cwr_advice.specs.declared.rules.Advice.{Advice}
use Rattle.cwr_advice.specs.declared.rules.AdviceRule.{AdviceRule}
use Rattle.cwr_advice.specs.Format.RuleOrder.{all_rules, place_of_rule}
use Rattle.cwr_advice.specs.Format.Words.{rule_text}

-- the advice comes from the rule of that place
abbrev pub is_of : ℕ → Advice → Bool
is_of place a = place == place_of_rule a.rule

-- so many pieces do
abbrev pub count_of : ℕ → List Advice → ℕ
count_of place advice = count_by (is_of place) advice

-- of each rule so many are told
abbrev pub most_told : ℕ
most_told = 3

-- Advice is told where all is, or where fewer than three pieces before it come from its rule.
abbrev pub is_told : Bool → List Advice → AdviceRule → Bool
is_told all before rule = all || nat_lt (count_of (place_of_rule rule) before) most_told

-- what is told of advice that stands after other advice
abbrev pub told_after : Bool → List Advice → List Advice → List Advice
told_after all before [] = []
told_after all before (a ∷ advice) =
    (if is_told all before a.rule then a ∷ [] else []) ++ told_after all (before ++ a ∷ []) advice

-- what is told of all advice
abbrev pub told_of : Bool → List Advice → List Advice
told_of all advice = told_after all [] advice

-- a number that is counted stays at the largest one of 64 bits
abbrev pub counted : ℕ → ℕ
counted n = min n (2 ^ 64 - 1)

-- how many pieces come from a rule, where not all of them are told
abbrev pub summary_line : Bool → AdviceRule → ℕ → List ℕ
summary_line all rule n =
    if all || nat_le n most_told then []
    else codes "ADVICE rule " ++ rule_text rule ++ codes " at " ++ decimal n ++ codes " places, " ++ decimal (n - most_told)
    ++ codes " of them not shown (--all tells each)\n"

-- the same of each rule
abbrev pub summary_lines : Bool → List Advice → List ℕ
summary_lines all advice = flat_map (λ rule. summary_line all rule (counted (count_of (place_of_rule rule) advice))) all_rules

-- What is told of advice, and how much isn't, by how many pieces of each rule stand before it.
use Rattle.std.proofs.Common.{◌≡◌, ℕ, zero, suc, ◌+◌, ◌<◌, ◌≤◌, Bool, true, false, cond, List, [], ◌∷◌, ◌++◌, length, map, take, None}
use Rattle.std.proofs.Common.{get_or, refl, sym, ap, ap₂, subst, ◌∙◌, arith, append-nil, append_assoc, Option, Some}
use Rattle.std.specs.Prelude.{◌-◌, ◌^◌, ◌==◌, ◌≢◌, ◌||◌, min, nat_lt, filter, flat_map, slice_get, slice_index, slice_set, ⊤}
use Rattle.std.proofs.lemmas.Bool.{eq-eqb, eqb-true, le-ltb, lt-ltb, ltb-false, ltb-true}
use Rattle.std.proofs.lemmas.List.{get_or-map}
use Rattle.std.proofs.lemmas.List.Sums.{sum_by-append, sum_by-cons}
use Rattle.std.proofs.lemmas.Option.{get_or_from_slice_get, slice_get_within}
use Rattle.cwr_advice.specs.declared.rules.Advice.{Advice}
use Rattle.cwr_advice.specs.declared.rules.AdviceRule.{AdviceRule}
use Rattle.cwr_advice.specs.declared.rules.AdviceRule.TheVariants as rule
use Rattle.cwr_advice.specs.Format.RuleOrder.{all_rules, place_of_rule}
use Rattle.cwr_advise.specs.Format.ToldAdvice.{count_of, counted, is_of, is_told, most_told, summary_line, summary_lines, told_after}
use Rattle.cwr_advise.specs.Format.ToldAdvice.{told_of}
use Rattle.cwr_advise.specs.Steps.AdviceCounts.{counted_from, counts_after, counts_of, counts_with, is_told_by, lines_by}
use Rattle.cwr_advise.specs.Steps.AdviceCounts.{summary_by, told_by}

-- ---- the rules in their order

-- the places of the rules are these and the next ones
AreFrom : ℕ → List AdviceRule → Type 0
AreFrom n [] = ⊤
AreFrom n (r ∷ rules) = (place_of_rule r ≡ n) × AreFrom (n + 1) rules

in_order : AreFrom 0 all_rules
unfolding all_rules AreFrom
in_order = (
  refl,
  (
    refl,
    (
      refl,
      (
        refl,
        (
          refl,
          (
            refl,
            (
              refl,
              (
                refl,
                (
                  refl,
                  (
                    refl,
                    (
                      refl,
                      (
                        refl,
                        (
                          refl,
                          (
                            refl,
                            (
                              refl,
                              (
                                refl,
                                (refl, (refl, (refl, (refl, (refl, (refl, (refl, (refl, (refl, (refl, (refl, (refl, (refl, (refl, (refl, (refl, tt)))))))))))))))),
                              ),
                            ),
                          ),
                        ),
                      ),
                    ),
                  ),
                ),
              ),
            ),
          ),
        ),
      ),
    ),
  ),
)

-- each rule has its place
rule_there : (r : AdviceRule) → slice_get all_rules (place_of_rule r) ≡ Some r
unfolding all_rules
rule_there rule.A1a = refl
rule_there rule.A1b = refl
rule_there rule.A2a = refl
rule_there rule.A2b = refl
rule_there rule.A2c = refl
rule_there rule.A2d = refl
rule_there rule.A2e = refl
rule_there rule.A2f = refl
rule_there rule.A2g = refl
rule_there rule.A2h = refl
rule_there rule.A3a = refl
rule_there rule.A3b = refl
rule_there rule.A3c = refl
rule_there rule.A3d = refl
rule_there rule.A3e = refl
rule_there rule.A4a = refl
rule_there rule.A4b = refl
rule_there rule.A4c = refl
rule_there rule.A4d = refl
rule_there rule.A5a = refl
rule_there rule.A6a = refl
rule_there rule.A6b = refl
rule_there rule.A6c = refl
rule_there rule.A7a = refl
rule_there rule.A8a = refl
rule_there rule.A8b = refl
rule_there rule.A8c = refl
rule_there rule.A8d = refl
rule_there rule.A8e = refl
rule_there rule.A9a = refl
rule_there rule.A9b = refl
rule_there rule.A9c = refl

place_within : (r : AdviceRule) → place_of_rule r < length all_rules
place_within r = slice_get_within all_rules (place_of_rule r) r (rule_there r)

-- what stands for a rule at its place
value_at : (f : AdviceRule → ℕ) (r : AdviceRule) → slice_index (map f all_rules) (place_of_rule r) ≡ f r
value_at f r =
    get_or-map f all_rules (place_of_rule r) r 0 (place_within r)
    ∙ ap f (get_or_from_slice_get all_rules (place_of_rule r) r r (rule_there r))

-- ---- a value is set

same_after : (rules : List AdviceRule) (n k : ℕ) (f g : AdviceRule → ℕ) → AreFrom n rules → k < n
    → ((r : AdviceRule) → place_of_rule r ≢ k → g r ≡ f r) → map g rules ≡ map f rules
unfolding AreFrom
same_after [] n k f g are lt same = refl
same_after (r ∷ rules) n k f g are lt same =
    ap₂ (λ (x : ℕ) (xs : List ℕ). x ∷ xs)
    (same r (λ e. absurd (let no : n ≡ k = sym are.0 ∙ e in omega (arith, no, lt))))
    (same_after rules (n + 1) k f g are.1 (omega (arith, lt)) same)

set_at : (rules : List AdviceRule) (n j : ℕ) (f g : AdviceRule → ℕ) (v : ℕ) → AreFrom n rules → j < length rules
    → ((r : AdviceRule) → place_of_rule r ≡ n + j → g r ≡ v) → ((r : AdviceRule) → place_of_rule r ≢ n + j → g r ≡ f r)
    → map g rules ≡ slice_set (map f rules) j v
unfolding AreFrom
set_at [] n j f g v are within there same = absurd (omega (arith, within))
set_at (r ∷ rules) n zero f g v are within there same =
    ap₂ (λ (x : ℕ) (xs : List ℕ). x ∷ xs) (there r (are.0 ∙ omega arith))
    (same_after rules (n + 1) (n + 0) f g are.1 (omega arith) same)
set_at (r ∷ rules) n (suc j) f g v are within there same =
    ap₂ (λ (x : ℕ) (xs : List ℕ). x ∷ xs)
    (same r (λ e. absurd (let no : n ≡ n + suc j = sym are.0 ∙ e in omega (arith, no))))
    (set_at rules (n + 1) j f g v are.1 (omega (arith, within))
    (λ s e. there s (e ∙ omega arith)) (λ s other. same s (λ e. other (e ∙ omega arith))))

-- ---- how much advice comes from each rule

-- one, or none
unfoldable pub one_if : Bool → ℕ
one_if b = cond b 1 0

pub count-snoc : (place : ℕ) (advice : List Advice) (a : Advice)
    → count_of place (advice ++ a ∷ []) ≡ count_of place advice + one_if (is_of place a)
unfolding one_if
count-snoc place advice a =
    let one : Advice → ℕ = λ x. cond (is_of place x) 1 0 in
    sum_by-append one advice (a ∷ []) ∙ ap (λ (n : ℕ). count_of place advice + n) (sum_by-cons one a [] ∙ omega arith)

counted_more : (n : ℕ) → counted (n + 1) ≡ counted (counted n + 1)
counted_more n = omega arith

one_of_it : (place : ℕ) (a : Advice) → place ≡ place_of_rule a.rule → one_if (is_of place a) ≡ 1
unfolding one_if
one_of_it place a e = ap one_if (eq-eqb place (place_of_rule a.rule) e)

none_of_it : (place : ℕ) (a : Advice) → place ≢ place_of_rule a.rule → one_if (is_of place a) ≡ 0
unfolding one_if
none_of_it place a other = by (place == place_of_rule a.rule) refl
  where
    by : (b : Bool) → (place == place_of_rule a.rule) ≡ b → one_if (is_of place a) ≡ 0
    by true e = absurd (other (eqb-true place (place_of_rule a.rule) e))
    by false e = ap one_if e

-- with one piece more
pub counts-snoc : (before : List Advice) (a : Advice) → counts_of (before ++ a ∷ []) ≡ counts_with (counts_of before) a.rule
counts-snoc before a =
    let place : ℕ = place_of_rule a.rule in
    set_at all_rules 0 place (λ r. counted (count_of (place_of_rule r) before))
    (λ r. counted (count_of (place_of_rule r) (before ++ a ∷ [])))
    (counted (slice_index (counts_of before) place + 1)) in_order (place_within a.rule)
    (λ r e. let same : place_of_rule r ≡ place = e ∙ omega arith in
    ap counted (count-snoc (place_of_rule r) before a
    ∙ ap (λ (n : ℕ). count_of (place_of_rule r) before + n) (one_of_it (place_of_rule r) a same)
    ∙ ap (λ (p : ℕ). count_of p before + 1) same)
    ∙ counted_more (count_of place before)
    ∙ ap (λ (n : ℕ). counted (n + 1)) (sym (value_at (λ s. counted (count_of (place_of_rule s) before)) a.rule)))
    (λ r other. ap counted (count-snoc (place_of_rule r) before a
    ∙ ap (λ (n : ℕ). count_of (place_of_rule r) before + n)
    (none_of_it (place_of_rule r) a (λ e. other (e ∙ omega arith)))
    ∙ omega arith))

-- with more advice
pub counts-more : (before advice : List Advice) → counts_after (counts_of before) advice ≡ counts_of (before ++ advice)
counts-more before [] = ap counts_of (sym (append-nil before))
counts-more before (a ∷ advice) =
    ap (λ (counts : List ℕ). counts_after counts advice) (sym (counts-snoc before a))
    ∙ counts-more (before ++ a ∷ []) advice
    ∙ ap counts_of (append_assoc before (a ∷ []) advice)

pub after-append : (counts : List ℕ) (one two : List Advice)
    → counts_after counts (one ++ two) ≡ counts_after (counts_after counts one) two
after-append counts [] two = refl
after-append counts (a ∷ one) two = after-append (counts_with counts a.rule) one two

-- ---- what is told

few_counted : (n : ℕ) → nat_lt (counted n) 3 ≡ nat_lt n 3
few_counted n = by (nat_lt n 3) refl
  where
    by : (b : Bool) → nat_lt n 3 ≡ b → nat_lt (counted n) 3 ≡ nat_lt n 3
    by true e = lt-ltb (counted n) 3 (omega (arith, ltb-true n 3 e)) ∙ sym e
    by false e = le-ltb (counted n) 3 (omega (arith, ltb-false n 3 e)) ∙ sym e

pub told-same : (all : Bool) (before : List Advice) (r : AdviceRule) → is_told_by all (counts_of before) r ≡ is_told all before r
told-same all before r =
    ap (λ (n : ℕ). all || nat_lt n 3) (value_at (λ s. counted (count_of (place_of_rule s) before)) r)
    ∙ ap (λ (b : Bool). all || b) (few_counted (count_of (place_of_rule r) before))

-- what is told is the same by the advice before and by the counts of that
pub told-by : (all : Bool) (before advice : List Advice) → told_by all (counts_of before) advice ≡ told_after all before advice
told-by all before [] = refl
told-by all before (a ∷ advice) =
    ap₂ (λ (b : Bool) (rest : List Advice). cond b (a ∷ []) [] ++ rest) (told-same all before a.rule)
    (ap (λ (counts : List ℕ). told_by all counts advice) (sym (counts-snoc before a)) ∙ told-by all (before ++ a ∷ []) advice)

lines_of_one : (lines : Advice → List ℕ) (b : Bool) (a : Advice) (rest : List Advice)
    → cond b (lines a) [] ++ flat_map lines rest ≡ flat_map lines (cond b (a ∷ []) [] ++ rest)
lines_of_one lines true a rest = refl
lines_of_one lines false a rest = refl

-- the lines of each piece that is told
pub told-lines : (lines : Advice → List ℕ) (all : Bool) (counts : List ℕ) (advice : List Advice)
    → flat_map (lines_by lines all) (counted_from counts advice) ≡ flat_map lines (told_by all counts advice)
told-lines lines all counts [] = refl
told-lines lines all counts (a ∷ advice) =
    ap (λ (rest : List ℕ). cond (is_told_by all counts a.rule) (lines a) [] ++ rest)
    (told-lines lines all (counts_with counts a.rule) advice)
    ∙ lines_of_one lines (is_told_by all counts a.rule) a (told_by all (counts_with counts a.rule) advice)

-- a piece with the counts of what stands before it
pub counted-at : (counts : List ℕ) (advice : List Advice) (i : ℕ) (a : Advice) → Some a ≡ slice_get advice i
    → Some (counts_after counts (take i advice), a) ≡ slice_get (counted_from counts advice) i
counted-at counts [] i a e = absurd (cc e)
counted-at counts (x ∷ advice) zero a e = let same : a ≡ x = cc e in ap (λ (y : Advice). Some (counts, y)) same
counted-at counts (x ∷ advice) (suc i) a e = counted-at (counts_with counts x.rule) advice i a e

-- and the counts with it
next_counts : (counts : List ℕ) (advice : List Advice) (i : ℕ) (a : Advice) → Some a ≡ slice_get advice i
    → counts_after counts (take (suc i) advice) ≡ counts_with (counts_after counts (take i advice)) a.rule
next_counts counts [] i a e = absurd (cc e)
next_counts counts (x ∷ advice) zero a e = let same : a ≡ x = cc e in ap (λ (y : Advice). counts_with counts y.rule) (sym same)
next_counts counts (x ∷ advice) (suc i) a e = next_counts (counts_with counts x.rule) advice i a e

pub counts-next : (counts : List ℕ) (advice : List Advice) (i : ℕ) (a : Advice) → Some a ≡ slice_get advice i
    → counts_after counts (take (i + 1) advice) ≡ counts_with (counts_after counts (take i advice)) a.rule
counts-next counts advice i a e =
    let next : i + 1 ≡ suc i = omega arith in
    ap (λ (n : ℕ). counts_after counts (take n advice)) next ∙ next_counts counts advice i a e

-- no more of them
pub counted-none : (counts : List ℕ) (advice : List Advice) (i : ℕ) → None ≡ slice_get advice i
    → None ≡ slice_get (counted_from counts advice) i
counted-none counts [] i e = refl
counted-none counts (x ∷ advice) zero e = absurd (cc e)
counted-none counts (x ∷ advice) (suc i) e = counted-none (counts_with counts x.rule) advice i e

-- ---- what isn't told

pub summed : (all : Bool) (advice : List Advice) → summary_by all (counts_of advice) ≡ summary_lines all advice
summed all advice = by all_rules
  where
    by : (rules : List AdviceRule)
        → flat_map (λ r. summary_line all r (slice_index (counts_of advice) (place_of_rule r))) rules
        ≡ flat_map (λ r. summary_line all r (counted (count_of (place_of_rule r) advice))) rules
    by [] = refl
    by (r ∷ rules) =
        ap₂ (λ (n : ℕ) (rest : List ℕ). summary_line all r n ++ rest)
        (value_at (λ s. counted (count_of (place_of_rule s) advice)) r) (by rules)

-- no advice came
pub counts-none : counts_of []
    ≡ 0 ∷ 0 ∷ 0 ∷ 0 ∷ 0 ∷ 0 ∷ 0 ∷ 0 ∷ 0 ∷ 0 ∷ 0 ∷ 0 ∷ 0 ∷ 0 ∷ 0 ∷ 0 ∷ 0 ∷ 0 ∷ 0 ∷ 0 ∷ 0 ∷ 0 ∷ 0 ∷ 0 ∷ 0 ∷ 0 ∷ 0 ∷ 0 ∷ 0 ∷ 0 ∷ 0 ∷ 0 ∷ []
unfolding all_rules
counts-none = refl

-- there are 32 rules
pub rule-count : length all_rules ≡ 32
unfolding all_rules
rule-count = refl

-- Of each rule the first three pieces of advice are told, or all are.
use Rattle.std.proofs.Common.{◌≡◌, ℕ, zero, suc, ◌+◌, Bool, true, false, cond, List, [], ◌∷◌, ◌++◌, take}
use Rattle.std.proofs.Common.{refl, sym, ap, ap₂, ◌∙◌, arith}
use Rattle.std.specs.Prelude.{◌-◌, ◌&&◌, nat_lt, filter}
use Rattle.std.proofs.lemmas.Bool.{eqb-true, ltb-false, ltb-true}
use Rattle.std.proofs.lemmas.List.Elements.{filter-append}
use Rattle.cwr_advice.specs.declared.rules.Advice.{Advice}
use Rattle.cwr_advice.specs.Format.RuleOrder.{place_of_rule}
use Rattle.cwr_advise.specs.Format.ToldAdvice.{count_of, is_of, is_told, told_after, told_of}
use Rattle.cwr_advise.proofs.lemmas.AdviceCounted.{count-snoc, one_if}

all_after : (before advice : List Advice) → told_after true before advice ≡ advice
all_after before [] = refl
all_after before (a ∷ advice) = ap (λ (l : List Advice). a ∷ l) (all_after (before ++ a ∷ []) advice)

pub all_told : (advice : List Advice) → told_of true advice ≡ advice
all_told advice = all_after [] advice

none_taken : {A : Type 0} (n : ℕ) (xs : List A) → n ≡ 0 → take n xs ≡ []
none_taken zero [] e = refl
none_taken zero (x ∷ xs) e = refl
none_taken (suc n) xs e = absurd (omega (arith, e))

nothing_taken : (n : ℕ) → take {A = Advice} n [] ≡ []
nothing_taken zero = refl
nothing_taken (suc n) = refl

-- a piece, where it comes from the rule and is told
shown : (p : Advice → Bool) (a : Advice) (mine told : Bool) → p a ≡ mine
    → filter p (cond told (a ∷ []) []) ≡ cond (mine && told) (a ∷ []) []
shown p a true true m = ap (λ (b : Bool). cond b (a ∷ []) []) m
shown p a true false m = refl
shown p a false true m = ap (λ (b : Bool). cond b (a ∷ []) []) m
shown p a false false m = refl

-- after so many pieces of the rule, and with this one so many
joined : (mine told : Bool) (n m : ℕ) (a : Advice) (rest : List Advice) → m ≡ n + one_if mine
    → (mine ≡ true → told ≡ nat_lt n 3)
    → cond (mine && told) (a ∷ []) [] ++ take (3 - m) rest ≡ take (3 - n) (cond mine (a ∷ rest) rest)
unfolding one_if
joined true true n m a rest e t =
    let more : 3 - n ≡ suc (3 - m) = omega (arith, e, ltb-true n 3 (sym (t refl))) in
    sym (ap (λ (k : ℕ). take k (a ∷ rest)) more)
joined true false n m a rest e t =
    let past : 3 - n ≡ 0 = omega (arith, ltb-false n 3 (sym (t refl))) in
    let beyond : 3 - m ≡ 0 = omega (arith, e, ltb-false n 3 (sym (t refl))) in
    none_taken (3 - m) rest beyond ∙ sym (none_taken (3 - n) (a ∷ rest) past)
joined false told n m a rest e t = ap (λ (k : ℕ). take k rest) (omega (arith, e))

first_after : (place : ℕ) (before advice : List Advice)
    → filter (is_of place) (told_after false before advice) ≡ take (3 - count_of place before) (filter (is_of place) advice)
first_after place before [] = sym (nothing_taken (3 - count_of place before))
first_after place before (a ∷ advice) =
    filter-append (is_of place) (cond (is_told false before a.rule) (a ∷ []) []) (told_after false (before ++ a ∷ []) advice)
    ∙ ap₂ (λ (l m : List Advice). l ++ m) (shown (is_of place) a (is_of place a) (is_told false before a.rule) refl)
    (first_after place (before ++ a ∷ []) advice)
    ∙ joined (is_of place a) (is_told false before a.rule) (count_of place before) (count_of place (before ++ a ∷ [])) a
    (filter (is_of place) advice) (count-snoc place before a)
    (λ mine. ap (λ (p : ℕ). nat_lt (count_of p before) 3) (sym (eqb-true place (place_of_rule a.rule) mine)))

pub first_told : (place : ℕ) (advice : List Advice)
    → filter (is_of place) (told_of false advice) ≡ take 3 (filter (is_of place) advice)
first_told place advice = first_after place [] advice

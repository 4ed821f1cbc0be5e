-- Where the transactions stand that have a number is found again.
use mathlib.Core.Path.{fun_ext}
use Rattle.std.proofs.Common.{◌≡◌, ◌==◌, ℕ, zero, suc, ◌+◌, ◌-◌, ◌<◌, ◌≤◌, Bool, true, false, not, ◌&&◌, cond, eqb, ltb, leb, List, [], ◌∷◌, ◌++◌, length, map, filter, take, drop, set, get_or, refl, sym, ap, ap₂, subst, ◌∙◌, append-nil, arith, true≢false}
use Rattle.std.specs.Prelude.{nat_lt, if◌then◌else◌, Result, Ok, Err, OnOk, is_ok}
use Rattle.std.specs.Ordering.{is_lt, nat_cmp}
use Rattle.std.specs.declared.cmp.Ordering.TheVariants.{Less, Equal, Greater}
use Rattle.std.specs.List.Sorted.{IsNonDecreasingBy, IsPartitionPoint, IsStableByKey, ties}
use Rattle.std.proofs.lemmas.Bool.{eqb-true, eqb-false, ltb-true, ltb-false, leb-true, leb-false}
use Rattle.std.proofs.lemmas.List.{get_or_append_left, get_or-append-add, get_or-drop, get_or-set_same, get_or-set_other, get_or-take, length-drop, length-take, length-set, length_push, map-append, take-append-drop}
use Rattle.std.proofs.lemmas.List.Elements.{filter-append}
use Rattle.std.proofs.lemmas.List.Sorted.{IsNonDecreasingBy-push}
use Rattle.cwr_transform.specs.declared.sought.Further.{Further}
use Rattle.cwr_transform.specs.Steps.Found.{AreAt, HasCounted, HasPlaced, counted_at, counts_after, counts_from, firsts_noted, further_noted, further_of, place_after, place_at}

-- ---- filters

filter_alike : {X : Type 0} (p q : X → Bool) → ((x : X) → p x ≡ q x) → (xs : List X) → filter p xs ≡ filter q xs
filter_alike {X} p q h xs = ap (λ (f : X → Bool). filter f xs) (fun_ext h)

filter_none : {X : Type 0} (p : X → Bool) (xs : List X) → ((i : ℕ) (d : X) → i < length xs → p (get_or xs i d) ≡ false) → filter p xs ≡ []
filter_none p [] h = refl
filter_none p (x ∷ xs) h =
    ap (λ (b : Bool). cond b (x ∷ filter p xs) (filter p xs)) (h zero x (omega arith))
    ∙ filter_none p xs (λ i d lt. h (suc i) d (omega (arith, lt)))

filter_all : {X : Type 0} (p : X → Bool) (xs : List X) → ((i : ℕ) (d : X) → i < length xs → p (get_or xs i d) ≡ true) → filter p xs ≡ xs
filter_all p [] h = refl
filter_all p (x ∷ xs) h =
    ap (λ (b : Bool). cond b (x ∷ filter p xs) (filter p xs)) (h zero x (omega arith))
    ∙ ap (λ (l : List _). x ∷ l) (filter_all p xs (λ i d lt. h (suc i) d (omega (arith, lt))))

-- ---- a stable sort

is_less : (a b : ℕ) → is_lt (nat_cmp a b) ≡ ltb a b
is_less a b = by (ltb a b) (eqb a b) where
  by : (b c : Bool) → is_lt (cond b Less (cond c Equal Greater)) ≡ b
  by true c = refl
  by false true = refl
  by false false = refl

-- numbers tie where they are equal
tied : (a n : ℕ) → (not (ltb a n) && not (ltb n a)) ≡ (n == a)
tied a n = by (ltb a n) (ltb n a) (eqb n a) refl refl refl where
  by : (b c e : Bool) → ltb a n ≡ b → ltb n a ≡ c → eqb n a ≡ e → (not b && not c) ≡ e
  by true c true p q r = absurd (omega (arith, ltb-true a n p, eqb-true n a r))
  by true c false p q r = refl
  by false true true p q r = absurd (omega (arith, ltb-true n a q, eqb-true n a r))
  by false true false p q r = refl
  by false false true p q r = refl
  by false false false p q r = absurd (eqb-false n a r (omega (arith, ltb-false a n p, ltb-false n a q)))

-- those of a number stay in their order
pub stays : (xs ys : List Further) → IsStableByKey (λ (f : Further). f.number) nat_cmp xs ys → (at : ℕ) → further_of at ys ≡ further_of at xs
stays xs ys stable at =
    let x : Further = record { number = at; count = 0 } in
    let lt : Further → Further → Bool = λ f g. is_lt (nat_cmp f.number g.number) in
    let same : (f : Further) → ties lt x f ≡ (f.number == at) =
    λ f. ap₂ (λ (b c : Bool). not b && not c) (is_less at f.number) (is_less f.number at) ∙ tied at f.number in
    sym (filter_alike (ties lt x) (λ f. f.number == at) same ys) ∙ stable x ∙ filter_alike (ties lt x) (λ f. f.number == at) same xs

-- ---- those of a number stand together

pub stand_together : (at i k : ℕ) (xs : List Further) → i ≤ length xs → k ≤ length xs - i
    → IsNonDecreasingBy (λ f. f.number) xs
    → IsPartitionPoint (λ f. ltb f.number at ≡ true) (λ f. ltb f.number at ≡ false) xs i
    → IsPartitionPoint (λ f. leb f.number at ≡ true) (λ f. leb f.number at ≡ false) (drop i xs) k
    → take k (drop i xs) ≡ further_of at xs
stand_together at i k xs within within_rest rises before until =
    sym (ap (further_of at) (sym (take-append-drop i xs))
    ∙ filter-append (λ f. f.number == at) (take i xs) (drop i xs)
    ∙ ap₂ (λ (a b : List Further). a ++ b) front
    (ap (further_of at) (sym (take-append-drop k (drop i xs)))
    ∙ filter-append (λ f. f.number == at) (take k (drop i xs)) (drop k (drop i xs))
    ∙ ap₂ (λ (a b : List Further). a ++ b) middle back
    ∙ append-nil (take k (drop i xs)))) where
      not_equal : (n : ℕ) → (n ≡ at → ⊥) → (n == at) ≡ false
      not_equal n ne = by (eqb n at) refl where
        by : (b : Bool) → eqb n at ≡ b → b ≡ false
        by false e = refl
        by true e = absurd (ne (eqb-true n at e))

      equal : (n : ℕ) → n ≡ at → (n == at) ≡ true
      equal n same = by (eqb n at) refl where
        by : (b : Bool) → eqb n at ≡ b → b ≡ true
        by true e = refl
        by false e = absurd (eqb-false n at e same)

      front : further_of at (take i xs) ≡ []
      front = filter_none (λ f. f.number == at) (take i xs) (λ j d lt.
          let lower : j < i = omega (arith, lt, length-take i xs) in
          ap (λ (f : Further). f.number == at) (get_or-take i xs j d lower)
          ∙ not_equal (get_or xs j d).number (λ e. omega (arith, e, ltb-true (get_or xs j d).number at (before.0 j d (omega arith) lower))))

      middle : further_of at (take k (drop i xs)) ≡ take k (drop i xs)
      middle = filter_all (λ f. f.number == at) (take k (drop i xs)) (λ j d lt.
          let lower : j < k = omega (arith, lt, length-take k (drop i xs)) in
          let most : (get_or (drop i xs) j d).number ≤ at = leb-true (get_or (drop i xs) j d).number at (until.0 j d (omega arith) lower) in
          let there : get_or (drop i xs) j d ≡ get_or xs (i + j) d = get_or-drop i xs j d in
          let least : at ≤ (get_or xs (i + j) d).number =
          ltb-false (get_or xs (i + j) d).number at (before.1 (i + j) d (omega arith) (omega (arith, lower, within_rest, within))) in
          ap (λ (f : Further). f.number == at) (get_or-take k (drop i xs) j d lower)
          ∙ equal (get_or (drop i xs) j d).number (omega (arith, most, least, ap (λ (f : Further). f.number) there)))

      back : further_of at (drop k (drop i xs)) ≡ []
      back = filter_none (λ f. f.number == at) (drop k (drop i xs)) (λ j d lt.
          let within_there : k + j < length (drop i xs) = omega (arith, lt, length-drop k (drop i xs)) in
          ap (λ (f : Further). f.number == at) (get_or-drop k (drop i xs) j d)
          ∙ not_equal (get_or (drop i xs) (k + j) d).number (λ e.
          omega (arith, e, leb-false (get_or (drop i xs) (k + j) d).number at (until.1 (k + j) d (omega arith) within_there))))

-- ---- places

-- what came before the last group whose transactions come before that one
abbrev before_last : List ℕ → ℕ → ℕ → ℕ
before_last starts before zero = before
before_last starts before (suc i) = get_or starts i 0

placed_by : (group before count : ℕ) (starts : List ℕ) (i : ℕ) → i ≤ length starts
    → ((j : ℕ) → j < i → get_or starts j 0 < count) → ((j : ℕ) → i ≤ j → j < length starts → count ≤ get_or starts j 0)
    → place_after group before starts count ≡ (group + i, count - before_last starts before i - 1)
placed_by group before count [] zero within low high = ap (λ (g : ℕ). (g, count - before - 1)) (omega arith)
placed_by group before count [] (suc i) within low high = absurd (omega (arith, within))
placed_by group before count (start ∷ starts) zero within low high =
    ap (λ (b : Bool). if b then place_after (group + 1) start starts count else (group, count - before - 1))
    (not_less start count (high zero (omega arith) (omega arith)))
    ∙ ap (λ (g : ℕ). (g, count - before - 1)) (omega arith)
  where
    not_less : (a b : ℕ) → b ≤ a → nat_lt a b ≡ false
    not_less a b le = by (ltb a b) refl where
      by : (c : Bool) → ltb a b ≡ c → c ≡ false
      by false e = refl
      by true e = absurd (omega (arith, le, ltb-true a b e))
placed_by group before count (start ∷ starts) (suc i) within low high =
    ap (λ (b : Bool). if b then place_after (group + 1) start starts count else (group, count - before - 1))
    (less_so start count (low zero (omega arith)))
    ∙ placed_by (group + 1) start count starts i (omega (arith, within)) (λ j lt. low (suc j) (omega (arith, lt)))
    (λ j le lt. high (suc j) (omega (arith, le)) (omega (arith, lt)))
    ∙ ap₂ (λ (g b : ℕ). (g, count - b - 1)) (omega arith) (last i)
  where
    less_so : (a b : ℕ) → a < b → nat_lt a b ≡ true
    less_so a b lt = by (ltb a b) refl where
      by : (c : Bool) → ltb a b ≡ c → c ≡ true
      by true e = refl
      by false e = absurd (omega (arith, lt, ltb-false a b e))

    last : (i : ℕ) → before_last starts start i ≡ before_last (start ∷ starts) before (suc i)
    last zero = refl
    last (suc i) = refl

-- by where its group was found
pub placed_at : (count : ℕ) (starts : List ℕ) (i before : ℕ) → i ≤ length starts
    → IsPartitionPoint (λ s. ltb s count ≡ true) (λ s. ltb s count ≡ false) starts i
    → (i ≡ 0 → before ≡ 0) → (0 < i → before ≡ get_or starts (i - 1) 0)
    → place_at starts count ≡ (i, count - before - 1)
placed_at count starts zero before within parts none some =
    placed_by 0 0 count starts zero within (λ j lt. absurd (omega (arith, lt)))
    (λ j le lt. ltb-false (get_or starts j 0) count (parts.1 j 0 le lt))
    ∙ ap (λ (b : ℕ). (zero, count - b - 1)) (sym (none refl))
placed_at count starts (suc i) before within parts none some =
    placed_by 0 0 count starts (suc i) within (λ j lt. ltb-true (get_or starts j 0) count (parts.0 j 0 (omega arith) lt))
    (λ j le lt. ltb-false (get_or starts j 0) count (parts.1 j 0 le lt))
    ∙ ap₂ (λ (g b : ℕ). (g, count - b - 1)) (omega arith)
    (ap (λ (j : ℕ). get_or starts j 0) (omega arith) ∙ sym (some (omega arith)))

-- ---- memory

pub on_ok : {A E P : Type 0} (r : Result A E) → is_ok r ≡ true → OnOk r P → P
on_ok (Ok x) e h = h
on_ok (Err x) e h = absurd (true≢false (sym e))

pub not_false : (b : Bool) → not b ≡ false → b ≡ true
not_false true e = refl
not_false false e = absurd (true≢false e)

-- ---- places of more

all_before : (a b : ℕ) → a < b → nat_lt a b ≡ true
all_before a b lt = by (ltb a b) refl where
  by : (c : Bool) → ltb a b ≡ c → c ≡ true
  by true e = refl
  by false e = absurd (omega (arith, lt, ltb-false a b e))

none_before : (a b : ℕ) → b ≤ a → nat_lt a b ≡ false
none_before a b le = by (ltb a b) refl where
  by : (c : Bool) → ltb a b ≡ c → c ≡ false
  by false e = refl
  by true e = absurd (omega (arith, le, ltb-true a b e))

-- a further group changes none of those before it
kept_before : (group before n count : ℕ) (starts : List ℕ) → count ≤ n
    → place_after group before (starts ++ n ∷ []) count ≡ place_after group before starts count
kept_before group before n count [] le =
    ap (λ (b : Bool). if b then place_after (group + 1) n [] count else (group, count - before - 1)) (none_before n count le)
kept_before group before n count (start ∷ starts) le =
    ap (λ (p : ℕ × ℕ). if nat_lt start count then p else (group, count - before - 1)) (kept_before (group + 1) start n count starts le)

-- the first one of that group
first_of : (group before n : ℕ) (starts : List ℕ) → ((i : ℕ) → i < length starts → get_or starts i 0 ≤ n)
    → place_after group before (starts ++ n ∷ []) (n + 1) ≡ ((place_after group before starts (n + 1)).0 + 1, 0)
first_of group before n [] low =
    ap (λ (b : Bool). if b then place_after (group + 1) n [] (n + 1) else (group, n + 1 - before - 1)) (all_before n (n + 1) (omega arith))
    ∙ ap (λ (m : ℕ). (group + 1, m)) (omega arith)
first_of group before n (start ∷ starts) low =
    ap (λ (b : Bool). if b then place_after (group + 1) start (starts ++ n ∷ []) (n + 1) else (group, n + 1 - before - 1)) here
    ∙ first_of (group + 1) start n starts (λ i lt. low (suc i) (omega (arith, lt)))
    ∙ ap (λ (b : Bool). ((if b then place_after (group + 1) start starts (n + 1) else (group, n + 1 - before - 1)).0 + 1, zero)) (sym here)
  where
    here : nat_lt start (n + 1) ≡ true
    here = all_before start (n + 1) (omega (arith, low zero (omega arith)))

-- the one after
next_of : (group before n : ℕ) (starts : List ℕ) → before < n → ((i : ℕ) → i < length starts → get_or starts i 0 < n)
    → place_after group before starts (n + 1) ≡ ((place_after group before starts n).0, (place_after group before starts n).1 + 1)
next_of group before n [] above low = ap (λ (m : ℕ). (group, m)) (omega (arith, above))
next_of group before n (start ∷ starts) above low =
    ap (λ (b : Bool). if b then place_after (group + 1) start starts (n + 1) else (group, n + 1 - before - 1))
    (all_before start (n + 1) (omega (arith, low zero (omega arith))))
    ∙ next_of (group + 1) start n starts (low zero (omega arith)) (λ i lt. low (suc i) (omega (arith, lt)))
    ∙ ap (λ (b : Bool). (
      (if b then place_after (group + 1) start starts n else (group, n - before - 1)).0,
      (if b then place_after (group + 1) start starts n else (group, n - before - 1)).1 + 1,
    )) (sym (all_before start n (low zero (omega arith))))

are_alike : (at other : ℕ → ℕ × ℕ) (k : ℕ) (ps : List (ℕ × ℕ)) → ((c : ℕ) → c < k + length ps → other c ≡ at c) → AreAt at k ps
    → AreAt other k ps
are_alike at other k [] same h = tt
are_alike at other k (p ∷ ps) same h =
    (same k (omega arith) ∙ h.0, are_alike at other (k + 1) ps (λ c lt. same c (omega (arith, lt))) h.1)

are_more : (at : ℕ → ℕ × ℕ) (k : ℕ) (ps : List (ℕ × ℕ)) (p : ℕ × ℕ) → AreAt at k ps → at (k + length ps) ≡ p → AreAt at k (ps ++ p ∷ [])
are_more at k [] p h e = (ap at (omega arith) ∙ e, tt)
are_more at k (q ∷ ps) p h e = (h.0, are_more at (k + 1) ps p h.1 (ap at (omega arith) ∙ e))

-- before the first transaction
pub placed_none : HasPlaced [] 0 0 []
placed_none = record {
  groups = refl;
  next = refl;
  low = λ i lt. absurd (omega (arith, lt));
  rises = λ i j d le lt. absurd (omega (arith, lt));
  at = tt;
}

-- a group opens
pub placed_group : (places : List (ℕ × ℕ)) (group place : ℕ) (starts : List ℕ) → HasPlaced places group place starts
    → HasPlaced places (group + 1) 0 (starts ++ length places ∷ [])
placed_group places group place starts h = record {
  groups = length_push starts (length places) ∙ ap (λ (n : ℕ). n + 1) h.groups;
  next = first_of 0 0 (length places) starts h.low ∙ ap (λ (p : ℕ × ℕ). (p.0 + 1, zero)) h.next;
  low = λ i lt. low i (omega (arith, lt, length_push starts (length places))) (ltb i (length starts)) refl;
  rises = IsNonDecreasingBy-push (λ x. x) starts (length places) h.rises
      (λ d some. omega (arith, h.low (length starts - 1) (omega (arith, some)), default starts (length starts - 1) d (omega (arith, some))));
  at = are_alike (place_at starts) (place_at (starts ++ length places ∷ [])) 1 places
      (λ c lt. kept_before 0 0 (length places) c starts (omega (arith, lt))) h.at;
} where
  default : (xs : List ℕ) (i d : ℕ) → i < length xs → get_or xs i d ≡ get_or xs i 0
  default [] i d lt = absurd (omega (arith, lt))
  default (x ∷ xs) zero d lt = refl
  default (x ∷ xs) (suc i) d lt = default xs i d (omega (arith, lt))

  low : (i : ℕ) → i < length starts + 1 → (b : Bool) → ltb i (length starts) ≡ b
      → get_or (starts ++ length places ∷ []) i 0 ≤ length places
  low i lt true e =
      omega (arith, h.low i (ltb-true i (length starts) e), get_or_append_left starts (length places ∷ []) 0 i (ltb-true i (length starts) e))
  low i lt false e =
      let last : i ≡ length starts + 0 = omega (arith, lt, ltb-false i (length starts) e) in
      omega (arith, ap (λ (j : ℕ). get_or (starts ++ length places ∷ []) j 0) last, get_or-append-add starts (length places ∷ []) 0 0)

-- a transaction comes
pub placed_more : (places : List (ℕ × ℕ)) (group place : ℕ) (starts : List ℕ) → HasPlaced places group place starts
    → HasPlaced (places ++ (group, place) ∷ []) group (place + 1) starts
placed_more places group place starts h = record {
  groups = h.groups;
  next = ap (place_at starts) (ap (λ (n : ℕ). n + 1) (length_push places (group, place)))
      ∙ next_of 0 0 (length places + 1) starts (omega arith) (λ i lt. omega (arith, h.low i lt))
      ∙ ap (λ (p : ℕ × ℕ). (p.0, p.1 + 1)) h.next;
  low = λ i lt. omega (arith, h.low i lt, length_push places (group, place));
  rises = h.rises;
  at = are_more (place_at starts) 1 places (group, place) h.at (ap (place_at starts) (omega arith) ∙ h.next);
}

-- those of a value are where it is
pub found_places : {X A : Type 0} (same : A → A → Bool) (value : A) (of : X → A) (place : X → ℕ × ℕ) (at : ℕ → ℕ × ℕ) (k : ℕ) (xs : List X)
    → AreAt at k (map place xs)
    → map at (counts_from same value k (map of xs)) ≡ map place (filter (λ x. same value (of x)) xs)
found_places same value of place at k [] h = refl
found_places {X} same value of place at k (x ∷ xs) h =
    by (found_places same value of place at (k + 1) xs h.1) (same value (of x)) refl where
      by : map at (counts_from same value (k + 1) (map of xs)) ≡ map place (filter (λ x. same value (of x)) xs)
          → (b : Bool) → same value (of x) ≡ b
          → map at (counts_from same value k (map of (x ∷ xs))) ≡ map place (filter (λ x. same value (of x)) (x ∷ xs))
      by rest true e =
          ap (λ (b : Bool). map at (if b then k ∷ counts_from same value (k + 1) (map of xs) else counts_from same value (k + 1) (map of xs))) e
          ∙ ap₂ (λ (p : ℕ × ℕ) (ps : List (ℕ × ℕ)). p ∷ ps) h.0 rest
          ∙ sym (ap (λ (b : Bool). map place (cond b (x ∷ filter (λ y. same value (of y)) xs) (filter (λ y. same value (of y)) xs))) e)
      by rest false e =
          ap (λ (b : Bool). map at (if b then k ∷ counts_from same value (k + 1) (map of xs) else counts_from same value (k + 1) (map of xs))) e
          ∙ rest
          ∙ sym (ap (λ (b : Bool). map place (cond b (x ∷ filter (λ y. same value (of y)) xs) (filter (λ y. same value (of y)) xs))) e)

-- ---- counts of more

counts_last : {A : Type 0} (same : A → A → Bool) (value : A) (k : ℕ) (xs : List A) (x : A)
    → counts_from same value k (xs ++ x ∷ []) ≡ counts_from same value k xs ++ (if same value x then (k + length xs) ∷ [] else [])
counts_last same value k [] x = ap (λ (n : ℕ). if same value x then n ∷ [] else []) (omega arith)
counts_last {A} same value k (y ∷ xs) x = by (counts_last same value (k + 1) xs x) (same value y) refl where
  next : (l : List ℕ) → (if same value x then (k + 1 + length xs) ∷ [] else l) ≡ (if same value x then (k + length (y ∷ xs)) ∷ [] else l)
  next l = ap (λ (n : ℕ). if same value x then n ∷ [] else l) (omega arith)

  by : counts_from same value (k + 1) (xs ++ x ∷ [])
      ≡ counts_from same value (k + 1) xs ++ (if same value x then (k + 1 + length xs) ∷ [] else [])
      → (b : Bool) → same value y ≡ b
      → counts_from same value k (y ∷ xs ++ x ∷ [])
      ≡ counts_from same value k (y ∷ xs) ++ (if same value x then (k + length (y ∷ xs)) ∷ [] else [])
  by rest true e =
      ap (λ (b : Bool). if b then k ∷ counts_from same value (k + 1) (xs ++ x ∷ []) else counts_from same value (k + 1) (xs ++ x ∷ [])) e
      ∙ ap (λ (l : List ℕ). k ∷ l) (rest ∙ ap (λ (l : List ℕ). counts_from same value (k + 1) xs ++ l) (next []))
      ∙ sym (ap (λ (b : Bool). (if b then k ∷ counts_from same value (k + 1) xs else counts_from same value (k + 1) xs)
      ++ (if same value x then (k + length (y ∷ xs)) ∷ [] else [])) e)
  by rest false e =
      ap (λ (b : Bool). if b then k ∷ counts_from same value (k + 1) (xs ++ x ∷ []) else counts_from same value (k + 1) (xs ++ x ∷ [])) e
      ∙ rest ∙ ap (λ (l : List ℕ). counts_from same value (k + 1) xs ++ l) (next [])
      ∙ sym (ap (λ (b : Bool). (if b then k ∷ counts_from same value (k + 1) xs else counts_from same value (k + 1) xs)
      ++ (if same value x then (k + length (y ∷ xs)) ∷ [] else [])) e)

-- before the first transaction
pub counted_none : {A : Type 0} (same : A → A → Bool) (listed : List A) (firsts : List ℕ) → length firsts ≡ length listed
    → ((i : ℕ) → i < length listed → get_or firsts i 0 ≡ 0) → HasCounted same listed [] firsts []
counted_none same listed firsts sized zeros = record {
  sized = sized;
  counts = λ i d lt. ap (λ (n : ℕ). counts_after n []) (zeros i lt);
  none = λ i e. refl;
}

module _ {A : Type 0} (same : A → A → Bool) (listed xs : List A) (firsts : List ℕ) (further : List Further) (x : A) where
  -- one comes that isn't in the list
  pub counted_other : ((i : ℕ) (d : A) → i < length listed → same (get_or listed i d) x ≡ false)
      → HasCounted same listed xs firsts further → HasCounted same listed (xs ++ x ∷ []) firsts further
  counted_other others h = record {
    sized = h.sized;
    counts = λ i d lt. h.counts i d lt ∙ sym (counts_last same (get_or listed i d) 1 xs x
        ∙ ap (λ (b : Bool). counts_from same (get_or listed i d) 1 xs ++ (if b then (1 + length xs) ∷ [] else [])) (others i d lt)
        ∙ append-nil (counts_from same (get_or listed i d) 1 xs));
    none = h.none;
  }

  module _ (at n : ℕ) (is : n ≡ length xs + 1) (within : at < length listed)
      (here : (d : A) → same (get_or listed at d) x ≡ true)
      (others : (i : ℕ) (d : A) → i < length listed → eqb i at ≡ false → same (get_or listed i d) x ≡ false)
      (h : HasCounted same listed xs firsts further) where
    room : at < length firsts
    room = omega (arith, within, h.sized)

    last_here : (d : A) → counts_from same (get_or listed at d) 1 (xs ++ x ∷ []) ≡ counts_from same (get_or listed at d) 1 xs ++ n ∷ []
    last_here d =
        counts_last same (get_or listed at d) 1 xs x
        ∙ ap (λ (b : Bool). counts_from same (get_or listed at d) 1 xs ++ (if b then (1 + length xs) ∷ [] else [])) (here d)
        ∙ ap (λ (m : ℕ). counts_from same (get_or listed at d) 1 xs ++ m ∷ []) (omega (arith, is))

    last_other : (i : ℕ) (d : A) → i < length listed → eqb i at ≡ false
        → counts_from same (get_or listed i d) 1 (xs ++ x ∷ []) ≡ counts_from same (get_or listed i d) 1 xs
    last_other i d lt apart =
        counts_last same (get_or listed i d) 1 xs x
        ∙ ap (λ (b : Bool). counts_from same (get_or listed i d) 1 xs ++ (if b then (1 + length xs) ∷ [] else [])) (others i d lt apart)
        ∙ append-nil (counts_from same (get_or listed i d) 1 xs)

    some : (m : ℕ) (l : List ℕ) → 0 < m → counts_after m l ≡ m ∷ l
    some zero l lt = absurd (omega (arith, lt))
    some (suc m) l lt = ap (λ (b : Bool). if b then [] else suc m ∷ l) (never (suc m) (omega arith)) where
      never : (k : ℕ) → 0 < k → (k == 0) ≡ false
      never k lt = by (eqb k 0) refl where
        by : (b : Bool) → eqb k 0 ≡ b → b ≡ false
        by false e = refl
        by true e = absurd (omega (arith, lt, eqb-true k 0 e))

    -- it is the first
    first : get_or firsts at 0 ≡ 0 → HasCounted same listed (xs ++ x ∷ []) (set firsts at n) further
    first none = record {
      sized = length-set firsts at n ∙ h.sized;
      counts = λ i d lt. counts i d lt (eqb i at) refl;
      none = λ i e. still i e (eqb i at) refl;
    } where
      counts : (i : ℕ) (d : A) → i < length listed → (b : Bool) → eqb i at ≡ b
          → counted_at (set firsts at n) further i ≡ counts_from same (get_or listed i d) 1 (xs ++ x ∷ [])
      counts i d lt true q =
          let same_place : i ≡ at = eqb-true i at q in
          subst (λ (j : ℕ). counted_at (set firsts at n) further j ≡ counts_from same (get_or listed j d) 1 (xs ++ x ∷ [])) (sym same_place)
          (ap (λ (m : ℕ). counts_after m (map (λ f. f.count) (further_of at further))) (get_or-set_same firsts at n 0 room)
          ∙ some n (map (λ f. f.count) (further_of at further)) (omega (arith, is))
          ∙ ap (λ (l : List Further). n ∷ map (λ f. f.count) l) (h.none at none)
          ∙ sym (last_here d ∙ ap (λ (l : List ℕ). l ++ n ∷ [])
          (sym (h.counts at d within) ∙ ap (λ (m : ℕ). counts_after m (map (λ f. f.count) (further_of at further))) none)))
      counts i d lt false q =
          ap (λ (m : ℕ). counts_after m (map (λ f. f.count) (further_of i further))) (get_or-set_other firsts at i n 0 (eqb-false i at q))
          ∙ h.counts i d lt ∙ sym (last_other i d lt q)

      still : (i : ℕ) → get_or (set firsts at n) i 0 ≡ 0 → (b : Bool) → eqb i at ≡ b → further_of i further ≡ []
      still i e true q =
          absurd (omega (arith, is, e, ap (λ (j : ℕ). get_or (set firsts at n) j 0) (eqb-true i at q), get_or-set_same firsts at n 0 room))
      still i e false q = h.none i (sym (get_or-set_other firsts at i n 0 (eqb-false i at q)) ∙ e)

    -- it isn't
    next : (get_or firsts at 0 ≡ 0 → ⊥)
        → HasCounted same listed (xs ++ x ∷ []) firsts (further ++ record { number = at; count = n } ∷ [])
    next some_first = record {
      sized = h.sized;
      counts = λ i d lt. counts i d lt (eqb i at) refl;
      none = λ i e. still i e (eqb i at) refl;
    } where
      f : Further
      f = record { number = at; count = n }

      more : (i : ℕ) → further_of i (further ++ f ∷ []) ≡ further_of i further ++ further_of i (f ∷ [])
      more i = filter-append (λ g. g.number == i) further (f ∷ [])

      turned : (i : ℕ) (b : Bool) → eqb i at ≡ b → (at == i) ≡ b
      turned i true q = by (eqb at i) refl where
        by : (b : Bool) → eqb at i ≡ b → b ≡ true
        by true e = refl
        by false e = absurd (eqb-false at i e (sym (eqb-true i at q)))
      turned i false q = by (eqb at i) refl where
        by : (b : Bool) → eqb at i ≡ b → b ≡ false
        by false e = refl
        by true e = absurd (eqb-false i at q (sym (eqb-true at i e)))

      other_more : (i : ℕ) → eqb i at ≡ false → further_of i (further ++ f ∷ []) ≡ further_of i further
      other_more i q =
          more i ∙ ap (λ (b : Bool). further_of i further ++ cond b (f ∷ []) []) (turned i false q) ∙ append-nil (further_of i further)

      after_some : (m : ℕ) (l : List ℕ) → (m ≡ 0 → ⊥) → counts_after m (l ++ n ∷ []) ≡ counts_after m l ++ n ∷ []
      after_some m l ne = some m (l ++ n ∷ []) (omega (arith, ne)) ∙ sym (ap (λ (k : List ℕ). k ++ n ∷ []) (some m l (omega (arith, ne))))

      counts : (i : ℕ) (d : A) → i < length listed → (b : Bool) → eqb i at ≡ b
          → counted_at firsts (further ++ f ∷ []) i ≡ counts_from same (get_or listed i d) 1 (xs ++ x ∷ [])
      counts i d lt true q =
          subst (λ (j : ℕ). counted_at firsts (further ++ f ∷ []) j ≡ counts_from same (get_or listed j d) 1 (xs ++ x ∷ []))
          (sym (eqb-true i at q))
          (ap (λ (l : List Further). counts_after (get_or firsts at 0) (map (λ g. g.count) l))
          (more at ∙ ap (λ (b : Bool). further_of at further ++ cond b (f ∷ []) []) (itself at))
          ∙ ap (counts_after (get_or firsts at 0)) (map-append (λ g. g.count) (further_of at further) (f ∷ []))
          ∙ after_some (get_or firsts at 0) (map (λ g. g.count) (further_of at further)) some_first
          ∙ ap (λ (l : List ℕ). l ++ n ∷ []) (h.counts at d within) ∙ sym (last_here d))
        where
          itself : (j : ℕ) → (j == j) ≡ true
          itself j = by (eqb j j) refl where
            by : (b : Bool) → eqb j j ≡ b → b ≡ true
            by true e = refl
            by false e = absurd (eqb-false j j e refl)
      counts i d lt false q =
          ap (λ (l : List Further). counts_after (get_or firsts i 0) (map (λ g. g.count) l)) (other_more i q)
          ∙ h.counts i d lt ∙ sym (last_other i d lt q)

      still : (i : ℕ) → get_or firsts i 0 ≡ 0 → (b : Bool) → eqb i at ≡ b → further_of i (further ++ f ∷ []) ≡ []
      still i e true q = absurd (some_first (ap (λ (j : ℕ). get_or firsts j 0) (sym (eqb-true i at q)) ∙ e))
      still i e false q = other_more i q ∙ h.none i e

    -- one comes that is in the list
    pub counted_more : HasCounted same listed (xs ++ x ∷ []) (firsts_noted at n firsts) (further_noted at n firsts further)
    counted_more = by (eqb (get_or firsts at 0) 0) refl where
      by : (b : Bool) → eqb (get_or firsts at 0) 0 ≡ b
          → HasCounted same listed (xs ++ x ∷ []) (firsts_noted at n firsts) (further_noted at n firsts further)
      by true e =
          subst (λ (b : Bool). HasCounted same listed (xs ++ x ∷ []) (if b then set firsts at n else firsts)
          (if b then further else further ++ record { number = at; count = n } ∷ [])) (sym e) (first (eqb-true (get_or firsts at 0) 0 e))
      by false e =
          subst (λ (b : Bool). HasCounted same listed (xs ++ x ∷ []) (if b then set firsts at n else firsts)
          (if b then further else further ++ record { number = at; count = n } ∷ [])) (sym e) (next (eqb-false (get_or firsts at 0) 0 e))

-- What is noted of the values of lists while others come, one after another.
use Rattle.std.proofs.Common.{◌≡◌, ◌≢◌, ◌==◌, ℕ, zero, suc, ◌<◌, Bool, true, false, not, ◌&&◌, ◌||◌, eqb, ltb, List, [], ◌∷◌, ◌++◌, length, map, set, get_or, Option, Some, None, refl, sym, ap, ap₂, subst, ◌∙◌, arith, true≢false}
use Rattle.std.specs.Prelude.{option_map}
use Rattle.std.specs.Cmp.{IsEquivalence}
use Rattle.std.specs.List.{HoldsAt, IsDistinct, list_any}
use Rattle.std.specs.Str.{bytes_eq}
use Rattle.std.proofs.lemmas.Bool.{eqb-true, eqb-false, false_from_ne_true, ltb-true, ltb-false}
use Rattle.std.proofs.lemmas.Cmp.{nat_list_eq_equiv}
use Rattle.std.proofs.Math.Dec.{eqb-suc-zero}
use Rattle.std.proofs.lemmas.List.{length-set, get_or-map, get_or-set_same, get_or-set_other, map-append, map-set, set-get_or}
use Rattle.std.proofs.lemmas.List.Folds.{list_any-append, list_any_at}
use Rattle.std.proofs.lemmas.Map.Keys.{apart_from_distinct}
use Rattle.cwr_transform.specs.declared.sought.Sought.{Sought}
use Rattle.cwr_transform.specs.declared.sought.SoughtNumbers.{SoughtNumbers}
use Rattle.cwr_transform.specs.declared.sought.SoughtPlaces.{SoughtPlaces}
use Rattle.cwr_transform.specs.Format.Missing.{Placed, lacks_one, numbers_of, places_of, same_place}
use Rattle.cwr_transform.specs.Steps.Sought.{AreNoted, FindsNumbers, HasNoted, NotesNumbers, NotesPlaces, lacks_noted, lacks_number, lacks_place, lacks_sought, noted_numbers, numbers_sought, places_sought}

-- ---- one list

found_last : (a b : Bool) → b ≡ true → (a || (b || false)) ≡ true
found_last true b e = refl
found_last false true e = refl
found_last false false e = absurd (true≢false (sym e))

not_last : (a b : Bool) → b ≡ false → (a || (b || false)) ≡ a
not_last true b e = refl
not_last false false e = refl
not_last false true e = absurd (true≢false e)

module _ {A : Type 0} (same : A → A → Bool) (e : IsEquivalence same) (listed : List A) where
  -- another value of the list isn't the one that comes
  pub other_value : (x : A) (i at : ℕ) (d : A) → IsDistinct same listed → i < length listed → at < length listed
      → same (get_or listed at d) x ≡ true → (eqb i at) ≡ false → same (get_or listed i d) x ≡ false
  other_value x i at d distinct lt within here ne = by (ltb i at) refl where
    at_so : same (get_or listed at d) (get_or listed i d) ≡ false → same (get_or listed i d) x ≡ false
    at_so h = e.symm (get_or listed i d) x ∙ sym (e.congr (get_or listed at d) x (get_or listed i d) here) ∙ h

    by : (b : Bool) → ltb i at ≡ b → same (get_or listed i d) x ≡ false
    by true h =
        at_so (e.symm (get_or listed at d) (get_or listed i d)
        ∙ apart_from_distinct same listed i at d distinct (ltb-true i at h) within)
    by false h =
        let above : at < i = omega (arith, ltb-false i at h, eqb-false i at ne) in
        at_so (apart_from_distinct same listed at i d distinct above lt)

  -- one that is in the list is noted
  pub found_more : (noted : List Bool) (found : List A) (x : A) (at : ℕ) → at < length listed
      → HoldsAt (λ y. same y x ≡ true) listed at → AreNoted same listed noted found
      → AreNoted same listed (set noted at true) (found ++ x ∷ [])
  found_more noted found x at within here h = record {
    distinct = h.distinct;
    sized = length-set noted at true ∙ h.sized;
    right = λ i d lt. by i d lt (eqb i at) refl;
  } where
    by : (i : ℕ) (d : A) → i < length listed → (b : Bool) → eqb i at ≡ b
        → get_or (set noted at true) i false ≡ list_any (same (get_or listed i d)) (found ++ x ∷ [])
    by i d lt true q =
        let is : i ≡ at = eqb-true i at q in
        let room : at < length noted = omega (arith, within, h.sized) in
        let now : same (get_or listed i d) x ≡ true =
        subst (λ (k : ℕ). same (get_or listed k d) x ≡ true) (sym is) (here d) in
        ap (λ (k : ℕ). get_or (set noted at true) k false) is ∙ get_or-set_same noted at true false room
        ∙ sym (list_any-append (same (get_or listed i d)) found (x ∷ [])
        ∙ found_last (list_any (same (get_or listed i d)) found) (same (get_or listed i d) x) now)
    by i d lt false q =
        let apart : i ≢ at = eqb-false i at q in
        get_or-set_other noted at i true false apart ∙ h.right i d lt
        ∙ sym (list_any-append (same (get_or listed i d)) found (x ∷ [])
        ∙ not_last (list_any (same (get_or listed i d)) found) (same (get_or listed i d) x)
        (other_value x i at d h.distinct lt within (here d) q))

  -- one that isn't changes nothing
  pub found_none : (noted : List Bool) (found : List A) (x : A) → list_any (λ y. same y x) listed ≡ false
      → AreNoted same listed noted found → AreNoted same listed noted (found ++ x ∷ [])
  found_none noted found x none h = record {
    distinct = h.distinct;
    sized = h.sized;
    right = λ i d lt. h.right i d lt
        ∙ sym (list_any-append (same (get_or listed i d)) found (x ∷ [])
        ∙ not_last (list_any (same (get_or listed i d)) found) (same (get_or listed i d) x) (by i d lt (same (get_or listed i d) x) refl));
  } where
    by : (i : ℕ) (d : A) → i < length listed → (b : Bool) → same (get_or listed i d) x ≡ b → same (get_or listed i d) x ≡ false
    by i d lt false q = q
    by i d lt true q = absurd (true≢false (sym (list_any_at (λ y. same y x) listed i d lt q) ∙ none))

  any_same : (x y : A) → same x y ≡ true → (xs : List A) → list_any (same x) xs ≡ list_any (same y) xs
  any_same x y h [] = refl
  any_same x y h (z ∷ xs) = ap₂ (λ (b c : Bool). b || c) (e.congr x y z h) (any_same x y h xs)

  -- whether one that is in the list came before
  pub came_before : (noted : List Bool) (found : List A) (x : A) (at : ℕ) → at < length listed
      → HoldsAt (λ y. same y x ≡ true) listed at → AreNoted same listed noted found → get_or noted at false ≡ list_any (same x) found
  came_before noted found x at within here h =
      h.right at x within ∙ any_same (get_or listed at x) x (here x) found

  -- it did, so nothing is noted
  pub came_again : (noted : List Bool) (found : List A) (x : A) (at : ℕ) → at < length listed
      → HoldsAt (λ y. same y x ≡ true) listed at → get_or noted at false ≡ true → AreNoted same listed noted found
      → (false ≡ not (list_any (same x) found)) × AreNoted same listed noted (found ++ x ∷ [])
  came_again noted found x at within here so h = (
    ap not (sym so ∙ came_before noted found x at within here h),
    subst (λ (l : List Bool). AreNoted same listed l (found ++ x ∷ []))
        (ap (set noted at) (sym so) ∙ set-get_or noted at false) (found_more noted found x at within here h),
  )

  -- it didn't
  pub came_first : (noted : List Bool) (found : List A) (x : A) (at : ℕ) → at < length listed
      → HoldsAt (λ y. same y x ≡ true) listed at → get_or noted at false ≡ false → AreNoted same listed noted found
      → (true ≡ not (list_any (same x) found)) × AreNoted same listed (set noted at true) (found ++ x ∷ [])
  came_first noted found x at within here so h =
      (ap not (sym so ∙ came_before noted found x at within here h), found_more noted found x at within here h)

  -- nothing is noted so far
  pub noted_none : (noted : List Bool) → IsDistinct same listed → length noted ≡ length listed
      → ((i : ℕ) → i < length listed → get_or noted i false ≡ false) → AreNoted same listed noted []
  noted_none noted distinct sized none = record { distinct = distinct; sized = sized; right = λ i d lt. none i lt }

any_alike : {A B : Type 0} (p : A → Bool) (q : B → Bool) (xs : List A) (ys : List B) (a : A) → length xs ≡ length ys
    → ((i : ℕ) (d : B) → i < length ys → p (get_or xs i a) ≡ q (get_or ys i d)) → list_any p xs ≡ list_any q ys
any_alike p q [] [] a e h = refl
any_alike p q [] (y ∷ ys) a e h = absurd (omega (arith, e))
any_alike p q (x ∷ xs) [] a e h = absurd (omega (arith, e))
any_alike p q (x ∷ xs) (y ∷ ys) a e h =
    ap₂ (λ (b c : Bool). b || c) (h zero y (omega arith))
    (any_alike p q xs ys a (omega (arith, e)) (λ i d lt. h (suc i) d (omega (arith, lt))))

-- a value of the list is none of them exactly where one isn't noted
pub lacks_so : {A : Type 0} (same : A → A → Bool) (listed : List A) (noted : List Bool) (found : List A) → AreNoted same listed noted found
    → lacks_noted noted ≡ lacks_one same (Some listed) found
lacks_so same listed noted found h =
    any_alike (λ b. not b) (λ value. not (list_any (same value) found)) noted listed false h.sized
    (λ i d lt. ap not (h.right i d lt))

-- ---- counts

not_not : (b : Bool) → b ≡ not (not b)
not_not true = refl
not_not false = refl

-- a number isn't noted where its count is 0
pub lacks_zero : (firsts : List ℕ) → list_any (λ first. first == 0) firsts ≡ lacks_noted (map (λ first. not (first == 0)) firsts)
lacks_zero [] = refl
lacks_zero (first ∷ firsts) = ap₂ (λ (b c : Bool). b || c) (not_not (first == 0)) (lacks_zero firsts)

not_zero : (n : ℕ) → 0 < n → not (n == 0) ≡ true
not_zero zero h = absurd (omega (arith, h))
not_zero (suc n) h = ap not (eqb-suc-zero n)

pub noted_more : (firsts : List ℕ) (at count : ℕ) → 0 < count
    → map (λ first. not (first == 0)) (set firsts at count) ≡ set (map (λ first. not (first == 0)) firsts) at true
noted_more firsts at count some =
    map-set (λ first. not (first == 0)) firsts at count
    ∙ ap (set (map (λ first. not (first == 0)) firsts) at) (not_zero count some)

pub noted_before : (firsts : List ℕ) (at first : ℕ) → at < length firsts → first ≡ get_or firsts at 0 → (first ≡ 0 → ⊥)
    → map (λ first. not (first == 0)) firsts ≡ set (map (λ first. not (first == 0)) firsts) at true
noted_before firsts at first within is ne =
    let some : (get_or firsts at 0 == 0) ≡ false =
    false_from_ne_true (get_or firsts at 0 == 0) (λ e. ne (is ∙ eqb-true (get_or firsts at 0) 0 e)) in
    let xs = map (λ (first : ℕ). not (first == 0)) firsts in
    let here : get_or xs at false ≡ true =
    get_or-map (λ first. not (first == 0)) firsts at 0 false within ∙ ap not some in
    sym (ap (set xs at) (sym here) ∙ set-get_or xs at false)

-- ---- both

pub place_equiv : IsEquivalence same_place
place_equiv = record {
  refl = λ x. ap₂ (λ (b c : Bool). b && c) (itself x.0) (itself x.1);
  symm = λ x y. ap₂ (λ (b c : Bool). b && c) (turned x.0 y.0) (turned x.1 y.1);
  congr = λ x y z h. let both = parts (x.0 == y.0) (x.1 == y.1) h in
      ap₂ (λ (b c : Bool). b && c) (ap (λ (n : ℕ). n == z.0) (eqb-true x.0 y.0 both.0)) (ap (λ (n : ℕ). n == z.1) (eqb-true x.1 y.1 both.1));
} where
  itself : (n : ℕ) → (n == n) ≡ true
  itself n = by (eqb n n) refl where
    by : (b : Bool) → eqb n n ≡ b → b ≡ true
    by true h = refl
    by false h = absurd (eqb-false n n h refl)

  turned : (n m : ℕ) → (n == m) ≡ (m == n)
  turned n m = by (eqb n m) (eqb m n) refl refl where
    by : (b c : Bool) → eqb n m ≡ b → eqb m n ≡ c → b ≡ c
    by true true h k = refl
    by false false h k = refl
    by true false h k = absurd (eqb-false m n k (sym (eqb-true n m h)))
    by false true h k = absurd (eqb-false n m h (sym (eqb-true m n k)))

  parts : (b c : Bool) → (b && c) ≡ true → (b ≡ true) × (c ≡ true)
  parts true true h = (refl, refl)
  parts true false h = absurd (true≢false (sym h))
  parts false c h = absurd (true≢false (sym h))

pub bytes_equiv : IsEquivalence bytes_eq
bytes_equiv = nat_list_eq_equiv

one_number : (ps : List Placed) (p : Placed) → numbers_of (ps ++ p ∷ []) ≡ numbers_of ps ++ numbers_of (p ∷ [])
one_number ps p = map-append _ ps (p ∷ [])

one_place : (ps : List Placed) (p : Placed) → places_of (ps ++ p ∷ []) ≡ places_of ps ++ places_of (p ∷ [])
one_place ps p = map-append _ ps (p ∷ [])

pub lacks_numbers : (listed : Option (List (List ℕ))) (ps : List Placed) (s : Option SoughtNumbers) → NotesNumbers listed ps s
    → lacks_number s ≡ lacks_one bytes_eq listed (numbers_of ps)
lacks_numbers None ps None h = refl
lacks_numbers None ps (Some s) h = absurd h
lacks_numbers (Some listed) ps None h = absurd h
lacks_numbers (Some listed) ps (Some s) h = lacks_so bytes_eq listed (noted_numbers s) (numbers_of ps) h.1

pub lacks_places : (listed : Option (List (ℕ × ℕ))) (ps : List Placed) (s : Option SoughtPlaces) → NotesPlaces listed ps s
    → lacks_place s ≡ lacks_one same_place listed (places_of ps)
lacks_places None ps None h = refl
lacks_places None ps (Some s) h = absurd h
lacks_places (Some listed) ps None h = absurd h
lacks_places (Some listed) ps (Some s) h = lacks_so same_place listed s.found.items (places_of ps) h.1

-- something of the lists is missing exactly where it is noted so
pub lacks_right : (numbers : Option (List (List ℕ))) (places : Option (List (ℕ × ℕ))) (group place : ℕ) (ps : List Placed) (s : Sought)
    → HasNoted numbers places group place ps s
    → lacks_sought s ≡ (lacks_one bytes_eq numbers (numbers_of ps) || lacks_one same_place places (places_of ps))
lacks_right numbers places group place ps s h =
    ap₂ (λ (b c : Bool). b || c) (lacks_numbers numbers ps s.numbers h.numbers_are) (lacks_places places ps s.places h.places_are)

-- ---- a transaction more

pub number_more : (listed : Option (List (List ℕ))) (ps : List Placed) (p : Placed) (old new : SoughtNumbers)
    → new.listed ≡ old.listed
    → ((xs : List (List ℕ)) → AreNoted bytes_eq old.listed.now (noted_numbers old) xs
    → AreNoted bytes_eq old.listed.now (noted_numbers new) (xs ++ numbers_of (p ∷ [])))
    → NotesNumbers listed ps (Some old) → NotesNumbers listed (ps ++ p ∷ []) (Some new)
number_more None ps p old new kept step h = absurd h
number_more (Some listed) ps p old new kept step h = (
  ap (λ l. l.now) kept ∙ h.0,
  subst (λ (xs : List (List ℕ)). AreNoted bytes_eq listed (noted_numbers new) xs) (sym (one_number ps p))
      (subst (λ (l : List (List ℕ)). AreNoted bytes_eq l (noted_numbers new) (numbers_of ps ++ numbers_of (p ∷ []))) h.0
      (step (numbers_of ps) (subst (λ (l : List (List ℕ)). AreNoted bytes_eq l (noted_numbers old) (numbers_of ps)) (sym h.0) h.1))),
)

pub place_more : (listed : Option (List (ℕ × ℕ))) (ps : List Placed) (p : Placed) (old new : SoughtPlaces)
    → new.listed ≡ old.listed
    → ((xs : List (ℕ × ℕ)) → AreNoted same_place old.listed.now old.found.items xs
    → AreNoted same_place old.listed.now new.found.items (xs ++ places_of (p ∷ [])))
    → NotesPlaces listed ps (Some old) → NotesPlaces listed (ps ++ p ∷ []) (Some new)
place_more None ps p old new kept step h = absurd h
place_more (Some listed) ps p old new kept step h = (
  ap (λ l. l.now) kept ∙ h.0,
  subst (λ (xs : List (ℕ × ℕ)). AreNoted same_place listed new.found.items xs) (sym (one_place ps p))
      (subst (λ (l : List (ℕ × ℕ)). AreNoted same_place l new.found.items (places_of ps ++ places_of (p ∷ []))) h.0
      (step (places_of ps) (subst (λ (l : List (ℕ × ℕ)). AreNoted same_place l old.found.items (places_of ps)) (sym h.0) h.1))),
)

-- where a group opens
pub numbers_kept : (listed : Option (List (List ℕ))) (ps : List Placed) (old new : SoughtNumbers) → new.listed ≡ old.listed
    → noted_numbers new ≡ noted_numbers old → NotesNumbers listed ps (Some old) → NotesNumbers listed ps (Some new)
numbers_kept None ps old new kept same h = absurd h
numbers_kept (Some listed) ps old new kept same h =
    (ap (λ l. l.now) kept ∙ h.0, subst (λ (noted : List Bool). AreNoted bytes_eq listed noted (numbers_of ps)) (sym same) h.1)

-- ---- the lists that are sought

pub numbers_listed : (listed : Option (List (List ℕ))) (ps : List Placed) (s : Option SoughtNumbers) → NotesNumbers listed ps s
    → option_map (λ n. n.listed.now) s ≡ listed
numbers_listed None ps None h = refl
numbers_listed None ps (Some s) h = absurd h
numbers_listed (Some listed) ps None h = absurd h
numbers_listed (Some listed) ps (Some s) h = ap Some h.0

pub places_listed : (listed : Option (List (ℕ × ℕ))) (ps : List Placed) (s : Option SoughtPlaces) → NotesPlaces listed ps s
    → option_map (λ p. p.listed.now) s ≡ listed
places_listed None ps None h = refl
places_listed None ps (Some s) h = absurd h
places_listed (Some listed) ps None h = absurd h
places_listed (Some listed) ps (Some s) h = ap Some h.0

pub noted_so : (numbers : Option (List (List ℕ))) (places : Option (List (ℕ × ℕ))) (group place : ℕ) (ps : List Placed) (s : Sought)
    → NotesNumbers numbers ps s.numbers → NotesPlaces places ps s.places → FindsNumbers numbers group place ps s.numbers
    → HasNoted (numbers_sought s) (places_sought s) group place ps s
noted_so numbers places group place ps s h k f = record {
  numbers_are = subst (λ (l : Option (List (List ℕ))). NotesNumbers l ps s.numbers) (sym (numbers_listed numbers ps s.numbers h)) h;
  places_are = subst (λ (l : Option (List (ℕ × ℕ))). NotesPlaces l ps s.places) (sym (places_listed places ps s.places k)) k;
  found = subst (λ (l : Option (List (List ℕ))). FindsNumbers l group place ps s.numbers) (sym (numbers_listed numbers ps s.numbers h)) f;
}

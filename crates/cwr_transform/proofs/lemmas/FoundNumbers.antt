-- It is known where the transactions stand that have a number of a list, while others come.
use Rattle.std.proofs.Common.{◌≡◌, ℕ, ◌+◌, ◌-◌, ◌^◌, ◌<◌, Bool, true, false, List, [], ◌∷◌, ◌++◌, length, map, get_or, min, Option, Some, None, refl, sym, ap, subst, ◌∙◌, arith, true≢false}
use Rattle.std.specs.List.{HoldsAt, IsDistinct, list_any}
use Rattle.std.specs.Str.{bytes_eq}
use Rattle.std.proofs.lemmas.List.{length_push, map-append}
use Rattle.std.proofs.lemmas.List.Folds.{list_any_at}
use Rattle.cwr_transform.specs.declared.sought.Further.{Further}
use Rattle.cwr_transform.specs.declared.sought.SoughtNumbers.{SoughtNumbers}
use Rattle.cwr_transform.specs.Format.Missing.{Placed, numbers_of, places_of}
use Rattle.cwr_transform.specs.Steps.Found.{HasCounted, HasPlaced, counts_after, firsts_noted, further_noted, further_of}
use Rattle.cwr_transform.specs.Steps.Sought.{FindsNumbers, NotesNumbers, has_found}
use Rattle.cwr_transform.proofs.lemmas.FoundPlaces.{counted_more, counted_none, counted_other, placed_group, placed_more, placed_none}
use Rattle.cwr_transform.proofs.lemmas.SoughtValues.{bytes_equiv, other_value}

-- before the first transaction
pub found_none : (listed : List (List ℕ)) (s : SoughtNumbers) → s.count ≡ 0 → s.further.items ≡ [] → s.starts.items ≡ []
    → length s.firsts.items ≡ length listed → ((i : ℕ) → i < length listed → get_or s.firsts.items i 0 ≡ 0)
    → has_found listed [] [] 0 0 s
found_none listed s count further starts sized zeros = λ kept few. record {
  count_is = count;
  even = refl;
  counted = subst (λ (l : List Further). HasCounted bytes_eq listed [] s.firsts.items l) (sym further)
      (counted_none bytes_eq listed s.firsts.items sized zeros);
  placed = subst (λ (l : List ℕ). HasPlaced [] 0 0 l) (sym starts) placed_none;
}

module _ (listed numbers : List (List ℕ)) (places : List (ℕ × ℕ)) (group place : ℕ) (old new : SoughtNumbers) where
  -- a group opens
  pub found_group : new.count ≡ old.count → new.firsts ≡ old.firsts → new.further ≡ old.further
      → (new.lacks_memory ≡ false → old.lacks_memory ≡ false)
      → (new.lacks_memory ≡ false → new.starts.items ≡ old.starts.items ++ old.count ∷ [])
      → has_found listed numbers places group place old → has_found listed numbers places (group + 1) 0 new
  found_group count firsts further memory starts h = λ kept few.
      let k = h (memory kept) few in
      record {
        count_is = count ∙ k.count_is;
        even = k.even;
        counted = subst (λ (l : List ℕ). HasCounted bytes_eq listed numbers l new.further.items) (sym (ap (λ v. v.items) firsts))
            (subst (λ (l : List Further). HasCounted bytes_eq listed numbers old.firsts.items l) (sym (ap (λ v. v.items) further)) k.counted);
        placed = subst (λ (l : List ℕ). HasPlaced places (group + 1) 0 l)
            (ap (λ (n : ℕ). old.starts.items ++ n ∷ []) (k.even ∙ sym k.count_is) ∙ sym (starts kept))
            (placed_group places group place old.starts.items k.placed);
      }

  -- no transaction comes any more
  pub found_still : new.count ≡ old.count → new.firsts ≡ old.firsts
      → ((at : ℕ) → further_of at new.further.items ≡ further_of at old.further.items)
      → new.starts ≡ old.starts → (new.lacks_memory ≡ false → old.lacks_memory ≡ false)
      → has_found listed numbers places group place old → has_found listed numbers places group place new
  found_still count firsts further starts memory h = λ kept few.
      let k = h (memory kept) few in
      record {
        count_is = count ∙ k.count_is;
        even = k.even;
        counted = subst (λ (l : List ℕ). HasCounted bytes_eq listed numbers l new.further.items) (sym (ap (λ v. v.items) firsts)) (record {
          sized = k.counted.sized;
          counts = λ i d lt. ap (λ (l : List Further). counts_after (get_or old.firsts.items i 0) (map (λ f. f.count) l)) (further i)
              ∙ k.counted.counts i d lt;
          none = λ i e. further i ∙ k.counted.none i e;
        });
        placed = subst (λ (l : List ℕ). HasPlaced places group place l) (sym (ap (λ v. v.items) starts)) k.placed;
      }

  counted_up : (count : ℕ) → count ≡ min (old.count + 1) (2 ^ 32 - 1) → old.count ≡ length numbers → length numbers < 2 ^ 31
      → count ≡ length numbers + 1
  counted_up count e is few = omega (arith, e, is, few)

  -- a transaction comes that has a number of the list
  pub found_listed : (number : List ℕ) (at count : ℕ) → count ≡ min (old.count + 1) (2 ^ 32 - 1) → new.count ≡ count
      → new.firsts.items ≡ firsts_noted at count old.firsts.items
      → (new.lacks_memory ≡ false → new.further.items ≡ further_noted at count old.firsts.items old.further.items)
      → (new.lacks_memory ≡ false → old.lacks_memory ≡ false) → new.starts ≡ old.starts → at < length listed
      → HoldsAt (λ y. bytes_eq y number ≡ true) listed at → IsDistinct bytes_eq listed
      → has_found listed numbers places group place old
      → has_found listed (numbers ++ number ∷ []) (places ++ (group, place) ∷ []) group (place + 1) new
  found_listed number at count up same firsts further memory starts within here distinct h = λ kept few.
      let fewer : length numbers < 2 ^ 31 = omega (arith, few, length_push numbers number) in
      let k = h (memory kept) fewer in
      let next : count ≡ length numbers + 1 = counted_up count up k.count_is fewer in
      record {
        count_is = same ∙ next ∙ sym (length_push numbers number);
        even = length_push places (group, place) ∙ ap (λ (n : ℕ). n + 1) k.even ∙ sym (length_push numbers number);
        counted = subst (λ (l : List ℕ). HasCounted bytes_eq listed (numbers ++ number ∷ []) l new.further.items) (sym firsts)
            (subst (λ (l : List Further). HasCounted bytes_eq listed (numbers ++ number ∷ []) (firsts_noted at count old.firsts.items) l)
            (sym (further kept))
            (counted_more bytes_eq listed numbers old.firsts.items old.further.items number at count next within here
            (λ i d lt apart. other_value bytes_eq bytes_equiv listed number i at d distinct lt within (here d) apart) k.counted));
        placed = subst (λ (l : List ℕ). HasPlaced (places ++ (group, place) ∷ []) group (place + 1) l) (sym (ap (λ v. v.items) starts))
            (placed_more places group place old.starts.items k.placed);
      }

  -- one comes that has none
  pub found_unlisted : (number : List ℕ) → new.count ≡ min (old.count + 1) (2 ^ 32 - 1) → new.firsts ≡ old.firsts
      → new.further ≡ old.further → (new.lacks_memory ≡ false → old.lacks_memory ≡ false) → new.starts ≡ old.starts
      → list_any (λ y. bytes_eq y number) listed ≡ false → has_found listed numbers places group place old
      → has_found listed (numbers ++ number ∷ []) (places ++ (group, place) ∷ []) group (place + 1) new
  found_unlisted number up firsts further memory starts none h = λ kept few.
      let fewer : length numbers < 2 ^ 31 = omega (arith, few, length_push numbers number) in
      let k = h (memory kept) fewer in
      record {
        count_is = counted_up new.count up k.count_is fewer ∙ sym (length_push numbers number);
        even = length_push places (group, place) ∙ ap (λ (n : ℕ). n + 1) k.even ∙ sym (length_push numbers number);
        counted = subst (λ (l : List ℕ). HasCounted bytes_eq listed (numbers ++ number ∷ []) l new.further.items) (sym (ap (λ v. v.items) firsts))
            (subst (λ (l : List Further). HasCounted bytes_eq listed (numbers ++ number ∷ []) old.firsts.items l)
            (sym (ap (λ v. v.items) further))
            (counted_other bytes_eq listed numbers old.firsts.items old.further.items number
            (λ i d lt. by i d lt (bytes_eq (get_or listed i d) number) refl) k.counted));
        placed = subst (λ (l : List ℕ). HasPlaced (places ++ (group, place) ∷ []) group (place + 1) l) (sym (ap (λ v. v.items) starts))
            (placed_more places group place old.starts.items k.placed);
      } where
        by : (i : ℕ) (d : List ℕ) → i < length listed → (b : Bool) → bytes_eq (get_or listed i d) number ≡ b
            → bytes_eq (get_or listed i d) number ≡ false
        by i d lt false q = q
        by i d lt true q = absurd (true≢false (sym (list_any_at (λ y. bytes_eq y number) listed i d lt q) ∙ none))

-- ---- where there is a list

pub finds_group : (listed : Option (List (List ℕ))) (group place : ℕ) (ps : List Placed) (old new : SoughtNumbers)
    → ((xs : List (List ℕ)) (places : List (ℕ × ℕ)) (g t : ℕ) → has_found old.listed.now xs places g t old
    → has_found old.listed.now xs places (g + 1) 0 new)
    → NotesNumbers listed ps (Some old) → FindsNumbers listed group place ps (Some old) → FindsNumbers listed (group + 1) 0 ps (Some new)
finds_group None group place ps old new step notes h = tt
finds_group (Some listed) group place ps old new step notes h =
    subst (λ (l : List (List ℕ)). has_found l (numbers_of ps) (places_of ps) (group + 1) 0 new) notes.0
    (step (numbers_of ps) (places_of ps) group place
    (subst (λ (l : List (List ℕ)). has_found l (numbers_of ps) (places_of ps) group place old) (sym notes.0) h))

pub finds_still : (listed : Option (List (List ℕ))) (group place : ℕ) (ps : List Placed) (old new : SoughtNumbers)
    → ((xs : List (List ℕ)) (places : List (ℕ × ℕ)) (g t : ℕ) → has_found old.listed.now xs places g t old
    → has_found old.listed.now xs places g t new)
    → NotesNumbers listed ps (Some old) → FindsNumbers listed group place ps (Some old) → FindsNumbers listed group place ps (Some new)
finds_still None group place ps old new step notes h = tt
finds_still (Some listed) group place ps old new step notes h =
    subst (λ (l : List (List ℕ)). has_found l (numbers_of ps) (places_of ps) group place new) notes.0
    (step (numbers_of ps) (places_of ps) group place
    (subst (λ (l : List (List ℕ)). has_found l (numbers_of ps) (places_of ps) group place old) (sym notes.0) h))

pub finds_more : (listed : Option (List (List ℕ))) (ps : List Placed) (p : Placed) (number : List ℕ) (old new : SoughtNumbers)
    → number ∷ [] ≡ numbers_of (p ∷ [])
    → ((xs : List (List ℕ)) (places : List (ℕ × ℕ)) (g t : ℕ) → IsDistinct bytes_eq old.listed.now
    → has_found old.listed.now xs places g t old
    → has_found old.listed.now (xs ++ number ∷ []) (places ++ (g, t) ∷ []) g (t + 1) new)
    → NotesNumbers listed ps (Some old) → FindsNumbers listed p.group p.place ps (Some old)
    → FindsNumbers listed p.group (p.place + 1) (ps ++ p ∷ []) (Some new)
finds_more None ps p number old new is step notes h = tt
finds_more (Some listed) ps p number old new is step notes h =
    subst (λ (xs : List (List ℕ)). has_found listed xs (places_of (ps ++ p ∷ [])) p.group (p.place + 1) new)
    (ap (λ (l : List (List ℕ)). numbers_of ps ++ l) is ∙ sym (map-append _ ps (p ∷ [])))
    (subst (λ (xs : List (ℕ × ℕ)). has_found listed (numbers_of ps ++ number ∷ []) xs p.group (p.place + 1) new)
    (sym (map-append _ ps (p ∷ [])))
    (subst (λ (l : List (List ℕ)). has_found l (numbers_of ps ++ number ∷ []) (places_of ps ++ (p.group, p.place) ∷ []) p.group (p.place + 1) new)
    notes.0
    (step (numbers_of ps) (places_of ps) p.group p.place (subst (λ (l : List (List ℕ)). IsDistinct bytes_eq l) (sym notes.0) notes.1.distinct)
    (subst (λ (l : List (List ℕ)). has_found l (numbers_of ps) (places_of ps) p.group p.place old) (sym notes.0) h))))

-- Writers who lack a record that they ask for, with one record more.
use Rattle.std.proofs.Common.{◌≡◌, ℕ, zero, suc, ◌+◌, ◌<◌, Bool, true, false, not, cond, List, [], ◌∷◌, ◌++◌, length, drop, refl}
use Rattle.std.proofs.Common.{sym, ap, ◌∙◌, arith, inl, inr}
use Rattle.std.specs.Prelude.{Some, slice_get, take_while, ◌||◌, ◌&&◌, ◌⊎◌}
use Rattle.std.specs.List.{list_any}
use Rattle.std.proofs.lemmas.Bool.{and_from, or_from, or_left, or_parts, or_right}
use Rattle.std.proofs.lemmas.List.{drop-append-le, drop_all, length-append}
use Rattle.std.proofs.lemmas.List.Folds.{list_any-append}
use Rattle.std.proofs.lemmas.List.Sums.{take_while-cons}
use Rattle.cwr_lines.specs.Format.Records.{RecordValue}
use Rattle.cwr_advice.specs.declared.owing.Owing.{Owing}
use Rattle.cwr_advice.specs.Format.Rules.{is_writer, records_of_writer}
use Rattle.cwr_advice.specs.Steps.Kept.{AreOwing}

-- what stands at a place of the longer list
pub there_or_last : {X : Type 0} → (t : List X) (r : X) (k : ℕ) (x : X) → slice_get (t ++ r ∷ []) k ≡ Some x
    → ((k < length t) × (slice_get t k ≡ Some x)) ⊎ ((k ≡ length t) × (x ≡ r))
there_or_last [] r zero x e = let same : r ≡ x = cc e in inr (refl, sym same)
there_or_last [] r (suc k) x e = absurd (cc e)
there_or_last (y ∷ t) r zero x e = inl (omega arith, e)
there_or_last (y ∷ t) r (suc k) x e = elim (there_or_last t r k x e) [
  | inl (below, there) ↦ inl (omega (arith, below), there)
  | inr (last, same) ↦ inr (omega (arith, last), same)
]

one_kept : {X : Type 0} → (keep p : X → Bool) (y : X) (rest : List X) (b : Bool) → keep y ≡ b
    → list_any p (take_while keep (y ∷ rest)) ≡ cond b (p y || list_any p (take_while keep rest)) false
one_kept {X} keep p y rest true e =
    ap (list_any p) (take_while-cons keep y rest ∙ ap (λ (b : Bool). cond b (y ∷ take_while keep rest) []) e)
one_kept {X} keep p y rest false e =
    ap (list_any p) (take_while-cons keep y rest ∙ ap (λ (b : Bool). cond b (y ∷ take_while keep rest) []) e)

-- one that passes up to the first that isn't kept is there with one more at the end
still_there : {X : Type 0} → (keep p : X → Bool) (xs : List X) (x : X) → list_any p (take_while keep xs) ≡ true
    → list_any p (take_while keep (xs ++ x ∷ [])) ≡ true
still_there keep p [] x h = absurd (cc h)
still_there {X} keep p (y ∷ xs) x h = by (keep y) (p y) refl refl (still_there keep p xs x)
  where
    by : (b c : Bool) → keep y ≡ b → p y ≡ c
        → (list_any p (take_while keep xs) ≡ true → list_any p (take_while keep (xs ++ x ∷ [])) ≡ true)
        → list_any p (take_while keep (y ∷ (xs ++ x ∷ []))) ≡ true
    by false c e f more = absurd (let none : false ≡ true = sym (one_kept keep p y xs false e) ∙ h in cc none)
    by true true e f more = one_kept keep p y (xs ++ x ∷ []) true e ∙ or_left (p y) _ f
    by true false e f more =
        one_kept keep p y (xs ++ x ∷ []) true e
        ∙ or_right (p y) _
        (more (sym (ap (λ (c : Bool). c || list_any p (take_while keep xs)) f) ∙ sym (one_kept keep p y xs true e) ∙ h))

-- and one at the end, where all before it are kept
last_there : {X : Type 0} → (stop p : X → Bool) (xs : List X) (x : X) → list_any stop xs ≡ false → stop x ≡ false → p x ≡ true
    → list_any p (take_while (λ y. not (stop y)) (xs ++ x ∷ [])) ≡ true
last_there stop p [] x none e f = one_kept (λ y. not (stop y)) p x [] true (ap not e) ∙ or_left (p x) _ f
last_there stop p (y ∷ xs) x none e f =
    let parts = or_parts (stop y) (list_any stop xs) none in
    one_kept (λ y. not (stop y)) p y (xs ++ x ∷ []) true (ap not parts.0) ∙ or_right (p y) _ (last_there stop p xs x parts.1 e f)

-- what stands behind a record, with one more
behind : (t : List RecordValue) (r : RecordValue) (k : ℕ) → k < length t → drop (k + 1) (t ++ r ∷ []) ≡ drop (k + 1) t ++ r ∷ []
behind t r k below = drop-append-le (k + 1) t (r ∷ []) (omega (arith, below))

has_still : (gives : RecordValue → Bool) (t : List RecordValue) (r : RecordValue) (k : ℕ) → k < length t
    → list_any gives (records_of_writer t k) ≡ true → list_any gives (records_of_writer (t ++ r ∷ []) k) ≡ true
has_still gives t r k below h =
    ap (λ (l : List RecordValue). list_any gives (take_while (λ x. not (is_writer x)) l)) (behind t r k below)
    ∙ still_there (λ x. not (is_writer x)) gives (drop (k + 1) t) r h

has_now : (gives : RecordValue → Bool) (t : List RecordValue) (r : RecordValue) (k : ℕ) → k < length t
    → list_any is_writer (drop (k + 1) t) ≡ false → is_writer r ≡ false → gives r ≡ true
    → list_any gives (records_of_writer (t ++ r ∷ []) k) ≡ true
has_now gives t r k below none other gave =
    ap (λ (l : List RecordValue). list_any gives (take_while (λ x. not (is_writer x)) l)) (behind t r k below)
    ∙ last_there is_writer gives (drop (k + 1) t) r none other gave

none_still : (t : List RecordValue) (r : RecordValue) (k : ℕ) → k < length t → list_any is_writer (drop (k + 1) t) ≡ false
    → is_writer r ≡ false → list_any is_writer (drop (k + 1) (t ++ r ∷ [])) ≡ false
none_still t r k below none other =
    ap (list_any is_writer) (behind t r k below) ∙ list_any-append is_writer (drop (k + 1) t) (r ∷ [])
    ∙ or_from (list_any is_writer (drop (k + 1) t)) _ none (or_from (is_writer r) false other refl)

none_behind_last : (t : List RecordValue) (r : RecordValue) (k : ℕ) → k ≡ length t
    → list_any is_writer (drop (k + 1) (t ++ r ∷ [])) ≡ false
none_behind_last t r k last =
    ap (list_any is_writer) (drop_all (k + 1) (t ++ r ∷ []) (omega (arith, last, length-append t (r ∷ []))))

-- one writer more
pub owing_writer : (asks gives : RecordValue → Bool) (t : List RecordValue) (r : RecordValue) (x : Owing) (b : Bool)
    → AreOwing asks gives t x → b ≡ asks r
    → AreOwing asks gives (t ++ r ∷ []) (record { lacks = x.lacks || x.owes; owes = b })
owing_writer asks gives t r x b h own = λ k y there asked. by k y asked (there_or_last t r k y there)
  where
    new : Owing
    new = record { lacks = x.lacks || x.owes; owes = b }

    by : (k : ℕ) (y : RecordValue) → asks y ≡ true → ((k < length t) × (slice_get t k ≡ Some y)) ⊎ ((k ≡ length t) × (y ≡ r))
        → (list_any gives (records_of_writer (t ++ r ∷ []) k) ≡ true)
        ⊎ ((new.lacks ≡ true) ⊎ ((new.owes ≡ true) × (list_any is_writer (drop (k + 1) (t ++ r ∷ [])) ≡ false)))
    by k y asked (inl p) = elim (h k y p.1 asked) [
      | inl has ↦ inl (has_still gives t r k p.0 has)
      | inr (inl lacks) ↦ inr (inl (or_left x.lacks x.owes lacks))
      | inr (inr owes) ↦ inr (inl (or_right x.lacks x.owes owes.0))
    ]
    by k y asked (inr p) = inr (inr (own ∙ ap asks (sym p.1) ∙ asked, none_behind_last t r k p.0))

-- one record more, which is no writer
pub owing_other : (asks gives : RecordValue → Bool) (t : List RecordValue) (r : RecordValue) (x : Owing) (b : Bool)
    → AreOwing asks gives t x → ((y : RecordValue) → asks y ≡ true → is_writer y ≡ true)
    → is_writer r ≡ false → b ≡ gives r → AreOwing asks gives (t ++ r ∷ []) (record { lacks = x.lacks; owes = x.owes && not b })
owing_other asks gives t r x b h writers other own = λ k y there asked. by k y asked (there_or_last t r k y there)
  where
    new : Owing
    new = record { lacks = x.lacks; owes = x.owes && not b }

    owed : (k : ℕ) → k < length t → x.owes ≡ true → list_any is_writer (drop (k + 1) t) ≡ false → (c : Bool) → b ≡ c
        → (list_any gives (records_of_writer (t ++ r ∷ []) k) ≡ true)
        ⊎ ((new.lacks ≡ true) ⊎ ((new.owes ≡ true) × (list_any is_writer (drop (k + 1) (t ++ r ∷ [])) ≡ false)))
    owed k below owes none true e = inl (has_now gives t r k below none other (sym own ∙ e))
    owed k below owes none false e = inr (inr (and_from x.owes (not b) owes (ap not e), none_still t r k below none other))

    by : (k : ℕ) (y : RecordValue) → asks y ≡ true → ((k < length t) × (slice_get t k ≡ Some y)) ⊎ ((k ≡ length t) × (y ≡ r))
        → (list_any gives (records_of_writer (t ++ r ∷ []) k) ≡ true)
        ⊎ ((new.lacks ≡ true) ⊎ ((new.owes ≡ true) × (list_any is_writer (drop (k + 1) (t ++ r ∷ [])) ≡ false)))
    by k y asked (inl p) = elim (h k y p.1 asked) [
      | inl has ↦ inl (has_still gives t r k p.0 has)
      | inr (inl lacks) ↦ inr (inl lacks)
      | inr (inr owes) ↦ owed k p.0 owes.0 owes.1 b refl
    ]
    by k y asked (inr p) = let writes : true ≡ false = sym (writers y asked) ∙ ap is_writer p.1 ∙ other in absurd (cc writes)

-- where nobody lacks one, each has it
pub nobody_owes : (asks gives : RecordValue → Bool) (t : List RecordValue) (x : Owing) (k : ℕ) (r : RecordValue)
    → AreOwing asks gives t x → (x.lacks || x.owes) ≡ false → slice_get t k ≡ Some r → asks r ≡ true
    → list_any gives (records_of_writer t k) ≡ true
nobody_owes asks gives t x k r h none there asked =
    let parts = or_parts x.lacks x.owes none in
    elim (h k r there asked) [
      | inl has ↦ has
      | inr (inl lacks) ↦ (let both : true ≡ false = sym lacks ∙ parts.0 in absurd (cc both))
      | inr (inr owes) ↦ (let both : true ≡ false = sym owes.0 ∙ parts.1 in absurd (cc both))
    ]

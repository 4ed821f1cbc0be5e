-- Patterns in a form in which those that match the same symbols here are the same.
use Rattle.std.proofs.Common.{◌≡◌, Bool, true, false, cond, ◌&&◌, ◌||◌, List, [], ◌∷◌, ◌++◌, refl, sym, ap, ap₂, subst, ◌∙◌, inl}
use Rattle.std.proofs.Common.{inr, true≢false, append_assoc}
use Rattle.std.specs.Prelude.{◌⊎◌, ◌↔◌}
use Rattle.std.specs.Str.{bytes_eq}
use Rattle.std.proofs.lemmas.Bool.{and_parts, or_cases}
use Rattle.std.proofs.lemmas.Slice.Eq.{bytes_eq-Decides}
use Rattle.cwr_shape.specs.declared.symbols.Symbol.{Symbol}
use Rattle.cwr_shape.specs.Format.Shapes.{Pattern, one_of, ◌then◌, ◌or◌, ◌and◌, many, carrying, Matches, without_carried}
use Rattle.cwr_shape.proofs.lemmas.Matcher.{symbol_text, same_text, is_dead, dead_sound, nothing_matches, empty_only, after, after_sound}
use Rattle.cwr_shape.proofs.lemmas.Matcher.{after_complete}

-- the same symbols
unfoldable pub same_list : List Symbol → List Symbol → Bool
same_list [] [] = true
same_list [] (t ∷ ts) = false
same_list (s ∷ ss) [] = false
same_list (s ∷ ss) (t ∷ ts) = bytes_eq (symbol_text s) (symbol_text t) && same_list ss ts

same_list_sound : (ss ts : List Symbol) → same_list ss ts ≡ true → ss ≡ ts
unfolding same_list
same_list_sound [] [] h = refl
same_list_sound [] (t ∷ ts) h = absurd (true≢false (sym h))
same_list_sound (s ∷ ss) [] h = absurd (true≢false (sym h))
same_list_sound (s ∷ ss) (t ∷ ts) h =
    let p = and_parts (bytes_eq (symbol_text s) (symbol_text t)) (same_list ss ts) h in
    ap₂ (λ (u : Symbol) (us : List Symbol). u ∷ us) (same_text s t ((bytes_eq-Decides (symbol_text s) (symbol_text t)).0 p.0))
    (same_list_sound ss ts p.1)

-- the same pattern
unfoldable pub same : Pattern → Pattern → Bool
same (one_of ss) (one_of ts) = same_list ss ts
same (p then q) (r then s) = same p r && same q s
same (p or q) (r or s) = same p r && same q s
same (p and q) (r and s) = same p r && same q s
same (many p) (many q) = same p q
same (carrying p) (carrying q) = same p q
same p q = false

pub same_sound : (p q : Pattern) → same p q ≡ true → p ≡ q
unfolding same
same_sound (one_of ss) (one_of ts) h = ap one_of (same_list_sound ss ts h)
same_sound (p then q) (r then s) h =
    let b = and_parts (same p r) (same q s) h in ap₂ ◌then◌ (same_sound p r b.0) (same_sound q s b.1)
same_sound (p or q) (r or s) h = let b = and_parts (same p r) (same q s) h in ap₂ ◌or◌ (same_sound p r b.0) (same_sound q s b.1)
same_sound (p and q) (r and s) h =
    let b = and_parts (same p r) (same q s) h in ap₂ ◌and◌ (same_sound p r b.0) (same_sound q s b.1)
same_sound (many p) (many q) h = ap many (same_sound p q h)
same_sound (carrying p) (carrying q) h = ap carrying (same_sound p q h)
same_sound p q h = absurd (true≢false (sym h))

-- patterns that match the same symbols
abbrev pub Alike : Pattern → Pattern → Type 0
Alike p q = (xs : List Symbol) → Matches p xs ↔ Matches q xs

alike_refl : (p : Pattern) → Alike p p
alike_refl p xs = (λ m. m, λ m. m)

alike_trans : (p q r : Pattern) → Alike p q → Alike q r → Alike p r
alike_trans p q r h k xs = (λ m. (k xs).0 ((h xs).0 m), λ m. (h xs).1 ((k xs).1 m))

then_alike : (p q r s : Pattern) → Alike p r → Alike q s → Alike (p then q) (r then s)
then_alike p q r s h k xs =
    (λ m. (m.0, m.1, m.2, (h m.0).0 m.3, (k m.1).0 m.4), λ m. (m.0, m.1, m.2, (h m.0).1 m.3, (k m.1).1 m.4))

or_forth : (p q r s : Pattern) → ((xs : List Symbol) → Matches p xs → Matches r xs)
    → ((xs : List Symbol) → Matches q xs → Matches s xs) → (xs : List Symbol) → Matches (p or q) xs → Matches (r or s) xs
or_forth p q r s f g xs (inl m) = inl (f xs m)
or_forth p q r s f g xs (inr m) = inr (g xs m)

or_alike : (p q r s : Pattern) → Alike p r → Alike q s → Alike (p or q) (r or s)
or_alike p q r s h k xs =
    (or_forth p q r s (λ ys. (h ys).0) (λ ys. (k ys).0) xs, or_forth r s p q (λ ys. (h ys).1) (λ ys. (k ys).1) xs)

and_alike : (p q r s : Pattern) → Alike p r → Alike q s → Alike (p and q) (r and s)
and_alike p q r s h k xs = (λ m. ((h xs).0 m.0, (k xs).0 m.1), λ m. ((h xs).1 m.0, (k xs).1 m.1))

-- the pattern of no symbols at all
abbrev pub dead : Pattern
dead = one_of []

abbrev pub is_none : Pattern → Bool
is_none (one_of []) = true
is_none p = false

is_none_sound : (p : Pattern) → is_none p ≡ true → p ≡ dead
is_none_sound (one_of []) h = refl
is_none_sound p h = absurd (true≢false (sym h))

-- one pattern and then another, from the left on
unfoldable pub seq : Pattern → Pattern → Pattern
seq (one_of ss) q = cond (is_none (one_of ss)) dead (one_of ss then q)
seq (p then r) q = seq p (seq r q)
seq (p or r) q = (p or r) then q
seq (p and r) q = (p and r) then q
seq (many p) q = cond (is_none p) q (many p then q)
seq (carrying p) q = carrying p then q

then_assoc : (p r q : Pattern) → Alike (p then (r then q)) ((p then r) then q)
then_assoc p r q xs = (
  λ m. (
    m.0 ++ m.4.0,
    m.4.1,
    m.2 ∙ ap (λ (ys : List Symbol). m.0 ++ ys) m.4.2
        ∙ sym (append_assoc m.0 m.4.0 m.4.1),
    (m.0, m.4.0, refl, m.3, m.4.3),
    m.4.4,
  ),
  λ m. (
    m.3.0,
    m.3.1 ++ m.1,
    m.2 ∙ ap (λ (ys : List Symbol). ys ++ m.1) m.3.2
        ∙ append_assoc m.3.0 m.3.1 m.1,
    m.3.3,
    (m.3.1, m.1, refl, m.3.4, m.4),
  ),
)

dead_then : (q : Pattern) → Alike dead (dead then q)
dead_then q xs = (λ m. absurd (nothing_matches xs m), λ m. absurd (nothing_matches m.0 m.3))

empty_then : (q : Pattern) → Alike q (many dead then q)
empty_then q xs = (
  λ m. ([], xs, refl, ([], refl, tt), m),
  λ m. let none : m.0 ≡ [] = empty_only m.0 m.3 in
      subst (λ (ys : List Symbol). Matches q ys) (sym (m.2 ∙ ap (λ (ys : List Symbol). ys ++ m.1) none)) m.4,
)

seq_one : (ss : List Symbol) (q : Pattern) (b : Bool) → is_none (one_of ss) ≡ b
    → Alike (cond b dead (one_of ss then q)) (one_of ss then q)
seq_one ss q true e = subst (λ (p : Pattern). Alike dead (p then q)) (sym (is_none_sound (one_of ss) e)) (dead_then q)
seq_one ss q false e = alike_refl (one_of ss then q)

seq_many : (p q : Pattern) (b : Bool) → is_none p ≡ b → Alike (cond b q (many p then q)) (many p then q)
seq_many p q true e = subst (λ (r : Pattern). Alike q (many r then q)) (sym (is_none_sound p e)) (empty_then q)
seq_many p q false e = alike_refl (many p then q)

pub seq_alike : (p q : Pattern) → Alike (seq p q) (p then q)
unfolding seq
seq_alike (one_of ss) q = seq_one ss q (is_none (one_of ss)) refl
seq_alike (p then r) q =
    alike_trans (seq p (seq r q)) (p then seq r q) ((p then r) then q) (seq_alike p (seq r q))
    (alike_trans (p then seq r q) (p then (r then q)) ((p then r) then q)
    (then_alike p (seq r q) p (r then q) (alike_refl p) (seq_alike r q)) (then_assoc p r q))
seq_alike (p or r) q = alike_refl ((p or r) then q)
seq_alike (p and r) q = alike_refl ((p and r) then q)
seq_alike (many p) q = seq_many p q (is_none p) refl
seq_alike (carrying p) q = alike_refl (carrying p then q)

-- the pattern is one of the alternatives
unfoldable pub contains : Pattern → Pattern → Bool
contains p (q or r) = same p q || contains p r
contains p q = same p q

-- a pattern before alternatives, if it isn't one of them
unfoldable pub insert : Pattern → Pattern → Pattern
insert p q = cond (contains p q) q (cond (is_none q) p (p or q))

-- alternatives, each once
unfoldable pub alt : Pattern → Pattern → Pattern
alt (p or r) q = alt p (alt r q)
alt (one_of ss) q = cond (is_none (one_of ss)) q (insert (one_of ss) q)
alt p q = insert p q

contained : (p q : Pattern) → contains p q ≡ true → (xs : List Symbol) → Matches p xs → Matches q xs
unfolding contains
contained p (q or r) h xs m = pick p q r xs (or_cases (same p q) (contains p r) h) (contained p r)
  where
    pick : (a b c : Pattern) (ys : List Symbol) → (same p q ≡ true) ⊎ (contains p r ≡ true)
        → (contains p r ≡ true → (zs : List Symbol) → Matches p zs → Matches r zs) → Matches (q or r) xs
    pick a b c ys (inl e) f = inl (subst (λ (t : Pattern). Matches t xs) (same_sound p q e) m)
    pick a b c ys (inr e) f = inr (f e xs m)
contained p q h xs m = subst (λ (t : Pattern). Matches t xs) (same_sound p q h) m

either_of : (p q : Pattern) (xs : List Symbol) → (Matches p xs → Matches q xs) → Matches (p or q) xs → Matches q xs
either_of p q xs f (inl m) = f m
either_of p q xs f (inr m) = m

only_first : (p : Pattern) (xs : List Symbol) → Matches (p or dead) xs → Matches p xs
only_first p xs (inl m) = m
only_first p xs (inr m) = absurd (nothing_matches xs m)

only_second : (q : Pattern) (xs : List Symbol) → Matches (dead or q) xs → Matches q xs
only_second q xs (inl m) = absurd (nothing_matches xs m)
only_second q xs (inr m) = m

insert_none : (p q : Pattern) (b : Bool) → is_none q ≡ b → Alike (cond b p (p or q)) (p or q)
insert_none p q true e = subst (λ (r : Pattern). Alike p (p or r)) (sym (is_none_sound q e)) (λ xs. (λ m. inl m, only_first p xs))
insert_none p q false e = alike_refl (p or q)

insert_by : (p q : Pattern) (b : Bool) → contains p q ≡ b → Alike (cond b q (cond (is_none q) p (p or q))) (p or q)
insert_by p q true e = λ xs. (λ m. inr m, either_of p q xs (contained p q e xs))
insert_by p q false e = insert_none p q (is_none q) refl

insert_alike : (p q : Pattern) → Alike (insert p q) (p or q)
unfolding insert
insert_alike p q = insert_by p q (contains p q) refl

or_assoc_forth : (p r q : Pattern) (xs : List Symbol) → Matches (p or (r or q)) xs → Matches ((p or r) or q) xs
or_assoc_forth p r q xs (inl m) = inl (inl m)
or_assoc_forth p r q xs (inr (inl m)) = inl (inr m)
or_assoc_forth p r q xs (inr (inr m)) = inr m

or_assoc_back : (p r q : Pattern) (xs : List Symbol) → Matches ((p or r) or q) xs → Matches (p or (r or q)) xs
or_assoc_back p r q xs (inl (inl m)) = inl m
or_assoc_back p r q xs (inl (inr m)) = inr (inl m)
or_assoc_back p r q xs (inr m) = inr (inr m)

alt_one : (ss : List Symbol) (q : Pattern) (b : Bool) → is_none (one_of ss) ≡ b
    → Alike (cond b q (insert (one_of ss) q)) (one_of ss or q)
alt_one ss q true e =
    subst (λ (p : Pattern). Alike q (p or q)) (sym (is_none_sound (one_of ss) e)) (λ xs. (λ m. inr m, only_second q xs))
alt_one ss q false e = insert_alike (one_of ss) q

pub alt_alike : (p q : Pattern) → Alike (alt p q) (p or q)
unfolding alt
alt_alike (p or r) q =
    alike_trans (alt p (alt r q)) (p or alt r q) ((p or r) or q) (alt_alike p (alt r q))
    (alike_trans (p or alt r q) (p or (r or q)) ((p or r) or q) (or_alike p (alt r q) p (r or q) (alike_refl p) (alt_alike r q))
    (λ xs. (or_assoc_forth p r q xs, or_assoc_back p r q xs)))
alt_alike (one_of ss) q = alt_one ss q (is_none (one_of ss)) refl
alt_alike (p then r) q = insert_alike (p then r) q
alt_alike (p and r) q = insert_alike (p and r) q
alt_alike (many p) q = insert_alike (many p) q
alt_alike (carrying p) q = insert_alike (carrying p) q

-- both of two, if something matches both
unfoldable pub both : Pattern → Pattern → Pattern
both p q = cond (is_dead p || is_dead q) dead (p and q)

both_dead : (p q : Pattern) (xs : List Symbol) → (is_dead p ≡ true) ⊎ (is_dead q ≡ true) → Matches (p and q) xs → ⊥
both_dead p q xs (inl e) m = dead_sound p xs e m.0
both_dead p q xs (inr e) m = dead_sound q xs e m.1

both_by : (p q : Pattern) (b : Bool) → is_dead p || is_dead q ≡ b → Alike (cond b dead (p and q)) (p and q)
both_by p q true e =
    λ xs. (λ m. absurd (nothing_matches xs m), λ m. absurd (both_dead p q xs (or_cases (is_dead p) (is_dead q) e) m))
both_by p q false e = alike_refl (p and q)

both_alike : (p q : Pattern) → Alike (both p q) (p and q)
unfolding both
both_alike p q = both_by p q (is_dead p || is_dead q) refl

-- carried records among a pattern, if something matches it
unfoldable pub carry : Pattern → Pattern
carry p = cond (is_dead p) dead (carrying p)

carry_by : (p : Pattern) (b : Bool) → is_dead p ≡ b → Alike (cond b dead (carrying p)) (carrying p)
carry_by p true e = λ xs. (λ m. absurd (nothing_matches xs m), λ m. absurd (dead_sound p (without_carried xs) e m))
carry_by p false e = alike_refl (carrying p)

carry_alike : (p : Pattern) → Alike (carry p) (carrying p)
unfolding carry
carry_alike p = carry_by p (is_dead p) refl

carrying_alike : (p q : Pattern) → Alike p q → Alike (carrying p) (carrying q)
carrying_alike p q h xs = h (without_carried xs)

-- the pattern's form
unfoldable pub norm : Pattern → Pattern
norm (one_of ss) = one_of ss
norm (p then q) = seq (norm p) (norm q)
norm (p or q) = alt (norm p) (norm q)
norm (p and q) = both (norm p) (norm q)
norm (many p) = many p
norm (carrying p) = carry (norm p)

pub norm_alike : (p : Pattern) → Alike (norm p) p
unfolding norm
norm_alike (one_of ss) = alike_refl (one_of ss)
norm_alike (p then q) =
    alike_trans (seq (norm p) (norm q)) (norm p then norm q) (p then q) (seq_alike (norm p) (norm q))
    (then_alike (norm p) (norm q) p q (norm_alike p) (norm_alike q))
norm_alike (p or q) =
    alike_trans (alt (norm p) (norm q)) (norm p or norm q) (p or q) (alt_alike (norm p) (norm q))
    (or_alike (norm p) (norm q) p q (norm_alike p) (norm_alike q))
norm_alike (p and q) =
    alike_trans (both (norm p) (norm q)) (norm p and norm q) (p and q) (both_alike (norm p) (norm q))
    (and_alike (norm p) (norm q) p q (norm_alike p) (norm_alike q))
norm_alike (many p) = alike_refl (many p)
norm_alike (carrying p) =
    alike_trans (carry (norm p)) (carrying (norm p)) (carrying p) (carry_alike (norm p))
    (carrying_alike (norm p) p (norm_alike p))

-- what may follow a symbol, in that form
pub follows : (s : Symbol) (p : Pattern) (xs : List Symbol) → Matches (norm (after s p)) xs ↔ Matches p (s ∷ xs)
follows s p xs =
    (λ m. after_sound s p xs ((norm_alike (after s p) xs).0 m), λ m. (norm_alike (after s p) xs).1 (after_complete s p xs m))

-- A list is cut into parts in one way, where each part begins with an element of class 1 and continues with those of
-- class 2, and what stands after them begins with class 0.
use Rattle.std.proofs.Common.{◌≡◌, ℕ, List, [], ◌∷◌, ◌++◌, refl, sym, ap, ap₂, ◌∙◌, append_assoc, arith}
use Rattle.std.specs.List.{AllByRecursion, flat_map}

pub record IsOnePart {X : Type 0} (c : X → ℕ) (t : List X) : Type 0 where
  pub head : X
  pub rest : List X
  pub whole : t ≡ head ∷ rest
  pub first : c head ≡ 1
  pub later : AllByRecursion (λ e. c e ≡ 2) rest

-- the list begins with an element of the class
pub record Begins {X : Type 0} (c : X → ℕ) (n : ℕ) (x : List X) : Type 0 where
  pub at : X
  pub rest : List X
  pub whole : x ≡ at ∷ rest
  pub class : c at ≡ n

-- the list begins with an element that continues no part
record Stops {X : Type 0} (c : X → ℕ) (x : List X) : Type 0 where
  at : X
  rest : List X
  whole : x ≡ at ∷ rest
  class : c at ≡ 2 → ⊥

heads : {X : Type 0} (a b : X) (xs ys : List X) → a ∷ xs ≡ b ∷ ys → (a ≡ b) × (xs ≡ ys)
heads a b xs ys e = (cc e, cc e)

numbers_clash : (m n : ℕ) → m ≡ n → m ≡ 0 → n ≡ 1 → ⊥
numbers_clash m n e h k = omega arith

clash : {X : Type 0} (c : X → ℕ) (a b : X) → a ≡ b → c a ≡ 0 → c b ≡ 1 → ⊥
clash c a b e h k = numbers_clash (c a) (c b) (ap c e) h k

not_two : (m : ℕ) → m ≡ 0 → m ≡ 2 → ⊥
not_two m h k = omega arith

not_two_either : (m : ℕ) → m ≡ 1 → m ≡ 2 → ⊥
not_two_either m h k = omega arith

later_agree : {X : Type 0} (c : X → ℕ) (r s x y : List X) → AllByRecursion (λ e. c e ≡ 2) r → AllByRecursion (λ e. c e ≡ 2) s
    → Stops c x → Stops c y
    → r ++ x ≡ s ++ y → (r ≡ s) × (x ≡ y)
later_agree c [] [] x y h k p q e = (refl, e)
later_agree c [] (d ∷ s) x y h k p q e =
    let first = heads p.at d p.rest (s ++ y) (sym p.whole ∙ e) in
    absurd (p.class (ap c first.0 ∙ k.0))
later_agree c (d ∷ r) [] x y h k p q e =
    let first = heads q.at d q.rest (r ++ x) (sym q.whole ∙ sym e) in
    absurd (q.class (ap c first.0 ∙ h.0))
later_agree c (d ∷ r) (f ∷ s) x y h k p q e =
    let first = heads d f (r ++ x) (s ++ y) e in
    let more = later_agree c r s x y h.1 k.1 p q first.1 in
    (ap₂ (λ a xs. a ∷ xs) first.0 more.0, more.1)

parts_stop : {X : Type 0} (c : X → ℕ) (ts : List (List X)) (x : List X) → AllByRecursion (IsOnePart c) ts → Begins c 0 x
    → Stops c (flat_map (λ t. t) ts ++ x)
parts_stop c [] x h b = record { at = b.at; rest = b.rest; whole = b.whole; class = not_two (c b.at) b.class }
parts_stop c (t ∷ ts) x h b =
    record {
      at = h.0.head;
      rest = (h.0.rest ++ flat_map (λ u. u) ts) ++ x;
      whole = ap (λ u. (u ++ flat_map (λ w. w) ts) ++ x) h.0.whole;
      class = not_two_either (c h.0.head) h.0.first;
    }

pub parts_agree : {X : Type 0} (c : X → ℕ) (ts us : List (List X)) (x y : List X) → AllByRecursion (IsOnePart c) ts
    → AllByRecursion (IsOnePart c) us → Begins c 0 x → Begins c 0 y
    → flat_map (λ t. t) ts ++ x ≡ flat_map (λ t. t) us ++ y → (ts ≡ us) × (x ≡ y)
parts_agree c [] [] x y h k p q e = (refl, e)
parts_agree c [] (u ∷ us) x y h k p q e =
    let first =
    heads p.at k.0.head p.rest ((k.0.rest ++ flat_map (λ w. w) us) ++ y)
    (sym p.whole ∙ e ∙ ap (λ w. (w ++ flat_map (λ z. z) us) ++ y) k.0.whole) in
    absurd (clash c p.at k.0.head first.0 p.class k.0.first)
parts_agree c (t ∷ ts) [] x y h k p q e =
    let first =
    heads q.at h.0.head q.rest ((h.0.rest ++ flat_map (λ w. w) ts) ++ x)
    (sym q.whole ∙ sym e ∙ ap (λ w. (w ++ flat_map (λ z. z) ts) ++ x) h.0.whole) in
    absurd (clash c q.at h.0.head first.0 q.class h.0.first)
parts_agree c (t ∷ ts) (u ∷ us) x y h k p q e =
    let whole : h.0.head ∷ (h.0.rest ++ (flat_map (λ w. w) ts ++ x)) ≡ k.0.head ∷ (k.0.rest ++ (flat_map (λ w. w) us ++ y)) =
    ap (λ w. h.0.head ∷ w) (sym (append_assoc h.0.rest (flat_map (λ w. w) ts) x))
    ∙ sym (ap (λ w. (w ++ flat_map (λ z. z) ts) ++ x) h.0.whole) ∙ e
    ∙ ap (λ w. (w ++ flat_map (λ z. z) us) ++ y) k.0.whole
    ∙ ap (λ w. k.0.head ∷ w) (append_assoc k.0.rest (flat_map (λ w. w) us) y) in
    let first =
    heads h.0.head k.0.head (h.0.rest ++ (flat_map (λ w. w) ts ++ x)) (k.0.rest ++ (flat_map (λ w. w) us ++ y)) whole in
    let later =
    later_agree c h.0.rest k.0.rest (flat_map (λ w. w) ts ++ x) (flat_map (λ w. w) us ++ y) h.0.later k.0.later
    (parts_stop c ts x h.1 p) (parts_stop c us y k.1 q) first.1 in
    let more = parts_agree c ts us x y h.1 k.1 p q later.1 in
    let same : t ≡ u = h.0.whole ∙ ap₂ (λ a xs. a ∷ xs) first.0 later.0 ∙ sym k.0.whole in
    (ap₂ (λ a xs. a ∷ xs) same more.0, more.1)

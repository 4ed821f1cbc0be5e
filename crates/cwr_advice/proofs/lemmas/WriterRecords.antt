-- The records of a writer, one by one: those up to the next writer.
use Rattle.std.proofs.Common.{◌≡◌, ℕ, ◌+◌, ◌≤◌, Bool, true, false, cond, List, [], ◌∷◌, length, drop, refl, ap, ◌∙◌}
use Rattle.std.specs.Prelude.{Some, slice_get, take_while, ◌||◌}
use Rattle.std.specs.List.{list_any}
use Rattle.std.proofs.lemmas.List.{drop_all}
use Rattle.std.proofs.lemmas.List.Sums.{take_while-cons}
use Rattle.cwr_findings.proofs.lemmas.OneMore.{drop_more}

-- some record passes, up to the first that isn't kept
abbrev pub some_kept : {X : Type 0} → (X → Bool) → (X → Bool) → List X → Bool
some_kept p keep xs = list_any p (take_while keep xs)

pass_by : {X : Type 0} → (p keep : X → Bool) (x : X) (rest : List X) (b c : Bool) → keep x ≡ b → p x ≡ c
    → some_kept p keep (x ∷ rest) ≡ cond b (c || some_kept p keep rest) false
pass_by {X} p keep x rest true c e f =
    ap (list_any p) (take_while-cons keep x rest) ∙ ap (λ (b : Bool). list_any p (cond b (x ∷ take_while keep rest) [])) e
    ∙ ap (λ (b : Bool). b || list_any p (take_while keep rest)) f
pass_by {X} p keep x rest false c e f =
    ap (list_any p) (take_while-cons keep x rest) ∙ ap (λ (b : Bool). list_any p (cond b (x ∷ take_while keep rest) [])) e

-- one that is kept and doesn't pass changes nothing
pub passed_over : {X : Type 0} → (p keep : X → Bool) (xs : List X) (i : ℕ) (x : X) → slice_get xs i ≡ Some x → keep x ≡ true
    → p x ≡ false → some_kept p keep (drop i xs) ≡ some_kept p keep (drop (i + 1) xs)
passed_over p keep xs i x e f h = ap (some_kept p keep) (drop_more xs i x e) ∙ pass_by p keep x (drop (i + 1) xs) true false f h

-- one that isn't kept ends it
pub stopped : {X : Type 0} → (p keep : X → Bool) (xs : List X) (i : ℕ) (x : X) → slice_get xs i ≡ Some x → keep x ≡ false
    → some_kept p keep (drop i xs) ≡ false
stopped p keep xs i x e f = ap (some_kept p keep) (drop_more xs i x e) ∙ pass_by p keep x (drop (i + 1) xs) false (p x) f refl

-- one that is kept and passes is found
pub found : {X : Type 0} → (p keep : X → Bool) (xs : List X) (i : ℕ) (x : X) → slice_get xs i ≡ Some x → keep x ≡ true
    → p x ≡ true → some_kept p keep (drop i xs) ≡ true
found p keep xs i x e f h = ap (some_kept p keep) (drop_more xs i x e) ∙ pass_by p keep x (drop (i + 1) xs) true true f h

pub none_left : {X : Type 0} → (p keep : X → Bool) (xs : List X) (i : ℕ) → length xs ≤ i → some_kept p keep (drop i xs) ≡ false
none_left p keep xs i h = ap (some_kept p keep) (drop_all i xs h)

-- A list in runs: a first run, and those of the rest.
use Rattle.std.proofs.Common.{◌≡◌, ℕ, zero, suc, ◌+◌, ◌-◌, ◌*◌, ◌/◌, ◌%◌, ◌<◌, ◌≤◌, List, [], ◌∷◌, ◌++◌, length, map, take, drop}
use Rattle.std.proofs.Common.{refl, sym, ap, ap₂, ◌∙◌, arith, take_all}
use Rattle.std.specs.List.{range_with_len}
use Rattle.std.proofs.Math.Seq.{take-append_seam, drop-append-add}
use Rattle.std.proofs.lemmas.List.{length-append}
use Rattle.std.proofs.Math.Nat.{mod-lt}
use Rattle.std.proofs.lemmas.Nat.{div-add-mod', div-mul-add}
use Rattle.cwr_parts.specs.Format.Splits.{runs}

-- one run more
one_more : (n m : ℕ) → 0 < n → (n + m + n - 1) / n ≡ suc ((m + n - 1) / n)
one_more n m some =
    let q : ℕ = (m + n - 1) / n in
    let r : ℕ = (m + n - 1) % n in
    let small : r < n = mod-lt (m + n - 1) some in
    let whole : q * n + r ≡ m + n - 1 = div-add-mod' (m + n - 1) n in
    let more : suc q * n + r ≡ n + m + n - 1 = omega (arith, whole, some) in
    ap (λ (k : ℕ). k / n) (sym more) ∙ div-mul-add (suc q) n r small

shifted : {X : Type 0} (f g : ℕ → X) (a b count : ℕ) → ((i : ℕ) → f (i + 1) ≡ g i) → a ≡ b + 1
    → map f (range_with_len a count) ≡ map g (range_with_len b count)
shifted f g a b zero same e = refl
shifted f g a b (suc count) same e = ap₂ (λ x xs. x ∷ xs) (ap f e ∙ same b) (shifted f g (a + 1) (b + 1) count same (omega arith))

-- a list that begins with a full run
pub runs_more : {X : Type 0} (n : ℕ) (xs ys : List X) → 0 < n → length xs ≡ n → runs n (xs ++ ys) ≡ xs ∷ runs n ys
runs_more {X = X} n xs ys some e =
    let f : ℕ → List X = λ i. take n (drop (n * i) (xs ++ ys)) in
    let g : ℕ → List X = λ i. take n (drop (n * i) ys) in
    let count : (length (xs ++ ys) + n - 1) / n ≡ suc ((length ys + n - 1) / n)
    = ap (λ (k : ℕ). (k + n - 1) / n) (length-append xs ys ∙ ap (λ (k : ℕ). k + length ys) e) ∙ one_more n (length ys) some in
    let next : (i : ℕ) → f (i + 1) ≡ g i = λ i.
    let at : n * (i + 1) ≡ length xs + n * i = omega (arith, e) in
    ap (take n) (ap (λ (k : ℕ). drop k (xs ++ ys)) at ∙ drop-append-add xs ys (n * i)) in
    let zero_at : n * 0 ≡ 0 = omega arith in
    let first : f 0 ≡ xs =
    ap (λ (k : ℕ). take n (drop k (xs ++ ys))) zero_at ∙ ap (λ (k : ℕ). take k (xs ++ ys)) (sym e) ∙ take-append_seam xs ys in
    ap (λ (k : ℕ). map f (range_with_len 0 k)) count
    ∙ ap₂ (λ (x : List X) (l : List (List X)). x ∷ l) first (shifted f g 1 0 ((length ys + n - 1) / n) next refl)

-- none of nothing
pub runs_none : {X : Type 0} (n : ℕ) → 0 < n → runs {X = X} n [] ≡ []
runs_none {X = X} n some =
    let none : (0 + n - 1) / n ≡ 0 =
    ap (λ (k : ℕ). k / n) (omega (arith, some)) ∙ div-mul-add 0 n (n - 1) (omega (arith, some)) in
    ap (λ (k : ℕ). map (λ i. take n (drop (n * i) [])) (range_with_len 0 k)) none

-- a run that isn't full is the last
pub runs_last : {X : Type 0} (n : ℕ) (x : X) (xs : List X) → length (x ∷ xs) ≤ n → runs n (x ∷ xs) ≡ (x ∷ xs) ∷ []
runs_last {X = X} n x xs few =
    let zs : List X = x ∷ xs in
    let one : (length zs + n - 1) / n ≡ 1 =
    ap (λ (k : ℕ). k / n) (omega (arith, few)) ∙ div-mul-add 1 n (length xs) (omega (arith, few)) in
    let zero_at : n * 0 ≡ 0 = omega arith in
    ap (λ (k : ℕ). map (λ i. take n (drop (n * i) zs)) (range_with_len 0 k)) one
    ∙ ap (λ (k : ℕ). take n (drop k zs) ∷ []) zero_at ∙ ap (λ (l : List X). l ∷ []) (take_all n zs few)

-- runs of changed elements
map_take : {X Y : Type 0} (f : X → Y) (n : ℕ) (xs : List X) → take n (map f xs) ≡ map f (take n xs)
map_take f zero xs = refl
map_take f (suc n) [] = refl
map_take f (suc n) (x ∷ xs) = ap (λ l. f x ∷ l) (map_take f n xs)

map_drop : {X Y : Type 0} (f : X → Y) (n : ℕ) (xs : List X) → drop n (map f xs) ≡ map f (drop n xs)
map_drop f zero xs = refl
map_drop f (suc n) [] = refl
map_drop f (suc n) (x ∷ xs) = map_drop f n xs

map_length : {X Y : Type 0} (f : X → Y) (xs : List X) → length (map f xs) ≡ length xs
map_length f [] = refl
map_length f (x ∷ xs) = ap suc (map_length f xs)

pub map_same : {X Y : Type 0} (f g : X → Y) (xs : List X) → ((x : X) → f x ≡ g x) → map f xs ≡ map g xs
map_same f g [] same = refl
map_same f g (x ∷ xs) same = ap₂ (λ y l. y ∷ l) (same x) (map_same f g xs same)

pub map_twice : {X Y Z : Type 0} (f : Y → Z) (g : X → Y) (xs : List X) → map f (map g xs) ≡ map (λ x. f (g x)) xs
map_twice f g [] = refl
map_twice f g (x ∷ xs) = ap (λ l. f (g x) ∷ l) (map_twice f g xs)

pub runs_mapped : {X Y : Type 0} (f : X → Y) (n : ℕ) (xs : List X) → runs n (map f xs) ≡ map (map f) (runs n xs)
runs_mapped f n xs =
    let count : ℕ = (length xs + n - 1) / n in
    ap (λ (k : ℕ). map (λ i. take n (drop (n * i) (map f xs))) (range_with_len 0 ((k + n - 1) / n))) (map_length f xs)
    ∙ map_same (λ i. take n (drop (n * i) (map f xs))) (λ i. map f (take n (drop (n * i) xs))) (range_with_len 0 count)
    (λ i. ap (take n) (map_drop f (n * i) xs) ∙ map_take f n (drop (n * i) xs))
    ∙ sym (map_twice (map f) (λ i. take n (drop (n * i) xs)) (range_with_len 0 count))

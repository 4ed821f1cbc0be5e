-- What is seen in lanes of which the lesser or the greater are kept, and in those that are marked.
use Rattle.std.proofs.Common.{◌≡◌, ◌↔◌, ℕ, zero, suc, ◌%◌, ◌^◌, List, [], ◌∷◌, All, Bool, true, false, not, cond, ◌||◌, length, map}
use Rattle.std.proofs.Common.{replicate, refl, sym, ap, ap₂, ◌∙◌, arith, eqb, w8, nat_eq}
use Rattle.std.proofs.Math.Dec.{ltb}
use Rattle.std.specs.List.{list_any}
use Rattle.std.specs.Simd.Lanes.{mask_l, sel_l, top, zip2}
use Rattle.std.proofs.lemmas.Bool.{lt-ltb, ltb-true, ltb-false}
use Rattle.std.proofs.lemmas.List.{length-map}
use Rattle.std.proofs.lemmas.Simd.{mask_l-mod, tops_compared, zip2_splat_left}
use Rattle.cwr_fields.specs.Steps.Lanes.{is_low, is_marked}
use Rattle.cwr_fields.proofs.lemmas.ClearLanes.{clears}

-- ---- one of two

push : (p : ℕ → Bool) (b : Bool) (x y : ℕ) → p (cond b x y) ≡ cond b (p x) (p y)
push p true x y = refl
push p false x y = refl

-- the one that is chosen is such where one of the two is
one_of : (b l m : Bool) → (b ≡ true → m ≡ true → l ≡ true) → (b ≡ false → l ≡ true → m ≡ true) → cond b l m ≡ l || m
one_of true true m f g = refl
one_of true false true f g = f refl refl
one_of true false false f g = refl
one_of false true true f g = refl
one_of false true false f g = g refl refl
one_of false false m f g = refl

low_of_lesser : (x y : ℕ) → is_low (cond (ltb x y) x y) ≡ is_low x || is_low y
low_of_lesser x y =
    push is_low (ltb x y) x y
    ∙ one_of (ltb x y) (is_low x) (is_low y)
    (λ e f. lt-ltb x 32 (omega (arith, ltb-true x y e, ltb-true y 32 f)))
    (λ e f. lt-ltb y 32 (omega (arith, ltb-false x y e, ltb-true x 32 f)))

mark_of_greater : (x y : ℕ) → is_marked (cond (ltb y x) x y) ≡ is_marked x || is_marked y
mark_of_greater x y =
    push is_marked (ltb y x) x y
    ∙ one_of (ltb y x) (is_marked x) (is_marked y)
    (λ e f. lt-ltb 0 x (omega (arith, ltb-true y x e)))
    (λ e f. lt-ltb 0 y (omega (arith, ltb-false y x e, ltb-true 0 x f)))

-- ---- all lanes

or_apart : (a b c d : Bool) → (a || b) || (c || d) ≡ (a || c) || (b || d)
or_apart true b c d = refl
or_apart false true true d = refl
or_apart false true false d = refl
or_apart false false c d = refl

both : (p : ℕ → Bool) (t : ℕ → ℕ → Bool) → ((x y : ℕ) → p (cond (t x y) x y) ≡ p x || p y) → (xs ys : List ℕ)
    → length xs ≡ length ys → list_any p (sel_l (zip2 t xs ys) xs ys) ≡ list_any p xs || list_any p ys
both p t one [] [] e = refl
both p t one [] (y ∷ ys) e = absurd (omega (arith, e))
both p t one (x ∷ xs) [] e = absurd (omega (arith, e))
both p t one (x ∷ xs) (y ∷ ys) e =
    ap₂ (λ (a b : Bool). a || b) (one x y) (both p t one xs ys (omega (arith, e)))
    ∙ or_apart (p x) (p y) (list_any p xs) (list_any p ys)

turned : (t : ℕ → ℕ → Bool) (xs ys : List ℕ) → zip2 t ys xs ≡ zip2 (λ x y. t y x) xs ys
turned t [] [] = refl
turned t [] (y ∷ ys) = refl
turned t (x ∷ xs) [] = refl
turned t (x ∷ xs) (y ∷ ys) = ap (λ (l : List Bool). t y x ∷ l) (turned t xs ys)

-- of the lesser of two lanes
pub seen_in_lesser : (xs ys : List ℕ) → length xs ≡ length ys
    → list_any is_low (sel_l (map (top 7) (zip2 (λ a b. cond (ltb a b) 255 0) xs ys)) xs ys)
    ≡ list_any is_low xs || list_any is_low ys
seen_in_lesser xs ys e =
    ap (λ (ms : List Bool). list_any is_low (sel_l ms xs ys)) (tops_compared w8 ltb xs ys)
    ∙ both is_low ltb low_of_lesser xs ys e

-- of the greater
pub seen_in_greater : (xs ys : List ℕ) → length xs ≡ length ys
    → list_any is_marked (sel_l (map (top 7) (zip2 (λ a b. cond (ltb a b) 255 0) ys xs)) xs ys)
    ≡ list_any is_marked xs || list_any is_marked ys
seen_in_greater xs ys e =
    ap (λ (ms : List Bool). list_any is_marked (sel_l ms xs ys)) (tops_compared w8 ltb ys xs ∙ turned ltb xs ys)
    ∙ both is_marked (λ x y. ltb y x) mark_of_greater xs ys e

-- ---- marks

one_mark : (b : Bool) → is_marked (cond b 255 0) ≡ b
one_mark true = refl
one_mark false = refl

marks : (t : ℕ → ℕ → Bool) (y n : ℕ) (xs : List ℕ) → length xs ≡ n
    → list_any is_marked (sel_l (zip2 t xs (replicate n y)) (replicate n 255) (replicate n 0)) ≡ list_any (λ x. t x y) xs
marks t y zero [] e = refl
marks t y (suc n) [] e = absurd (omega (arith, e))
marks t y zero (x ∷ xs) e = absurd (omega (arith, e))
marks t y (suc n) (x ∷ xs) e =
    ap₂ (λ (a b : Bool). a || b) (one_mark (t x y)) (marks t y n xs (omega (arith, e)))

-- those of a byte
pub marked : (xs : List ℕ) (y : ℕ) → length xs ≡ 32
    → list_any is_marked
    (sel_l (map (top 7) (zip2 (λ a b. cond (eqb a b) 255 0) xs (replicate 32 y))) (replicate 32 255) (replicate 32 0))
    ≡ list_any (λ x. eqb x y) xs
marked xs y e =
    ap (λ (ms : List Bool). list_any is_marked (sel_l ms (replicate 32 255) (replicate 32 0)))
    (tops_compared w8 eqb xs (replicate 32 y))
    ∙ marks eqb y 32 xs e

-- no bit is set where no lane has a mark
pub none_marked : (xs : List ℕ) → length xs ≡ 32
    → let bits : ℕ = mask_l (map (top 7) (zip2 (λ a b. cond (ltb a b) 255 0) (replicate 32 0) xs)) % 2 ^ 64 in
    (not (nat_eq bits 0) ≡ false) ↔ All (λ b. is_marked b ≡ false) xs
none_marked xs e =
    clears is_marked xs _
    (ap (λ (ms : List Bool). mask_l ms % 2 ^ 64) (tops_compared w8 ltb (replicate 32 0) xs ∙ zip2_splat_left ltb 0 32 xs e)
    ∙ mask_l-mod (map is_marked xs) 64 (omega (arith, length-map xs is_marked, e)))

-- ---- what was seen is what there is

or_swap : (a b c d : Bool) → (a || b) || (c || d) ≡ (a || c) || (b || d)
or_swap a b c d = or_apart a b c d

pub seen_more : (least deleted more_least more_deleted : List ℕ) (a b c d r : Bool) → r ≡ c || d
    → a ≡ list_any is_low least || c → b ≡ list_any is_marked deleted || d
    → a || b ≡ (list_any is_low least || list_any is_marked deleted) || r
seen_more least deleted more_least more_deleted a b c d r e f g =
    ap₂ (λ (x y : Bool). x || y) f g
    ∙ or_apart (list_any is_low least) c (list_any is_marked deleted) d
    ∙ ap (λ (x : Bool). (list_any is_low least || list_any is_marked deleted) || x) (sym e)

either : (s t : ℕ → Bool) (xs : List ℕ) → list_any s xs || list_any t xs ≡ list_any (λ x. s x || t x) xs
either s t [] = refl
either s t (x ∷ xs) =
    or_apart (s x) (list_any s xs) (t x) (list_any t xs) ∙ ap (λ (b : Bool). (s x || t x) || b) (either s t xs)

pub seen_of : (xs : List ℕ) (b : Bool) → b ≡ list_any (λ x. eqb x 127) xs
    → list_any is_low xs || b ≡ list_any (λ x. ltb x 32 || eqb x 127) xs
seen_of xs b e = ap (λ (c : Bool). list_any is_low xs || c) e ∙ either is_low (λ x. eqb x 127) xs

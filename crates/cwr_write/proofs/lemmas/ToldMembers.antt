-- The members that say something, member by member.
use Rattle.std.proofs.Common.{◌≡◌, ℕ, ◌+◌, ◌<◌, ◌≤◌, suc, Bool, true, false, cond, ◌&&◌, true≢false, arith, List, [], ◌∷◌, ◌++◌}
use Rattle.std.proofs.Common.{length, map, take, drop, get_or, Option, Some, None, refl, sym, ap, subst, ◌∙◌}
use Rattle.std.specs.Borrow.{Bor}
use Rattle.std.specs.Str.{bytes_eq}
use Rattle.std.proofs.lemmas.List.{drop_all, map-append, take_all, take_more}
use Rattle.std.specs.Prelude.{Result, Ok, Err, IfErr, IfOk, OnErr}
use Rattle.std.proofs.Math.Seq.{drop-cons}
use Rattle.cwr_fields.specs.declared.kinds.Kind.{Kind}
use Rattle.cwr_fields.specs.Format.Kinds.{letters}
use Rattle.json.specs.Json.{Json, string, Members, no_members, member}
use Rattle.json.specs.Value.{members_of, members_view, value_view}
use Rattle.json.specs.declared.value.Value.{Value}
use Rattle.cwr_json.specs.Format.Forms.{first_of, says, told}
use Rattle.cwr_json.proofs.lemmas.OwnData.{bytes_same, same_bytes}
use Rattle.cwr_write.specs.Steps.Filling.{with_last}
use Rattle.cwr_write.proofs.lemmas.FilledDrafts.{flipped}

either : (s b : Bool) (k l : List ℕ) (j i : Json) (rest more : Members) → more ≡ cond b (with_last rest k j) rest
    → cond s (member l i more) more ≡ cond b (with_last (cond s (member l i rest) rest) k j) (cond s (member l i rest) rest)
unfolding with_last
either true true k l j i rest more e = ap (λ (ms : Members). member l i ms) e
either true false k l j i rest more e = ap (λ (ms : Members). member l i ms) e
either false true k l j i rest more e = e
either false false k l j i rest more e = e

told_last : (ms : List (Bor (List ℕ) × Json)) (m : Bor (List ℕ) × Json) → told (members_of (ms ++ m ∷ []))
    ≡ cond (says m.0.now m.1) (with_last (told (members_of ms)) m.0.now m.1) (told (members_of ms))
unfolding told with_last
told_last [] m = refl
told_last (n ∷ ms) m =
    either (says n.0.now n.1) (says m.0.now m.1) m.0.now n.0.now m.1 n.1 (told (members_of ms)) (told (members_of (ms ++ m ∷ [])))
    (told_last ms m)

-- with one more of a list
pub told_more : {A : Type 0} (items : List (Bor (List ℕ) × Value A)) (i : ℕ) (m : Bor (List ℕ) × Value A) → i < length items
    → m ≡ get_or items i m
    → told (members_view (take (i + 1) items)) ≡ cond (says m.0.now (value_view m.1))
    (with_last (told (members_view (take i items))) m.0.now (value_view m.1)) (told (members_view (take i items)))
told_more {A = A} items i m h e =
    let view : (Bor (List ℕ) × Value A) → (Bor (List ℕ) × Json) = λ x. (x.0, value_view x.1) in
    let one : take (i + 1) items ≡ take i items ++ m ∷ [] =
    take_more items i m h ∙ ap (λ (x : Bor (List ℕ) × Value A). take i items ++ x ∷ []) (sym e) in
    ap (λ (l : List (Bor (List ℕ) × Value A)). told (members_view l)) one
    ∙ ap (λ (l : List (Bor (List ℕ) × Json)). told (members_of l)) (map-append view (take i items) (m ∷ []))
    ∙ told_last (map view (take i items)) (view m)

-- ---- the member that names a kind

suc_is : (n : ℕ) → suc n ≡ n + 1
suc_is n = omega arith

pub told_from : {A : Type 0} (items : List (Bor (List ℕ) × Value A)) (i : ℕ) (m : Bor (List ℕ) × Value A) → i < length items
    → m ≡ get_or items i m
    → told (members_view (drop i items)) ≡ cond (says m.0.now (value_view m.1))
    (member m.0.now (value_view m.1) (told (members_view (drop (i + 1) items)))) (told (members_view (drop (i + 1) items)))
unfolding told
told_from {A = A} items i m h e =
    ap (λ (l : List (Bor (List ℕ) × Value A)). told (members_view l)) (drop-cons items i m h
    ∙ ap (λ (x : Bor (List ℕ) × Value A). x ∷ drop (suc i) items) (sym e) ∙ ap (λ (n : ℕ). m ∷ drop n items) (suc_is i))

first_if : (s b : Bool) (k l : List ℕ) (j : Json) (rest : Members) → (s && b) ≡ false → bytes_eq l k ≡ b
    → first_of k (cond s (member l j rest) rest) ≡ first_of k rest
unfolding first_of
first_if true true k l j rest h e = absurd (true≢false h)
first_if true false k l j rest h e = ap (λ (b : Bool). cond b (Some j) (first_of k rest)) (flipped l k e)
first_if false b k l j rest h e = refl

first_hit : (s b : Bool) (k l : List ℕ) (j : Json) (rest : Members) → (s && b) ≡ true → bytes_eq l k ≡ b
    → first_of k (cond s (member l j rest) rest) ≡ Some j
unfolding first_of
first_hit true true k l j rest h e =
    ap (λ (b : Bool). cond b (Some j) (first_of k rest)) (ap (λ (x : List ℕ). bytes_eq k x) (bytes_same l k e) ∙ same_bytes k)
first_hit true false k l j rest h e = absurd (true≢false (sym h))
first_hit false b k l j rest h e = absurd (true≢false (sym h))

-- a member that doesn't name it is passed
pub kind_passed : {A : Type 0} (items : List (Bor (List ℕ) × Value A)) (i : ℕ) (m : Bor (List ℕ) × Value A) (k : List ℕ)
    → i < length items → m ≡ get_or items i m → (says m.0.now (value_view m.1) && bytes_eq m.0.now k) ≡ false
    → first_of k (told (members_view (drop i items))) ≡ first_of k (told (members_view (drop (i + 1) items)))
kind_passed items i m k h e passed =
    ap (first_of k) (told_from items i m h e) ∙ first_if (says m.0.now (value_view m.1)) (bytes_eq m.0.now k) k m.0.now
    (value_view m.1) (told (members_view (drop (i + 1) items))) passed refl

-- and one that does has its value
pub kind_found : {A E : Type 0} (items : List (Bor (List ℕ) × Value A)) (i : ℕ) (m : Bor (List ℕ) × Value A) (k : List ℕ)
    (whole : Option Json) (answer : Result Kind E) → i < length items → m ≡ get_or items i m
    → (says m.0.now (value_view m.1) && bytes_eq m.0.now k) ≡ true → whole ≡ first_of k (told (members_view (drop i items)))
    → IfOk answer (λ kind. value_view m.1 ≡ string (letters kind))
    → IfOk answer (λ kind. whole ≡ Some (string (letters kind)))
kind_found {E = E} items i m k whole answer h e names so_far named =
    by answer (so_far ∙ ap (first_of k) (told_from items i m h e) ∙ first_hit (says m.0.now (value_view m.1)) (bytes_eq m.0.now k)
    k m.0.now (value_view m.1) (told (members_view (drop (i + 1) items))) names refl) named
  where
    by : (a : Result Kind E) → whole ≡ Some (value_view m.1) → IfOk a (λ kind. value_view m.1 ≡ string (letters kind))
        → IfOk a (λ kind. whole ≡ Some (string (letters kind)))
    by (Ok kind) found n = found ∙ ap (λ (j : Json). Some j) n
    by (Err w) found n = tt

pub kind_unnamed : {A E : Type 0} (items : List (Bor (List ℕ) × Value A)) (i : ℕ) (m : Bor (List ℕ) × Value A) (k : List ℕ)
    (whole : Option Json) (answer : Result Kind E) → i < length items → m ≡ get_or items i m
    → (says m.0.now (value_view m.1) && bytes_eq m.0.now k) ≡ true → whole ≡ first_of k (told (members_view (drop i items)))
    → OnErr answer ((kind : Kind) → ¬ (value_view m.1 ≡ string (letters kind)))
    → OnErr answer ((kind : Kind) → ¬ (whole ≡ Some (string (letters kind))))
kind_unnamed {E = E} items i m k whole answer h e names so_far unnamed =
    by answer (so_far ∙ ap (first_of k) (told_from items i m h e) ∙ first_hit (says m.0.now (value_view m.1)) (bytes_eq m.0.now k)
    k m.0.now (value_view m.1) (told (members_view (drop (i + 1) items))) names refl) unnamed
  where
    by : (a : Result Kind E) → whole ≡ Some (value_view m.1)
        → OnErr a ((kind : Kind) → ¬ (value_view m.1 ≡ string (letters kind)))
        → OnErr a ((kind : Kind) → ¬ (whole ≡ Some (string (letters kind))))
    by (Ok kind) found n = tt
    by (Err w) found n =
        λ kind named. let both : Some (value_view m.1) ≡ Some (string (letters kind)) = sym found ∙ named in n kind (cc both)

pub kind_reason : {A E : Type 0} (items : List (Bor (List ℕ) × Value A)) (i : ℕ) (m : Bor (List ℕ) × Value A) (k : List ℕ)
    (whole : Option Json) (answer : Result Kind E) (P : Option Json → E → Type 0) → i < length items → m ≡ get_or items i m
    → (says m.0.now (value_view m.1) && bytes_eq m.0.now k) ≡ true → whole ≡ first_of k (told (members_view (drop i items)))
    → IfErr answer (P (Some (value_view m.1))) → IfErr answer (P whole)
kind_reason {E = E} items i m k whole answer P h e names so_far told_so =
    subst (λ (o : Option Json). IfErr answer (P o))
    (sym (so_far ∙ ap (first_of k) (told_from items i m h e) ∙ first_hit (says m.0.now (value_view m.1)) (bytes_eq m.0.now k) k
    m.0.now (value_view m.1) (told (members_view (drop (i + 1) items))) names refl)) told_so

pub none_has : {A : Type 0} (items : List (Bor (List ℕ) × Value A)) (i : ℕ) (k : List ℕ) → length items ≤ i
    → first_of k (told (members_view items)) ≡ first_of k (told (members_view (drop i items)))
    → first_of k (told (members_view items)) ≡ None
unfolding first_of told
none_has {A = A} items i k h so_far =
    so_far ∙ ap (λ (l : List (Bor (List ℕ) × Value A)). first_of k (told (members_view l))) (drop_all i items h)

-- no member is left
pub none_left : {A : Type 0} (items : List (Bor (List ℕ) × Value A)) (i : ℕ) (k : List ℕ) (j : Json) → length items ≤ i
    → first_of k (told (members_view items)) ≡ first_of k (told (members_view (drop i items)))
    → first_of k (told (members_view items)) ≡ Some j → ⊥
unfolding first_of told
none_left {A = A} items i k j h so_far found =
    let none : first_of k (told (members_view (drop i items))) ≡ None =
    ap (λ (l : List (Bor (List ℕ) × Value A)). first_of k (told (members_view l))) (drop_all i items h) in
    let both : Some j ≡ None = sym found ∙ so_far ∙ none in
    cc both

-- the same of a list that is equal
pub member_in : {X : Type 0} (items others : List X) (i : ℕ) (m : X) → items ≡ others → i < length items → m ≡ get_or items i m
    → (i < length others) × (m ≡ get_or others i m)
member_in {X = X} items others i m e h k = (subst (λ (l : List X). i < length l) e h, k ∙ ap (λ (l : List X). get_or l i m) e)

pub told_none : told no_members ≡ no_members
unfolding told
told_none = refl

-- the first of a list that are all of it
pub told_all : {A : Type 0} (items : List (Bor (List ℕ) × Value A)) (i : ℕ) → length items ≤ i
    → told (members_view (take i items)) ≡ told (members_view items)
told_all {A = A} items i h = ap (λ (l : List (Bor (List ℕ) × Value A)). told (members_view l)) (take_all i items h)

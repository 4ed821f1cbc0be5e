-- Cells that hold codes, and members of tables that are found by their cells and by their places.
use Rattle.std.proofs.Common.{◌≡◌, ℕ, zero, suc, ◌+◌, ◌-◌, ◌≤◌, ◌<◌, Bool, true, false, cond, List, [], ◌∷◌, ◌++◌, length, map}
use Rattle.std.proofs.Common.{take, drop, replicate, Option, Some, None, IsSome, IfSome, refl, sym, ap, ap₂, ◌∙◌, arith}
use Rattle.std.proofs.Common.{true≢false, slice_get, slice_index_or, drop-cons, add-one}
use Rattle.std.specs.Prelude.{◌↔◌, IsTrue}
use Rattle.std.specs.List.{find}
use Rattle.std.specs.Option.{option_map}
use Rattle.std.specs.Str.{bytes_eq}
use Rattle.std.proofs.Math.Seq.{drop-append_seam, take-append_seam}
use Rattle.std.proofs.Math.ListN.{drop_of_length-le}
use Rattle.std.proofs.lemmas.List.{take-append-drop}
use Rattle.std.proofs.lemmas.Slice.Eq.{bytes_eq-Decides}
use denote.Ref.{Bor}
use Rattle.cwr_fields.specs.Format.Bytes.{filled, is_spaces}
use Rattle.cwr_fields.specs.Format.Members.{coded, member_with}
use Rattle.cwr_fields.specs.Steps.Members.{listed, listed_with}
use Rattle.cwr_fields.specs.Format.MemberLaws.{find_passes}
use Rattle.cwr_fields.specs.Format.Cells.{IsCodeOf}
use Rattle.cwr_fields.proofs.lemmas.Blanks.{blank, spaces}

-- a cell that begins with the code is that code filled up, where the rest is spaces
pub fills : (code cell rest : List ℕ) (test : Bool) → (bytes_eq (take (length code) cell) code ≡ true)
    × (rest ≡ drop (length code) cell) × (length rest + length code ≡ length cell)
    → test ≡ is_spaces rest → IsTrue test ↔ (cell ≡ filled (length cell) code)
fills code cell rest test parts same = (
  λ h. let back : rest ≡ replicate (length cell - length code) 32 =
      blank (length cell - length code) rest (omega (arith, parts.2)) (sym same ∙ h) in
      sym (take-append-drop (length code) cell)
      ∙ ap₂ (λ (xs ys : List ℕ). xs ++ ys) ((bytes_eq-Decides (take (length code) cell) code).0 parts.0) (sym parts.1 ∙ back),
  λ e. same ∙ spaces (length cell - length code) rest
      (parts.1 ∙ ap (drop (length code)) e ∙ drop-append_seam code (replicate (length cell - length code) 32)),
)

-- a cell that doesn't begin with the code isn't that code filled up
pub begins_otherwise : (code cell : List ℕ) → bytes_eq (take (length code) cell) code ≡ false → IsTrue false
    ↔ (cell ≡ filled (length cell) code)
begins_otherwise code cell h = (
  λ f. absurd (true≢false (sym f)),
  λ e. let front : take (length code) cell ≡ code =
      ap (take (length code)) e ∙ take-append_seam code (replicate (length cell - length code) 32) in
      sym h ∙ (bytes_eq-Decides (take (length code) cell) code).1 front,
)

-- the code at a member's place is its own
pub code_at : {C : Type 0} (list : List (C × Bor (List ℕ))) (code : C → List ℕ) (members : List C) (i : ℕ) (x : C)
    (p : C × Bor (List ℕ))
    → map listed list ≡ map (coded code) members → slice_get members i ≡ Some x → p ≡ slice_index_or list i p → p.1.now ≡ code x
code_at [] code [] i x p same there here = cc
code_at [] code (y ∷ members) i x p same there here = cc
code_at (q ∷ list) code [] i x p same there here = cc
code_at (q ∷ list) code (y ∷ members) zero x p same there here =
    let heads : listed q ≡ coded code y = cc in
    let it : y ≡ x = cc in
    ap (λ r. r.1.now) here ∙ ap (λ r. r.1) heads ∙ ap code it
code_at (q ∷ list) code (y ∷ members) (suc i) x p same there here =
    let tails : map listed list ≡ map (coded code) members = cc in
    code_at list code members i x p tails there here

-- the rest of a list, from a place that holds a pair
rest_from : {C : Type 0} (list : List (C × Bor (List ℕ))) (i : ℕ) (p : C × Bor (List ℕ)) → i < length list
    → p ≡ slice_index_or list i p → drop i list ≡ p ∷ drop (suc i) list
rest_from list i p inside is = drop-cons list i p inside ∙ ap (λ q. q ∷ drop (suc i) list) (sym is)

-- a search ends at the pair whose code fills the cell
pub found_at : {C : Type 0} (list : List (C × Bor (List ℕ))) (cell : List ℕ) (i : ℕ) (p : C × Bor (List ℕ)) → i < length list
    → p ≡ slice_index_or list i p → cell ≡ filled (length cell) p.1.now
    → listed_with (map listed (drop i list)) (length cell) cell ≡ Some p.0
found_at list cell i p inside is e =
    ap (λ l. listed_with (map listed l) (length cell) cell) (rest_from list i p inside is)
    ∙ ap (λ b. option_map (λ q. q.0)
    (cond b (Some (listed p)) (find (λ q. bytes_eq cell (filled (length cell) q.1)) (map listed (drop (suc i) list)))))
    ((bytes_eq-Decides cell (filled (length cell) p.1.now)).1 e)

not_equal : (xs ys : List ℕ) (b : Bool) → bytes_eq xs ys ≡ b → ¬ (xs ≡ ys) → bytes_eq xs ys ≡ false
not_equal xs ys true e h = absurd (h ((bytes_eq-Decides xs ys).0 e))
not_equal xs ys false e h = e

-- and goes past each other pair
pub passed_at : {C : Type 0} (list : List (C × Bor (List ℕ))) (cell : List ℕ) (i : ℕ) (p : C × Bor (List ℕ)) → i < length list
    → p ≡ slice_index_or list i p → ¬ (cell ≡ filled (length cell) p.1.now)
    → listed_with (map listed (drop i list)) (length cell) cell ≡ listed_with (map listed (drop (i + 1) list)) (length cell) cell
passed_at list cell i p inside is h =
    ap (λ l. listed_with (map listed l) (length cell) cell) (rest_from list i p inside is)
    ∙ ap (λ b. option_map (λ q. q.0)
    (cond b (Some (listed p)) (find (λ q. bytes_eq cell (filled (length cell) q.1)) (map listed (drop (suc i) list)))))
    (not_equal cell (filled (length cell) p.1.now) (bytes_eq cell (filled (length cell) p.1.now)) refl h)
    ∙ ap (λ j. listed_with (map listed (drop j list)) (length cell) cell) (sym (add-one i))

-- until the end
pub none_from : {C : Type 0} (list : List (C × Bor (List ℕ))) (cell : List ℕ) (i : ℕ) → length list ≤ i
    → listed_with (map listed (drop i list)) (length cell) cell ≡ None
none_from list cell i over = ap (λ l. listed_with (map listed l) (length cell) cell) (drop_of_length-le list over)

-- a search of such a list is one of the members
find_member : {C : Type 0} (code : C → List ℕ) (members : List C) (width : ℕ) (cell : List ℕ)
    → listed_with (map (coded code) members) width cell ≡ member_with code members width cell
find_member code [] width cell = refl
find_member code (x ∷ members) width cell =
    elim (bytes_eq cell (filled width (code x))) as (λ b. option_map (λ p. p.0)
    (cond b (Some (x, code x)) (find (λ p. bytes_eq cell (filled width p.1)) (map (coded code) members))) ≡ cond b (Some x)
    (member_with code members width cell)) [
      | true ↦ refl
      | false ↦ find_member code members width cell
    ]

-- what is found in the list of a table's members is the member with that cell
pub member_listed : {C : Type 0} (list : List (C × Bor (List ℕ))) (code : C → List ℕ) (members : List C) (width : ℕ)
    (cell : List ℕ) (r : Option C)
    → map listed list ≡ map (coded code) members → length cell ≡ width → r ≡ listed_with (map listed list) (length cell) cell
    → r ≡ member_with code members width cell
member_listed list code members width cell r same wide e =
    e ∙ ap (λ l. listed_with l (length cell) cell) same ∙ find_member code members (length cell) cell
    ∙ ap (λ w. member_with code members w cell) wide

-- a member is found exactly where the cell is a code
some_first : {C : Type 0} (y : C) (rest : Option C) (b : Bool) → IsSome rest → IsSome (cond b (Some y) rest)
some_first y rest true h = refl
some_first y rest false h = h

some_found : {C : Type 0} (test : C → Bool) (code : C → List ℕ) (members : List C) (c : List ℕ) (i : ℕ)
    → i < length (map code members) → c ≡ slice_index_or (map code members) i c
    → ((x : C) → code x ≡ c → test x ≡ true) → IsSome (find test members)
some_found test code [] c i h e passes = absurd (omega arith)
some_found test code (y ∷ members) c zero h e passes = rw (passes y (sym e)) refl
some_found test code (y ∷ members) c (suc i) h e passes =
    some_first y (find test members) (test y) (some_found test code members c i (omega arith) e passes)

code_of_found : {C : Type 0} (code : C → List ℕ) (members : List C) (width : ℕ) (cell : List ℕ) (r : Option C)
    → member_with code members width cell ≡ r → IsSome r → IsCodeOf (map code members) width cell
code_of_found code members width cell (Some x) e h =
    let m = find_passes (λ y. bytes_eq cell (filled width (code y))) code members x e in
    (code x, m.1, (bytes_eq-Decides cell (filled width (code x))).0 m.0)
code_of_found code members width cell None e h = absurd (true≢false (sym h))

pub found_where_code : {C : Type 0} (code : C → List ℕ) (members : List C) (width : ℕ) (cell : List ℕ)
    → IsSome (member_with code members width cell) ↔ IsCodeOf (map code members) width cell
found_where_code code members width cell = (
  code_of_found code members width cell (member_with code members width cell) refl,
  λ m. some_found (λ x. bytes_eq cell (filled width (code x))) code members m.0 m.1.0 m.1.1.0 m.1.1.1
      (λ x e. (bytes_eq-Decides cell (filled width (code x))).1 (m.2 ∙ ap (filled width) (sym e))),
)

-- and its cell is the cell
pub cell_of_found : {C : Type 0} (code : C → List ℕ) (members : List C) (width : ℕ) (cell : List ℕ) (r : Option C)
    → member_with code members width cell ≡ r → IfSome r (λ x. filled width (code x) ≡ cell)
cell_of_found code members width cell None e = tt
cell_of_found code members width cell (Some x) e =
    sym ((bytes_eq-Decides cell (filled width (code x))).0
    (find_passes (λ y. bytes_eq cell (filled width (code y))) code members x e).0)

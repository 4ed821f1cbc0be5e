-- What holds of the cells of a table's members, where each member is the first with its cell.
use Rattle.std.proofs.Common.{◌≡◌, ℕ, suc, ◌-◌, ◌≤◌, Bool, true, false, cond, List, [], ◌∷◌, length, map, replicate, Some, sym}
use Rattle.std.proofs.Common.{ap, ◌∙◌, subst, arith, length-append}
use Rattle.std.specs.List.{IsAmong, find}
use Rattle.std.specs.Str.{bytes_eq}
use Rattle.std.proofs.lemmas.List.{length-replicate}
use Rattle.cwr_fields.specs.Format.Bytes.{filled}
use Rattle.cwr_fields.specs.Format.Members.{member_with}
use Rattle.cwr_fields.specs.Format.Cells.{IsCodeOf}

-- the width of a filled cell
pub length-filled : (width : ℕ) (code : List ℕ) → length code ≤ width → length (filled width code) ≡ width
length-filled width code h =
    omega (arith, length-append code (replicate (width - length code) 32), length-replicate {A = ℕ} (width - length code) 32)

-- what a search finds passes its test, and its code is one of the codes
abbrev pub Passes : {C : Type 0} → (C → Bool) → (C → List ℕ) → List C → C → Type 0
Passes test code members x = (test x ≡ true) × IsAmong (map code members) (code x)

passes_first : {C : Type 0} (test : C → Bool) (code : C → List ℕ) (y : C) (members : List C) (x : C) (b : Bool) → test y ≡ b
    → (find test members ≡ Some x → Passes test code members x) → cond b (Some y) (find test members) ≡ Some x
    → Passes test code (y ∷ members) x
passes_first test code y members x true here rest e =
    let same : y ≡ x = cc in (subst (λ z. test z ≡ true) same here, (0, (omega arith, ap code (sym same))))
passes_first test code y members x false here rest e = let m = rest e in (m.0, (suc m.1.0, (omega (arith, m.1.1.0), m.1.1.1)))

pub find_passes : {C : Type 0} (test : C → Bool) (code : C → List ℕ) (members : List C) (x : C) → find test members ≡ Some x
    → Passes test code members x
find_passes test code [] x e = cc
find_passes test code (y ∷ members) x e =
    passes_first test code y members x (test y) (λ i. test y) (find_passes test code members x) e

-- a member's cell is a code of the table
pub cell_is_code : {C : Type 0} (code : C → List ℕ) (members : List C) (width : ℕ) (x : C)
    → member_with code members width (filled width (code x)) ≡ Some x
    → IsCodeOf (map code members) width (filled width (code x))
cell_is_code code members width x found = (
  code x,
  (find_passes (λ y. bytes_eq (filled width (code x)) (filled width (code y))) code members x found).1,
  λ i. filled width (code x),
)

-- members with the same cell are the same
pub same_member : {C : Type 0} (code : C → List ℕ) (members : List C) (width : ℕ) (x y : C)
    → member_with code members width (filled width (code x)) ≡ Some x
    → member_with code members width (filled width (code y)) ≡ Some y → filled width (code x) ≡ filled width (code y) → x ≡ y
same_member code members width x y p q e =
    let both : Some x ≡ Some y = sym p ∙ ap (member_with code members width) e ∙ q in cc

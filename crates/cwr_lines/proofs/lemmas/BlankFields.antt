-- Behind what a line's trailing spaces leave each cell is blank.
use Rattle.std.proofs.Common.{◌≡◌, ◌≢◌, ℕ, zero, suc, ◌+◌, ◌-◌, ◌<◌, ◌≤◌, Bool, true, false, ◌&&◌, ◌==◌, List, [], ◌∷◌, ◌++◌, length, take, drop}
use Rattle.std.proofs.Common.{nat_lt, if◌then◌else◌, replicate, refl, sym, ap, subst, ◌∙◌, arith, IsTrue, option_map, slice_get}
use Rattle.std.specs.Prelude.{Option, Some, None, IfSome, IsSomeAnd}
use Rattle.std.specs.Option.{option_and_then}
use Rattle.std.proofs.lemmas.Bool.{ltb-true, ltb-false}
use Rattle.std.proofs.lemmas.Option.{slice_get_past}
use Rattle.cwr_fields.specs.Format.Bytes.{is_spaces, trimmed}
use Rattle.cwr_fields.specs.declared.kinds.Kind.{Kind}
use Rattle.cwr_fields.specs.Format.Layouts.{FieldLayout, field_with_start, layout}
use Rattle.cwr_fields.proofs.lemmas.TrimmedTexts.{spaces_after}
use Rattle.cwr_lines.specs.Format.Records.{RecordValue}
use Rattle.cwr_lines.specs.Format.Carried.{carried_before, carried_with_start, record_cell}
use Rattle.cwr_lines.specs.Steps.Carried.{record_in}
use Rattle.cwr_lines.proofs.lemmas.CarriedCells.{cell_found, field_with_start-carried, no_cell_found}
use Rattle.cwr_lines.proofs.lemmas.CellParts.{part}

-- ---- parts of spaces

rest_of : (a b : Bool) → (a && b) ≡ true → b ≡ true
rest_of true b h = h
rest_of false b h = absurd (cc h)

first_of : (a b : Bool) → (a && b) ≡ true → a ≡ true
first_of true b h = refl
first_of false b h = absurd (cc h)

spaces_all : (n : ℕ) → is_spaces (replicate n 32) ≡ true
spaces_all zero = refl
spaces_all (suc n) = spaces_all n

spaces-drop : (n : ℕ) (text : List ℕ) → is_spaces text ≡ true → is_spaces (drop n text) ≡ true
spaces-drop zero text h = h
spaces-drop (suc n) [] h = refl
spaces-drop (suc n) (b ∷ text) h = spaces-drop n text (rest_of (b == 32) (is_spaces text) h)

spaces-take : (n : ℕ) (text : List ℕ) → is_spaces text ≡ true → is_spaces (take n text) ≡ true
spaces-take zero text h = refl
spaces-take (suc n) [] h = refl
spaces-take (suc n) (b ∷ text) h =
    ap (λ (x : Bool). x && is_spaces (take n text)) (first_of (b == 32) (is_spaces text) h)
    ∙ spaces-take n text (rest_of (b == 32) (is_spaces text) h)

behind : (n : ℕ) (front spaces : List ℕ) → length front ≤ n → is_spaces spaces ≡ true → is_spaces (drop n (front ++ spaces)) ≡ true
behind n [] spaces h blank = spaces-drop n spaces blank
behind zero (b ∷ front) spaces h blank = absurd (omega (arith, h))
behind (suc n) (b ∷ front) spaces h blank = behind n front spaces (omega (arith, h)) blank

-- what a field takes of a line is blank where it starts behind what trimming leaves
blank_part : (line : List ℕ) (p : ℕ × FieldLayout) → length (trimmed line) ≤ p.0 → IsTrue (is_spaces (part line p))
blank_part line p h =
    let s = spaces_after line in
    spaces-take p.1.width (drop p.0 line)
    (ap (λ (text : List ℕ). is_spaces (drop p.0 text)) s.1 ∙ behind p.0 (trimmed line) (replicate s.0 32) h (spaces_all s.0))

-- ---- cells of fields

-- the record's cell of the field is blank, where it has one
abbrev pub IsBlankAt : RecordValue → ℕ → Type 0
IsBlankAt r j = IfSome (record_cell r j) (λ cell. IsTrue (is_spaces cell))

-- behind the last field there are no cells
pub blank_past : (r : RecordValue) (j : ℕ) → length (layout r.kind) < j → IsBlankAt r j
blank_past r zero h = absurd (omega (arith, h))
blank_past r (suc i) h =
    let none : slice_get (layout r.kind) i ≡ None = slice_get_past (layout r.kind) i (omega (arith, h)) in
    let is : None ≡ slice_get (layout r.kind) i = sym none in
    subst (λ (o : Option FieldLayout). IfSome (option_and_then (λ _. slice_get r.cells (carried_before r.kind (suc i)))
    (option_and_then (λ (f : FieldLayout). if f.derived then None else Some f) o)) (λ cell. IsTrue (is_spaces cell))) is tt

-- a field that starts behind what trimming the line leaves
pub blank_here : (kind : Kind) (line : List ℕ) (j : ℕ) (r : RecordValue) → record_in kind line ≡ r
    → IsSomeAnd (field_with_start kind j) (λ p. length (trimmed line) ≤ p.0) → IsBlankAt r j
blank_here kind line j r same there = by (carried_with_start kind j) refl where
  by : (o : Option (ℕ × FieldLayout)) → carried_with_start kind j ≡ o → IsBlankAt r j
  by None e =
      let none : None ≡ record_cell r j = no_cell_found kind line j r same (sym e) in
      subst (λ (o : Option (List ℕ)). IfSome o (λ cell. IsTrue (is_spaces cell))) none tt
  by (Some p) e =
      let found : Some (part line p) ≡ record_cell r j = cell_found kind line j p r same (sym e) in
      let start : field_with_start kind j ≡ Some p = field_with_start-carried kind j p e in
      let far : length (trimmed line) ≤ p.0 =
      subst (λ (o : Option (ℕ × FieldLayout)). IsSomeAnd o (λ p. length (trimmed line) ≤ p.0)) start there in
      subst (λ (o : Option (List ℕ)). IfSome o (λ cell. IsTrue (is_spaces cell))) found (blank_part line p far)

-- and so are all from it on
pub blank_from : (r : RecordValue) (filled j : ℕ) → ((i : ℕ) → filled < i → IsBlankAt r i) → IsBlankAt r filled → filled - 1 < j
    → IsBlankAt r j
blank_from r filled j behind here h = by (nat_lt filled j) refl where
  by : (b : Bool) → nat_lt filled j ≡ b → IsBlankAt r j
  by true e = behind j (ltb-true filled j e)
  by false e =
      let same : filled ≡ j = omega (arith, h, ltb-false filled j e) in
      subst (λ (i : ℕ). IsBlankAt r i) same here

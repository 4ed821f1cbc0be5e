-- The cells of a record that have IPI name numbers, by the fields of its kind.
use Prim.Native.String.{String}
use Rattle.std.proofs.Common.{◌≡◌, ℕ, zero, suc, ◌<◌, Bool, true, false, cond, List, [], ◌∷◌, length, Some, None, refl, sym, ap}
use Rattle.std.proofs.Common.{ap₂, subst, ◌∙◌, arith}
use Rattle.std.proofs.lemmas.Bool.{ne_eqb}
use Rattle.std.specs.Prelude.{◌==◌, ◌≢◌, ◌||◌, codes, find, option_map, slice_get, take, unwrap_or, zip}
use Rattle.std.specs.List.{list_any}
use Rattle.std.specs.Str.{bytes_eq}
use Rattle.cwr_fields.specs.declared.kinds.Kind.{Kind}
use Rattle.cwr_fields.specs.declared.kinds.Kind.TheVariants.{Ipa, Spu, Opu, Swr, Owr, Ewt, Ver, Per, Com}
use Rattle.cwr_fields.specs.Format.Bytes.{trimmed}
use Rattle.cwr_fields.specs.Format.Layouts.{FieldLayout}
use Rattle.cwr_lines.specs.Format.Carried.{record_cell}
use Rattle.cwr_lines.specs.Format.Records.{IsRecord, RecordValue, carried_fields, cell_named}
use Rattle.cwr_findings.specs.Format.Fields.{IsField}
use Rattle.cwr_findings.proofs.lemmas.NamedCells.{named_cell}
use Rattle.cwr_select.specs.Format.Criteria.{is_party, names_party, party_cells, significant}
use Rattle.cwr_select.specs.Steps.Parties.{party_fields}

-- ---- a name that a kind doesn't have

none_found : (name : List ℕ) (fields : List FieldLayout) (cells : List (List ℕ))
    → list_any (λ f. bytes_eq f.name name) fields ≡ false
    → find (λ (p : FieldLayout × List ℕ). bytes_eq p.0.name name) (zip fields cells) ≡ None
none_found name [] cells h = refl
none_found name (f ∷ fields) [] h = refl
none_found name (f ∷ fields) (c ∷ cells) h = by (bytes_eq f.name name) h (none_found name fields cells)
  where
    by : (b : Bool) → (b || list_any (λ g. bytes_eq g.name name) fields) ≡ false
        → (list_any (λ g. bytes_eq g.name name) fields ≡ false
        → find (λ (p : FieldLayout × List ℕ). bytes_eq p.0.name name) (zip fields cells) ≡ None)
        → cond b (Some (f, c)) (find (λ (p : FieldLayout × List ℕ). bytes_eq p.0.name name) (zip fields cells)) ≡ None
    by true e rest = absurd (cc e)
    by false e rest = rest e

absent : (name : String) (kind : Kind) (r : RecordValue) → r.kind ≡ kind
    → list_any (λ f. bytes_eq f.name (codes name)) (carried_fields kind) ≡ false → cell_named name r ≡ []
absent name kind r e h =
    ap (λ (o : _). unwrap_or (option_map (λ (p : FieldLayout × List ℕ). p.1) o) [])
    (none_found (codes name) (carried_fields r.kind) r.cells
    (subst (λ (k : Kind). list_any (λ f. bytes_eq f.name (codes name)) (carried_fields k) ≡ false) (sym e) h))

-- ---- the cells

-- the cell of a field, and none where it has none
abbrev cell_of : RecordValue → ℕ → List ℕ
cell_of r j = unwrap_or (record_cell r j) []

-- a test that no blank passes says the same of the cells of a record as of those of its kind's fields
abbrev pub AreAt : Kind → ℕ × ℕ → Type 0
AreAt kind fields = (r : RecordValue) → r.kind ≡ kind → IsRecord r → (p : List ℕ → Bool) → p [] ≡ false
    → list_any p (party_cells r) ≡ (p (cell_of r fields.0) || p (cell_of r fields.1))

first_alone : (u v w t : Bool) → v ≡ false → w ≡ false → t ≡ false → (u || (v || (w || false))) ≡ (u || t)
first_alone true v w t a b c = refl
first_alone false v w t a b c = ap₂ (λ (x y : Bool). x || (y || false)) a b ∙ sym c

others_alone : (u v w : Bool) → u ≡ false → (u || (v || (w || false))) ≡ (v || w)
others_alone u true w a = ap (λ (x : Bool). x || true) a
others_alone u false true a = ap (λ (x : Bool). x || true) a
others_alone u false false a = ap (λ (x : Bool). x || false) a

-- one field has the first
one_field : (kind : Kind) (j : ℕ) → IsField "ipi name number" kind j 11
    → list_any (λ f. bytes_eq f.name (codes "writer 1 ipi name number")) (carried_fields kind) ≡ false
    → list_any (λ f. bytes_eq f.name (codes "writer 2 ipi name number")) (carried_fields kind) ≡ false → AreAt kind (j, 0)
one_field kind j at first second = λ r e fits p none.
    let own : cell_named "ipi name number" r ≡ cell_of r j = sym (named_cell "ipi name number" kind j 11 r at e fits) in
    first_alone (p (cell_named "ipi name number" r)) (p (cell_named "writer 1 ipi name number" r))
    (p (cell_named "writer 2 ipi name number" r)) (p []) (ap p (absent "writer 1 ipi name number" kind r e first) ∙ none)
    (ap p (absent "writer 2 ipi name number" kind r e second) ∙ none) none
    ∙ ap (λ (cell : List ℕ). p cell || p []) own

-- two have those of two writers
two_fields : (kind : Kind) (i j : ℕ) → IsField "writer 1 ipi name number" kind i 11 → IsField "writer 2 ipi name number" kind j 11
    → list_any (λ f. bytes_eq f.name (codes "ipi name number")) (carried_fields kind) ≡ false → AreAt kind (i, j)
two_fields kind i j first second other = λ r e fits p none.
    let one : cell_named "writer 1 ipi name number" r ≡ cell_of r i =
    sym (named_cell "writer 1 ipi name number" kind i 11 r first e fits) in
    let two : cell_named "writer 2 ipi name number" r ≡ cell_of r j =
    sym (named_cell "writer 2 ipi name number" kind j 11 r second e fits) in
    others_alone (p (cell_named "ipi name number" r)) (p (cell_named "writer 1 ipi name number" r))
    (p (cell_named "writer 2 ipi name number" r)) (ap p (absent "ipi name number" kind r e other) ∙ none)
    ∙ ap₂ (λ (a b : List ℕ). p a || p b) one two

-- or none
no_field : (kind : Kind) → list_any (λ f. bytes_eq f.name (codes "ipi name number")) (carried_fields kind) ≡ false
    → list_any (λ f. bytes_eq f.name (codes "writer 1 ipi name number")) (carried_fields kind) ≡ false
    → list_any (λ f. bytes_eq f.name (codes "writer 2 ipi name number")) (carried_fields kind) ≡ false → AreAt kind (0, 0)
no_field kind other first second = λ r e fits p none.
    first_alone (p (cell_named "ipi name number" r)) (p (cell_named "writer 1 ipi name number" r))
    (p (cell_named "writer 2 ipi name number" r)) (p []) (ap p (absent "writer 1 ipi name number" kind r e first) ∙ none)
    (ap p (absent "writer 2 ipi name number" kind r e second) ∙ none) none
    ∙ ap (λ (cell : List ℕ). p cell || p []) (absent "ipi name number" kind r e other)

-- of each kind
pub are_at : (kind : Kind) → AreAt kind (party_fields kind)
are_at Ipa = one_field Ipa 5 (record { carried = refl; place = refl; width = refl }) refl refl
are_at Spu = one_field Spu 10 (record { carried = refl; place = refl; width = refl }) refl refl
are_at Opu = one_field Opu 10 (record { carried = refl; place = refl; width = refl }) refl refl
are_at Swr = one_field Swr 10 (record { carried = refl; place = refl; width = refl }) refl refl
are_at Owr = one_field Owr 10 (record { carried = refl; place = refl; width = refl }) refl refl
are_at Per = one_field Per 6 (record { carried = refl; place = refl; width = refl }) refl refl
are_at Ewt =
    two_fields Ewt 10 14 (record { carried = refl; place = refl; width = refl })
    (record { carried = refl; place = refl; width = refl }) refl
are_at Ver =
    two_fields Ver 10 14 (record { carried = refl; place = refl; width = refl })
    (record { carried = refl; place = refl; width = refl }) refl
are_at Com =
    two_fields Com 10 13 (record { carried = refl; place = refl; width = refl })
    (record { carried = refl; place = refl; width = refl }) refl
are_at this_kind = no_field this_kind refl refl refl

-- ---- a number

-- no blank cell is a number
pub none_party : (number : List ℕ) → 0 < length number → is_party number [] ≡ false
unfolding trimmed
none_party [] some = absurd (omega (arith, some))
none_party (b ∷ digits) some = refl

-- a zero at the front goes
pub significant_zero : (b : ℕ) (digits : List ℕ) → b ≡ 48 → significant (b ∷ digits) ≡ significant digits
significant_zero b digits e = ap (λ (x : ℕ). cond (x == 48) (significant digits) (x ∷ digits)) e

-- and nothing else
pub significant_else : (b : ℕ) (digits : List ℕ) → b ≢ 48 → significant (b ∷ digits) ≡ b ∷ digits
significant_else b digits e = ap (λ (x : Bool). cond x (significant digits) (b ∷ digits)) (ne_eqb b 48 e)

-- ---- the records of a transaction

-- what a record's fields say
pub named : (number : List ℕ) (r : RecordValue) (kind : Kind) (fields : ℕ × ℕ) (x y : List ℕ) → 0 < length number → kind ≡ r.kind
    → IsRecord r → fields ≡ party_fields kind → x ≡ cell_of r fields.0 → y ≡ cell_of r fields.1
    → names_party number r ≡ (is_party number x || is_party number y)
named number r kind fields x y some e fits at first second =
    are_at kind r (sym e) fits (is_party number) (none_party number some)
    ∙ ap (λ (f : ℕ × ℕ). is_party number (cell_of r f.0) || is_party number (cell_of r f.1)) (sym at)
    ∙ sym (ap₂ (λ (a b : List ℕ). is_party number a || is_party number b) first second)

-- one record says all
pub one_names : (p : RecordValue → Bool) (rs : List RecordValue) (i : ℕ) (r : RecordValue) → Some r ≡ slice_get rs i → p r ≡ true
    → list_any p rs ≡ true
one_names p [] i r e h = absurd (cc e)
one_names p (x ∷ rs) zero r e h = let same : r ≡ x = cc e in ap (λ (y : Bool). y || list_any p rs) (ap p (sym same) ∙ h)
one_names p (x ∷ rs) (suc i) r e h = ap (λ (y : Bool). p x || y) (one_names p rs i r e h) ∙ by (p x)
  where
    by : (b : Bool) → (b || true) ≡ true
    by true = refl
    by false = refl

-- and where none did so far, the next one may not
pub none_more : (p : RecordValue → Bool) (rs : List RecordValue) (i : ℕ) (r : RecordValue) → Some r ≡ slice_get rs i → p r ≡ false
    → list_any p (take i rs) ≡ false → list_any p (take (suc i) rs) ≡ false
none_more p [] i r e h none = absurd (cc e)
none_more p (x ∷ rs) zero r e h none = let same : r ≡ x = cc e in ap (λ (y : Bool). y || false) (ap p (sym same) ∙ h)
none_more p (x ∷ rs) (suc i) r e h none = by (p x) none (none_more p rs i r e h)
  where
    by : (b : Bool) → (b || list_any p (take i rs)) ≡ false
        → (list_any p (take i rs) ≡ false → list_any p (take (suc i) rs) ≡ false)
        → (b || list_any p (take (suc i) rs)) ≡ false
    by true never rest = absurd (cc never)
    by false so rest = rest so

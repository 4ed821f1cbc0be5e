-- The line of a record in which nothing was set, field by field.
use Rattle.std.proofs.Common.{◌≡◌, ℕ, zero, suc, ◌+◌, ◌-◌, ◌≤◌, Bool, cond, List, [], ◌∷◌, ◌++◌, length, map, take, drop, Some, None}
use Rattle.std.proofs.Common.{lit≤, option_map, refl, sym, ap, subst, ◌∙◌, arith, append_assoc, append-nil}
use Rattle.std.specs.Prelude.{slice_get}
use Rattle.std.specs.List.{concat}
use Rattle.std.proofs.lemmas.Bool.{ne_eqb}
use Rattle.std.proofs.lemmas.List.{length-append, map-append, take_all, take-append-drop}
use Rattle.std.proofs.lemmas.List.Folds.{concat-append}
use Rattle.cwr_fields.specs.declared.kinds.Kind.{Kind}
use Rattle.cwr_fields.specs.declared.kinds.Kind.TheVariants.{Hdr}
use Rattle.cwr_fields.proofs.lemmas.FieldStarts.{field_at-start}
use Rattle.cwr_fields.specs.Format.Kinds.{letters}
use Rattle.cwr_fields.specs.Format.Layouts.{FieldLayout, field_with_start, fields_after_type, layout, fields_with_starts}
use Rattle.cwr_lines.specs.Format.Records.{blank_cell}
use Rattle.cwr_findings.proofs.lemmas.OneMore.{take_more}
use Rattle.cwr_encode.proofs.lemmas.PutRows.{none_within}
use Rattle.cwr_calls.specs.Format.FieldNumbers.{blank_line}

-- the cells of fields in which nothing was set
abbrev blank_cells : List FieldLayout → List ℕ
blank_cells fields = concat (map (λ f. blank_cell f.ty f.width) fields)

-- the line up to so many fields behind the record type
abbrev pub blank_front : Kind → ℕ → List ℕ
blank_front kind n = letters kind ++ blank_cells (take n (fields_after_type kind))

pub blank_begins : (this_kind : Kind) (line : List ℕ) (n : ℕ) → n ≡ 0 → line ≡ letters this_kind → line ≡ blank_front this_kind n
blank_begins this_kind line n e h =
    subst (λ (k : ℕ). line ≡ blank_front this_kind k) (sym e) (h ∙ sym (append-nil (letters this_kind)))

-- a field with its place is one of the fields
of_fields : (at : ℕ) (fields : List FieldLayout) (i : ℕ) (p : ℕ × FieldLayout)
    → slice_get (fields_with_starts at fields) i ≡ Some p → slice_get fields i ≡ Some p.1
of_fields at [] i p e = absurd (cc e)
of_fields at (f ∷ fields) zero p e = let same : (at, f) ≡ p = cc e in ap (λ (q : ℕ × FieldLayout). Some q.1) same
of_fields at (f ∷ fields) (suc i) p e = of_fields (at + f.width) fields i p e

field_behind : (this_kind : Kind) (k j : ℕ) (p : ℕ × FieldLayout) → j ≡ k + 2 → field_with_start this_kind j ≡ Some p
    → slice_get (fields_after_type this_kind) k ≡ Some p.1
field_behind this_kind k j p e h =
    let some = ne_eqb j 0 (omega (arith, e)) in
    let before : j - 1 ≡ suc k = omega (arith, e) in
    let there : slice_get (fields_with_starts 0 (layout this_kind)) (suc k) ≡ Some p =
    ap (slice_get (fields_with_starts 0 (layout this_kind))) (sym before)
    ∙ sym (ap (λ (b : Bool). cond b None (slice_get (fields_with_starts 0 (layout this_kind)) (j - 1))) some) ∙ h in
    of_fields 0 (layout this_kind) (suc k) p there

-- with one field more
pub blank_more : (this_kind : Kind) (k j n : ℕ) (p : ℕ × FieldLayout) (old new : List ℕ) → j ≡ k + 2 → n ≡ k + 1
    → field_with_start this_kind j ≡ Some p → old ≡ blank_front this_kind k → new ≡ old ++ blank_cell p.1.ty p.1.width
    → new ≡ blank_front this_kind n
blank_more this_kind k j n p old new e more h front cell =
    let fields : List FieldLayout = fields_after_type this_kind in
    let blank : FieldLayout → List ℕ = λ f. blank_cell f.ty f.width in
    let one : take n fields ≡ take k fields ++ p.1 ∷ [] =
    ap (λ (m : ℕ). take m fields) more ∙ take_more fields k p.1 (field_behind this_kind k j p e h) in
    let cells : blank_cells (take n fields) ≡ blank_cells (take k fields) ++ blank p.1 =
    ap blank_cells one ∙ ap concat (map-append blank (take k fields) (p.1 ∷ []))
    ∙ concat-append (map blank (take k fields)) (blank p.1 ∷ [])
    ∙ ap (λ (l : List ℕ). blank_cells (take k fields) ++ l) (append-nil (blank p.1)) in
    cell ∙ ap (λ (l : List ℕ). l ++ blank p.1) front ∙ append_assoc (letters this_kind) (blank_cells (take k fields)) (blank p.1)
    ∙ ap (λ (l : List ℕ). letters this_kind ++ l) (sym cells)

-- all fields
pub blank_whole : (this_kind : Kind) (line : List ℕ) (k : ℕ) → length (layout this_kind) ≤ k + 1 → line ≡ blank_front this_kind k
    → line ≡ blank_line this_kind
blank_whole this_kind line k h front =
    front ∙ ap (λ (fields : List FieldLayout). letters this_kind ++ blank_cells fields)
    (take_all k (fields_after_type this_kind) (omega (arith, h)))

-- ---- there is room for it

-- no such line is longer than the widest
short : (this_kind : Kind) → length (blank_line this_kind) ≤ 719
short Hdr = lit≤ tt
short this_kind = lit≤ tt

cells_before : (fields : List FieldLayout) (n : ℕ) → length (blank_cells (take n fields)) ≤ length (blank_cells fields)
cells_before fields n =
    let blank : FieldLayout → List ℕ = λ f. blank_cell f.ty f.width in
    let whole : blank_cells fields ≡ blank_cells (take n fields) ++ blank_cells (drop n fields)
    = ap blank_cells (sym (take-append-drop n fields)) ∙ ap concat (map-append blank (take n fields) (drop n fields))
    ∙ concat-append (map blank (take n fields)) (map blank (drop n fields)) in
    omega (arith, ap length whole, length-append (blank_cells (take n fields)) (blank_cells (drop n fields)))

front_short : (this_kind : Kind) (n : ℕ) → length (blank_front this_kind n) ≤ 719
front_short this_kind n =
    omega (
      arith,
      short this_kind,
      cells_before (fields_after_type this_kind) n,
      length-append (letters this_kind) (blank_cells (take n (fields_after_type this_kind))),
      length-append (letters this_kind) (blank_cells (fields_after_type this_kind)),
    )

-- one cell more has room
pub room_for : (this_kind : Kind) (k j n : ℕ) (p : ℕ × FieldLayout) (old : List ℕ) → j ≡ k + 2 → n ≡ k + 1
    → field_with_start this_kind j ≡ Some p → old ≡ blank_front this_kind k
    → length old + length (blank_cell p.1.ty p.1.width) ≤ 1024
room_for this_kind k j n p old e more h front =
    let next = blank_more this_kind k j n p old (old ++ blank_cell p.1.ty p.1.width) e more h front refl in
    omega (arith, front_short this_kind n, ap length next, length-append old (blank_cell p.1.ty p.1.width))

-- a field of the kind is there
pub field_there : (this_kind : Kind) (j : ℕ) → 1 ≤ j → j ≤ length (layout this_kind) → None ≡ field_with_start this_kind j → ⊥
field_there this_kind zero least most none = omega (arith, least)
field_there this_kind (suc i) least most none =
    let there = ap (option_map (λ (p : ℕ × FieldLayout). p.1)) none ∙ field_at-start this_kind (suc i) in
    omega (arith, most, none_within (layout this_kind) i there)

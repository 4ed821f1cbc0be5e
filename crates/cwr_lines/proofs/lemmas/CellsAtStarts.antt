-- The cells of a whole line at the places of its kind's table.
use Rattle.std.proofs.Common.{◌≡◌, ℕ, ◌+◌, ◌-◌, ◌≤◌, Bool, true, false, cond, nat_eq, List, [], length, map, take, drop}
use Rattle.std.proofs.Common.{slice_get, refl, sym, ap, ◌∙◌, arith}
use Rattle.std.specs.Prelude.{Option, Some, None, Result, Ok}
use Rattle.std.specs.Option.{ForSome, option_and_then}
use Rattle.std.proofs.lemmas.Bool.{ne_eqb}
use Rattle.std.proofs.lemmas.List.{length-map}
use Rattle.cwr_fields.specs.declared.cell_types.CellFault.{CellFault}
use Rattle.cwr_fields.specs.declared.cell_types.CellType.TheVariants.{Text}
use Rattle.cwr_fields.specs.Format.Bytes.{is_plain}
use Rattle.cwr_fields.specs.Format.Cells.{Allows, type_width}
use Rattle.cwr_fields.specs.declared.kinds.Kind.{Kind}
use Rattle.cwr_fields.specs.declared.layouts.Field.{Field}
use Rattle.cwr_fields.specs.Format.Layouts.{FieldLayout, layout, line_width, fields_with_starts, field_with_start}
use Rattle.cwr_lines.specs.Format.Carried.{carried_with_start, FitsAt}
use Rattle.cwr_lines.specs.Steps.Carried.{record_in}
use Rattle.cwr_fields.specs.Steps.Views.{field_view}
use Rattle.cwr_lines.proofs.lemmas.BlankCells.{IsFieldAt, length-with_starts}
use Rattle.cwr_lines.proofs.lemmas.CellParts.{part, plain_part, field_part_within}
use Rattle.cwr_lines.proofs.lemmas.FitCells.{wide_cell, fits_found, fits_none}

-- the place that stands k-th in the table is that of field k + 1
placed : (kind : Kind) (k : ℕ) (place : Field) → IsFieldAt kind k place → field_with_start kind (k + 1) ≡ Some (field_view place)
placed kind k place h =
    let some : nat_eq (k + 1) 0 ≡ false = ne_eqb (k + 1) 0 (λ e. omega arith) in
    let before : k + 1 - 1 ≡ k = omega arith in
    let there : field_with_start kind (k + 1) ≡ slice_get (fields_with_starts 0 (layout kind)) k = rw (some, before) refl in
    there ∙ h.found

unless_derived : (b : Bool) (o : Option (ℕ × FieldLayout)) (p : ℕ × FieldLayout) → p.1.derived ≡ b → o ≡ Some p
    → option_and_then (λ q. cond q.1.derived None (Some q)) o ≡ cond b None (Some p)
unless_derived b o p d e =
    ap (option_and_then (λ (q : ℕ × FieldLayout). cond q.1.derived None (Some q))) e ∙ ap (λ (x : Bool). cond x None (Some p)) d

carried : (kind : Kind) (k : ℕ) (place : Field) → IsFieldAt kind k place → place.derived ≡ false
    → carried_with_start kind (k + 1) ≡ Some (field_view place)
carried kind k place h d = unless_derived false (field_with_start kind (k + 1)) (field_view place) d (placed kind k place h)

-- a derived field isn't judged
pub derived_fits : (kind : Kind) (line : List ℕ) (k : ℕ) (place : Field) → IsFieldAt kind k place → place.derived ≡ true
    → FitsAt (record_in kind line) (k + 1)
derived_fits kind line k place h d =
    fits_none (record_in kind line) (k + 1)
    (sym (unless_derived true (field_with_start kind (k + 1)) (field_view place) d (placed kind k place h)))

-- a carried cell fits where it is one of its field's type
pub carried_fits : (kind : Kind) (line : List ℕ) (k : ℕ) (place : Field) → IsFieldAt kind k place → place.derived ≡ false
    → Allows place.ty (part line (field_view place))
    → FitsAt (record_in kind line) (k + 1)
carried_fits kind line k place h d holds =
    let r : Result (Unit {0}) CellFault = Ok tt in
    fits_found r kind line (k + 1) (field_view place) (carried kind k place h d) holds

-- a part of a text without control bytes has none
pub plain_within : (at width : ℕ) (text : List ℕ) → is_plain text ≡ true → is_plain (take width (drop at text)) ≡ true
plain_within at width text h = plain_part text (at, record { name = []; width = width; ty = Text; derived = false }) h

-- it lies within the line
pub carried_part_within : (kind : Kind) (line : List ℕ) (k : ℕ) (place : Field) → IsFieldAt kind k place
    → length line ≡ line_width kind → place.start + place.width ≤ length line
carried_part_within kind line k place h whole =
    omega (arith, field_part_within 0 (layout kind) k (field_view place) h.found, whole)

-- and has the width of its field's type
pub carried_part_wide : (kind : Kind) (line : List ℕ) (k : ℕ) (place : Field) → IsFieldAt kind k place → place.derived ≡ false
    → length line ≡ line_width kind
    → ForSome (type_width place.ty) (λ w. length (part line (field_view place)) ≡ w)
carried_part_wide kind line k place h d whole = wide_cell kind line (k + 1) (field_view place) whole (carried kind k place h d)

-- as many places as fields
pub length-fields : (kind : Kind) (items : List Field) → map field_view items ≡ fields_with_starts 0 (layout kind)
    → length items ≡ length (layout kind)
length-fields kind items e = sym (length-map items field_view) ∙ ap length e ∙ length-with_starts 0 (layout kind)

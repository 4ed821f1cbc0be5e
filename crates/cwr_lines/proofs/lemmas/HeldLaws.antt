-- What was taken of a line is cut as the line is, and each cell has its field's width.
use Rattle.std.proofs.Common.{◌≡◌, ℕ, suc, ◌+◌, ◌-◌, ◌≤◌, ◌<◌, Bool, true, false, List, [], ◌∷◌, length, map, take, drop}
use Rattle.std.proofs.Common.{option_map, slice_get, refl, sym, subst, ap, ap₂, ◌∙◌, arith, nat_eq, ne_eqb}
use Rattle.std.specs.Prelude.{Option, Some, None}
use Rattle.std.proofs.lemmas.Bool.{lt-ltb}
use Rattle.std.proofs.lemmas.List.{length-take, length-drop, length-map}
use Rattle.cwr_fields.specs.Format.Bytes.{filled}
use Rattle.cwr_fields.specs.declared.kinds.Kind.{Kind}
use Rattle.cwr_lines.specs.declared.lines.LineEnd.{LineEnd}
use Rattle.cwr_lines.specs.declared.lines.LineEnd.TheVariants.{Open, Line, Over}
use Rattle.cwr_fields.specs.Format.Layouts.{FieldLayout, layout, field_with_start, field_at, line_width}
use Rattle.cwr_lines.specs.Format.Lines.{longest_line, is_too_long, line_body, body_kind, pieces, cells_as, excess_as}
use Rattle.cwr_lines.specs.Steps.Held.{HeldLine, IsHeld, HoldsBy, HoldsLine, IsCutAs, held_body, held_kind, held_cells, held_cell}
use Rattle.cwr_lines.specs.Steps.Held.{cell_as, ended_too_long}
use Rattle.cwr_lines.proofs.lemmas.CutLaws.{not_too_long, body_of}
use Rattle.cwr_lines.proofs.lemmas.FilledTexts.{length-filled}
use Rattle.cwr_fields.proofs.lemmas.FieldStarts.{field_at-start}
use Rattle.cwr_lines.proofs.lemmas.CellParts.{part, field_within, held_cell-by_kind}

-- one body, too long or not, is cut in one way
cut_as : (h : HeldLine) (line : List ℕ) → held_body h ≡ line_body line → ended_too_long h.ended ≡ is_too_long line
    → IsCutAs h line
cut_as h line b o = record {
  kind = ap body_kind b;
  cells = ap (λ (x : List ℕ). cells_as (body_kind x) x) b;
  excess = ap₂ (λ (x : List ℕ) (v : Bool). excess_as (body_kind x) v x) b o;
}

-- a line that isn't too long, and was taken whole
pub whole_line_is_cut : (line : List ℕ) → length line ≤ longest_line → IsCutAs (record { bytes = line; ended = Line }) line
whole_line_is_cut line h = cut_as (record { bytes = line; ended = Line }) line (sym (body_of line h)) (sym (not_too_long line h))

-- a line that is too long, as far as it is judged
pub long_line_is_cut : (line : List ℕ) → longest_line < length line
    → IsCutAs (record { bytes = take longest_line line; ended = Over }) line
long_line_is_cut line h =
    let too_long : is_too_long line ≡ true = lt-ltb longest_line (length line) h in
    cut_as (record { bytes = take longest_line line; ended = Over }) line (rw too_long refl) (sym too_long)

-- what was taken of a line is cut as the line is
pub held_line_is_cut : (h : HeldLine) (line : List ℕ) → IsHeld h → HoldsLine h line → IsCutAs h line
held_line_is_cut h line k s = by_end h.bytes h.ended k.short s
  where
    by_end : (bytes : List ℕ) (ended : LineEnd) → length bytes ≤ longest_line → HoldsBy ended bytes line
        → IsCutAs (record { bytes = bytes; ended = ended }) line
    by_end bytes Open n o = absurd o
    by_end bytes Line n o =
        subst (λ (x : List ℕ). IsCutAs (record { bytes = x; ended = Line }) line) (sym o)
        (whole_line_is_cut line (subst (λ (x : List ℕ). length x ≤ longest_line) o n))
    by_end bytes Over n o =
        subst (λ (x : List ℕ). IsCutAs (record { bytes = x; ended = Over }) line) (sym o.1) (long_line_is_cut line o.0)

-- ---- the widths of cells

pub length-part : (text : List ℕ) (p : ℕ × FieldLayout) → p.0 + p.1.width ≤ length text → length (part text p) ≡ p.1.width
length-part text p h = omega (arith, length-take p.1.width (drop p.0 text), length-drop p.0 text)

-- a cell of a field, which has its width
pub record CellOf (h : HeldLine) (j : ℕ) (f : FieldLayout) : Type 0 where
  pub cell : List ℕ
  pub found : held_cell h j ≡ Some cell
  pub width : length cell ≡ f.width

-- where the kind has the field, the line has its cell
pub held_cell_there : (h : HeldLine) (kind : Kind) (j : ℕ) (p : ℕ × FieldLayout) → held_kind h ≡ Some kind
    → field_with_start kind j ≡ Some p → CellOf h j p.1
held_cell_there h kind j p e g =
    let text : List ℕ = filled (line_width kind) (held_body h) in
    record {
      cell = part text p;
      found = held_cell-by_kind h kind j e ∙ ap (option_map (part text)) g;
      width = length-part text p (omega (arith, field_within kind j p g, length-filled (line_width kind) (held_body h)));
    }

-- a cell has its field's width, also where the field is known with its start
pub length-field_cell : (h : HeldLine) (kind : Kind) (j : ℕ) (p : ℕ × FieldLayout) (cell : List ℕ) → held_kind h ≡ Some kind
    → field_with_start kind j ≡ Some p → held_cell h j ≡ Some cell → length cell ≡ p.1.width
length-field_cell h kind j p cell e at there =
    let c = held_cell_there h kind j p e at in
    let one : Some c.cell ≡ Some cell = sym c.found ∙ there in
    let equal : c.cell ≡ cell = cc one in
    sym (ap length equal) ∙ c.width

pub length-held_cell : (h : HeldLine) (kind : Kind) (j : ℕ) (f : FieldLayout) (cell : List ℕ) → held_kind h ≡ Some kind
    → field_at kind j ≡ Some f → held_cell h j ≡ Some cell → length cell ≡ f.width
length-held_cell h kind j f cell e g there = by_field (field_with_start kind j) refl
  where
    by_field : (o : Option (ℕ × FieldLayout)) → field_with_start kind j ≡ o → length cell ≡ f.width
    by_field None at =
        absurd
        (let no : None ≡ Some f = ap (option_map (λ (p : ℕ × FieldLayout). p.1)) (sym at) ∙ field_at-start kind j ∙ g in cc)
    by_field (Some p) at =
        let same : Some p.1 ≡ Some f = ap (option_map (λ (q : ℕ × FieldLayout). q.1)) (sym at) ∙ field_at-start kind j ∙ g in
        let field : p.1 ≡ f = cc same in
        length-field_cell h kind j p cell e at there ∙ ap (λ (q : FieldLayout). q.width) field

pub length-pieces : (widths : List ℕ) (text : List ℕ) → length (pieces widths text) ≡ length widths
length-pieces [] text = refl
length-pieces (w ∷ widths) text = ap suc (length-pieces widths (drop w text))

-- a line of a known kind has as many cells as the kind has fields
pub length-held_cells : (h : HeldLine) (kind : Kind) → held_kind h ≡ Some kind → length (held_cells h) ≡ length (layout kind)
length-held_cells h kind e =
    ap (λ (o : Option Kind). length (cells_as o (held_body h))) e
    ∙ length-pieces (map (λ f. f.width) (layout kind)) (filled (line_width kind) (held_body h))
    ∙ length-map (layout kind) (λ f. f.width)

-- cell j is the j-th of the cells
pub held_cell-at : (h : HeldLine) (kind : Kind) (i : ℕ) → held_kind h ≡ Some kind
    → held_cell h (suc i) ≡ slice_get (held_cells h) i
held_cell-at h kind i e =
    let some : nat_eq (suc i) 0 ≡ false = ne_eqb (suc i) 0 (λ z. omega arith) in
    let before : suc i - 1 ≡ i = omega arith in
    let known : held_cell h (suc i) ≡ cell_as (Some kind) (held_cells h) (suc i) =
    ap (λ (o : Option Kind). cell_as o (held_cells h) (suc i)) e in
    let at : cell_as (Some kind) (held_cells h) (suc i) ≡ slice_get (held_cells h) i = rw (some, before) refl in
    known ∙ at

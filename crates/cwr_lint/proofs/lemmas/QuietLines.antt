-- A line that is as a row has it tells nothing.
use Rattle.std.proofs.Common.{◌≡◌, ◌≢◌, ℕ, zero, suc, ◌-◌, ◌<◌, ◌≤◌, Bool, true, false, true≢false, List, [], ◌∷◌, length, drop}
use Rattle.std.proofs.Common.{Option, Some, None, refl, sym, ap, subst, ◌∙◌, arith, inl, inr, slice_get}
use Rattle.std.specs.Prelude.{◌⊎◌, ◌&&◌, ◌||◌, ltb, not, slice_index}
use Rattle.std.specs.List.{list_all}
use Rattle.std.proofs.lemmas.Bool.{and_parts, ltb-true}
use Rattle.cwr_fields.specs.declared.cell_types.CellType.{CellType}
use Rattle.cwr_fields.specs.declared.cell_types.CellType.TheVariants as types
use Rattle.cwr_fields.specs.Format.Bytes.{digits}
use Rattle.cwr_fields.specs.Format.Cells.{Allows}
use Rattle.cwr_fields.proofs.lemmas.Spellings.{are_digits-digits, number_spelled}
use Rattle.cwr_fields.proofs.lemmas.Digits.{length-digits}
use Rattle.cwr_fields.specs.declared.kinds.Kind.{Kind}
use Rattle.cwr_fields.specs.declared.kinds.Kind.TheVariants as kinds
use Rattle.cwr_lines.specs.Format.GoodCells.{AreGood}
use Rattle.cwr_fields.specs.Format.Layouts.{FieldLayout, field_at, fields_after_type, layout}
use Rattle.cwr_lines.specs.Format.Records.{IsGoodCell, rest_if}
use Rattle.cwr_shape.specs.declared.reasons.Reason.{Reason}
use Rattle.cwr_shape.specs.declared.reasons.Reason.TheVariants.{Misplaced, Excess}
use Rattle.cwr_judge.specs.declared.refusals.Refusal.{Refusal}
use Rattle.cwr_lint_lines.specs.Format.FaultsAtFields.{IsToldAt, IsToldOfCell, IsToldOfField, JudgedLine, LineCut, fault_in}
use Rattle.cwr_lint_lines.specs.Format.FaultsAtFields.{number_in, number_reason, reason_if}
use Rattle.cwr_lint.specs.Format.FaultsOfLines.{Asking, Tells, TellsMore}

-- ---- nothing is told

pub compared : (a b : ℕ) → (a ≤ b) ⊎ (b < a)
compared zero b = inl (omega arith)
compared (suc a) zero = inr (omega arith)
compared (suc a) (suc b) = step (compared a b)
  where
    step : (a ≤ b) ⊎ (b < a) → (suc a ≤ suc b) ⊎ (suc b < suc a)
    step (inl h) = inl (omega (arith, h))
    step (inr h) = inr (omega (arith, h))

pub nothing_told : (asked : Asking) (l : JudgedLine) (from upto : ℕ) (told : List Refusal) (text : List ℕ)
    → ((j : ℕ) (found : Option Reason) → from ≤ j → j < upto → IsToldAt l j found → found ≡ None)
    → Tells asked l from upto told text → told ≡ []
nothing_told asked l from zero told text quiet t = t.0
nothing_told asked l from (suc j) told text quiet (reason, is, silent, before, earlier, t, m) =
    by reason (none (compared from j)) m
    ∙ nothing_told asked l from j before earlier (λ i found a b. quiet i found a (omega (arith, b))) t
  where
    none : (from ≤ j) ⊎ (j < from) → reason ≡ None
    none (inl h) = quiet j reason h (omega arith) (is h)
    none (inr h) = silent h

    by : (o : Option Reason) → o ≡ None → TellsMore asked (fault_in l j o) before earlier told text → told ≡ before
    by None e m = m.0
    by (Some r) e m = absurd (cc e)

-- ---- good cells

-- each cell after the record type stands there, and from that one on it is one of its field's type
abbrev pub AllowsFrom : LineCut → Kind → ℕ → Type 0
AllowsFrom l kind from =
    (j : ℕ) → 2 ≤ j → j ≤ length (layout kind) → (f : FieldLayout) × (cell : List ℕ) × (field_at kind j ≡ Some f)
    × (slice_get l.cells (j - 1) ≡ Some cell) × (from ≤ j → Allows f.ty cell)

-- at a field from one on
pub quiet_at : (l : JudgedLine) (kind : Kind) (from j : ℕ) (found : Option Reason) → l.cut.kind ≡ Some kind → l.misplaced ≡ false
    → l.cut.excess ≡ false → number_in l j ≡ None → AllowsFrom l.cut kind from → 1 ≤ j → from ≤ j → IsToldAt l j found
    → found ≡ None
quiet_at l kind from zero found k placed excess number cells one after t = absurd (omega (arith, one))
quiet_at l kind from (suc zero) found k placed excess number cells one after t =
    t.order kind k refl ∙ ap (λ (b : Bool). reason_if b Misplaced) placed
quiet_at l kind from (suc (suc i)) found k placed excess number cells one after t =
    by (compared (suc (suc i)) (length (layout kind)))
  where
    by : (suc (suc i) ≤ length (layout kind)) ⊎ (length (layout kind) < suc (suc i)) → found ≡ None
    by (inr past) = t.excess kind k (omega arith) past ∙ ap (λ (b : Bool). reason_if b Excess) excess
    by (inl within) = let (f, cell, at, there, allows) = cells (suc (suc i)) (omega arith) within in
        of_cell f cell (allows after) (subst (λ (b : Bool). IsToldOfField b f.ty cell (number_in l (suc (suc i))) found)
        (ap (λ (b : Bool). not b || not l.cut.excess) placed) (t.cell kind f cell k (omega arith) at there))
      where
        of_cell : (f : FieldLayout) (cell : List ℕ) → Allows f.ty cell → IsToldOfCell f.ty cell (number_in l (suc (suc i))) found
            → found ≡ None
        of_cell f cell a (inl h) = h.1 ∙ ap number_reason number
        of_cell f cell a (inr h) = absurd (h.1.0 a)

-- ---- the cells of a row

abbrev is_number : CellType → Bool
is_number types.Number = true
is_number ty = false

abbrev number_field : FieldLayout → Bool
number_field f = not f.derived || (is_number f.ty && ltb 0 f.width)

each_number : (kind : Kind) → list_all number_field (fields_after_type kind) ≡ true
each_number kinds.Hdr = refl
each_number kinds.Grh = refl
each_number kind = refl

passes_at : (p : FieldLayout → Bool) (fields : List FieldLayout) (k : ℕ) (f : FieldLayout) → list_all p fields ≡ true
    → slice_get fields k ≡ Some f → p f ≡ true
passes_at p [] k f h e = absurd (cc e)
passes_at p (g ∷ fields) zero f h e = let same : g ≡ f = cc e in ap p (sym same) ∙ (and_parts (p g) (list_all p fields) h).0
passes_at p (g ∷ fields) (suc k) f h e = passes_at p fields k f (and_parts (p g) (list_all p fields) h).1 e

digits_hold : (ty : CellType) (width n : ℕ) → is_number ty ≡ true → 0 < width → Allows ty (digits width n)
digits_hold types.Number width n e w =
    (number_spelled (digits width n)).1 (omega (arith, w, length-digits width n), are_digits-digits width n)
digits_hold ty width n e w = absurd (true≢false (sym e))

derived_holds : (kind : Kind) (k : ℕ) (f : FieldLayout) (n : ℕ) → slice_get (fields_after_type kind) k ≡ Some f → f.derived ≡ true
    → Allows f.ty (digits f.width n)
derived_holds kind k f n e d = by f.derived d (passes_at number_field (fields_after_type kind) k f (each_number kind) e)
  where
    by : (b : Bool) → b ≡ true → (not b || (is_number f.ty && ltb 0 f.width)) ≡ true → Allows f.ty (digits f.width n)
    by true h p =
        let both = and_parts (is_number f.ty) (ltb 0 f.width) p in digits_hold f.ty f.width n both.0 (ltb-true 0 f.width both.1)
    by false h p = absurd (true≢false (sym h))

-- a cell of the row in one of its fields
pub record CellOfRow (fields : List FieldLayout) (cells : List (List ℕ)) (i : ℕ) : Type 0 where
  pub field : FieldLayout
  pub cell : List ℕ
  pub at : slice_get fields i ≡ Some field
  pub there : slice_get cells i ≡ Some cell
  pub number : ℕ
  pub good : IsGoodCell field.derived field number cell

pub cell_of_row : (fields : List FieldLayout) (ns : List ℕ) (cells : List (List ℕ)) (i : ℕ) → AreGood fields ns cells
    → i < length fields → CellOfRow fields cells i
cell_of_row [] ns cells i g h = absurd (omega (arith, h))
cell_of_row (f ∷ fields) ns [] i g h = absurd g
cell_of_row (f ∷ fields) ns (c ∷ cells) zero g h =
    record { field = f; cell = c; at = refl; there = refl; number = slice_index ns 0; good = g.0 }
cell_of_row (f ∷ fields) ns (c ∷ cells) (suc i) g h =
    let later = cell_of_row fields (rest_if f.derived ns) cells i g.1 (omega (arith, h)) in
    record
    { field = later.field; cell = later.cell; at = later.at; there = later.there; number = later.number; good = later.good }

allowed : (kind : Kind) (i : ℕ) (f : FieldLayout) (n : ℕ) (cell : List ℕ) → slice_get (fields_after_type kind) i ≡ Some f
    → IsGoodCell f.derived f n cell → Allows f.ty cell
allowed kind i f n cell at good = by f.derived refl good
  where
    by : (b : Bool) → f.derived ≡ b → IsGoodCell b f n cell → Allows f.ty cell
    by true d g = subst (Allows f.ty) (sym g) (derived_holds kind i f n at d)
    by false d g = g

after_first : (cells : List (List ℕ)) (k : ℕ) → slice_get (drop 1 cells) k ≡ slice_get cells (suc k)
after_first [] k = refl
after_first (c ∷ cells) k = refl

-- those of a line whose cells are these, but for one
pub row_allows : (kind : Kind) (ns : List ℕ) (cells : List (List ℕ)) (l : LineCut) (k from : ℕ)
    → AreGood (fields_after_type kind) ns (drop 1 cells) → length l.cells ≡ length (layout kind)
    → ((j : ℕ) → j ≢ k → slice_get l.cells (j - 1) ≡ slice_get cells (j - 1)) → k < from ⊎ (k ≡ 0)
    → AllowsFrom l kind from
row_allows kind ns cells l k from good many same late zero two within = absurd (omega (arith, two))
row_allows kind ns cells l k from good many same late (suc zero) two within = absurd (omega (arith, two))
row_allows kind ns cells l k from good many same late (suc (suc i)) two within = by (compared (suc (suc i)) k)
  where
    row : CellOfRow (fields_after_type kind) (drop 1 cells) i
    row = cell_of_row (fields_after_type kind) ns (drop 1 cells) i good (omega (arith, within))

    less : suc (suc i) - 1 ≡ suc i
    less = omega arith

    here : slice_get cells (suc i) ≡ Some row.cell
    here = sym (after_first cells i) ∙ row.there

    some_cell : (cs : List (List ℕ)) (m : ℕ) → m < length cs → (c : List ℕ) × (slice_get cs m ≡ Some c)
    some_cell [] m h = absurd (omega (arith, h))
    some_cell (c ∷ cs) zero h = (c, refl)
    some_cell (c ∷ cs) (suc m) h = some_cell cs m (omega (arith, h))

    other : suc (suc i) ≢ k → (f : FieldLayout) × (cell : List ℕ) × (field_at kind (suc (suc i)) ≡ Some f)
        × (slice_get l.cells (suc (suc i) - 1) ≡ Some cell) × (from ≤ suc (suc i) → Allows f.ty cell)
    other ne = (
      row.field,
      row.cell,
      row.at,
      same (suc (suc i)) ne ∙ ap (slice_get cells) less
          ∙ here,
      λ _. allowed kind i row.field row.number row.cell row.at row.good,
    )

    by : (suc (suc i) ≤ k) ⊎ (k < suc (suc i)) → (f : FieldLayout) × (cell : List ℕ) × (field_at kind (suc (suc i)) ≡ Some f)
        × (slice_get l.cells (suc (suc i) - 1) ≡ Some cell) × (from ≤ suc (suc i) → Allows f.ty cell)
    by (inr h) = other (λ e. absurd (omega (arith, h, e)))
    by (inl h) = at (compared k (suc (suc i)))
      where
        at : (k ≤ suc (suc i)) ⊎ (suc (suc i) < k) → (f : FieldLayout) × (cell : List ℕ) × (field_at kind (suc (suc i)) ≡ Some f)
            × (slice_get l.cells (suc (suc i) - 1) ≡ Some cell) × (from ≤ suc (suc i) → Allows f.ty cell)
        at (inr g) = other (λ e. absurd (omega (arith, g, e)))
        at (inl g) =
            let found =
            some_cell l.cells (suc i) (omega (arith, many, within)) in
            (row.field, found.0, row.at, ap (slice_get l.cells) less ∙ found.1, λ f. late_from found.0 late f)
          where
            late_from : (cell : List ℕ) → (k < from) ⊎ (k ≡ 0) → from ≤ suc (suc i) → Allows row.field.ty cell
            late_from cell (inl x) f = absurd (omega (arith, x, f, h, g))
            late_from cell (inr x) f = absurd (omega (arith, x, h))

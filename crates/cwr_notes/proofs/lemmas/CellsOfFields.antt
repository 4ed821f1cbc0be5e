-- The lines of a record's cells, field by field.
use Rattle.std.proofs.Common.{◌≡◌, ℕ, zero, suc, ◌+◌, ◌-◌, ◌<◌, ◌≤◌, Bool, true, false, not, cond, List, [], ◌∷◌, ◌++◌, length}
use Rattle.std.proofs.Common.{take, filter, Option, Some, None, refl, sym, ap, ap₂, subst, ◌∙◌, arith, append_assoc, append-nil}
use Rattle.std.specs.Prelude.{option_map, slice_get}
use Rattle.std.specs.List.{enumerate_from, flat_map, zip}
use Rattle.std.specs.Option.{option_and_then}
use Rattle.std.proofs.lemmas.List.{take_all}
use Rattle.std.proofs.lemmas.Option.{slice_get-get_or}
use Rattle.cwr_fields.specs.declared.kinds.Kind.{Kind}
use Rattle.cwr_fields.specs.declared.kinds.Kind.TheVariants.{Trl}
use Rattle.cwr_fields.specs.Format.Layouts.{FieldLayout, layout, record_type, field_at, field_with_start}
use Rattle.cwr_lines.specs.Format.Records.{RecordValue}
use Rattle.cwr_lines.specs.Format.Carried.{carried_at, record_cell}
use Rattle.cwr_fields.proofs.lemmas.FieldStarts.{field_at-start}
use Rattle.cwr_lines.proofs.lemmas.CarriedCells.{carried_count, open_some}
use Rattle.cwr_values.specs.Format.Rows.{trailer}
use Rattle.cwr_notes.specs.Format.RecordTexts.{cell_line, cell_lines, head_line, record_lines}
use Rattle.cwr_notes.specs.Steps.FieldLines.{line_of, field_line}

-- ---- the line of one field

pub line_of-none : (j : ℕ) (o : Option FieldLayout) → line_of j o None ≡ []
line_of-none j None = refl
line_of-none j (Some f) = refl

line_of-and : (j : ℕ) (o : Option FieldLayout) (cell : Option (List ℕ))
    → line_of j o (option_and_then (λ _. cell) o) ≡ line_of j o cell
line_of-and j None cell = refl
line_of-and j (Some f) cell = refl

some_before : (o : Option FieldLayout) (found : Option (List ℕ)) (cell : List ℕ) → option_and_then (λ _. found) o ≡ Some cell
    → (f : FieldLayout) × (o ≡ Some f)
some_before None found cell e = absurd (cc e)
some_before (Some f) found cell e = (f, refl)

-- the field of a cell that is carried is the field of that number
pub carried_field : (r : RecordValue) (j : ℕ) (p : ℕ × FieldLayout) (cell : List ℕ) → Some cell ≡ record_cell r j
    → Some p ≡ field_with_start r.kind j → carried_at r.kind j ≡ Some p.1
carried_field r j p cell e place =
    let there = some_before (carried_at r.kind j) _ cell (sym e) in
    let at : field_at r.kind j ≡ Some there.0 = (open_some (field_at r.kind j) there.0 there.1).0 in
    there.1 ∙ sym at ∙ sym (field_at-start r.kind j) ∙ ap (option_map (λ (q : ℕ × FieldLayout). q.1)) (sym place)

-- ---- the lines of the first fields

-- the fields that are carried, each with its number
abbrev carried_from : ℕ → List FieldLayout → List (ℕ × FieldLayout)
carried_from k fields = filter (λ q. not q.1.derived) (enumerate_from k fields)

-- the lines of cells beside their fields
abbrev lines_beside : List (ℕ × FieldLayout) → List (List ℕ) → List ℕ
lines_beside fields cells = flat_map (λ p. cell_line p.0.0 p.0.1 p.1) (zip fields cells)

-- the lines of a record's cells in its first fields
abbrev pub lines_before : RecordValue → ℕ → List ℕ
lines_before r i = lines_beside (carried_from 1 (take i (layout r.kind))) r.cells

-- what is said of later fields holds with one field before them, whether it is carried or not
after_first : (b : Bool) (g : ℕ × FieldLayout) (fields more : List (ℕ × FieldLayout)) (front : List FieldLayout)
    (cells : List (List ℕ)) (line : Option (List ℕ) → List ℕ) → line None ≡ []
    → ((rest : List (List ℕ)) → lines_beside more rest ≡ lines_beside fields rest ++ line (slice_get rest (length front)))
    → lines_beside (cond (not b) (g ∷ more) more) cells ≡ lines_beside (cond (not b) (g ∷ fields) fields) cells
    ++ line (slice_get cells (length (cond (not b) (g.1 ∷ front) front)))
after_first true g fields more front cells line none h = h cells
after_first false g fields more front [] line none h = sym none
after_first false g fields more front (c ∷ cells) line none h =
    ap (λ (l : List ℕ). cell_line g.0 g.1 c ++ l) (h cells)
    ∙ sym (append_assoc (cell_line g.0 g.1 c) (lines_beside fields cells) (line (slice_get cells (length front))))

first_alone : (b : Bool) (k : ℕ) (g : FieldLayout) (cells : List (List ℕ))
    → lines_beside (cond (not b) ((k, g) ∷ []) []) cells ≡ line_of k (cond b None (Some g)) (slice_get cells 0)
first_alone true k g cells = refl
first_alone false k g [] = refl
first_alone false k g (c ∷ cells) = append-nil (cell_line k g c)

line_more : (fields : List FieldLayout) (k i : ℕ) (f : FieldLayout) (cells : List (List ℕ)) → slice_get fields i ≡ Some f
    → lines_beside (carried_from k (take (suc i) fields)) cells
    ≡ lines_beside (carried_from k (take i fields)) cells
    ++ line_of (k + i) (cond f.derived None (Some f)) (slice_get cells (carried_count (take i fields)))
line_more [] k i f cells e = absurd (cc e)
line_more (g ∷ fields) k zero f cells e =
    let same : g ≡ f = cc e in
    first_alone g.derived k g cells
    ∙ ap₂ (λ (n : ℕ) (x : FieldLayout). line_of n (cond x.derived None (Some x)) (slice_get cells 0)) (omega arith) same
line_more (g ∷ fields) k (suc i) f cells e =
    let number : (k + 1) + i ≡ k + suc i = omega arith in
    after_first g.derived (k, g) (carried_from (k + 1) (take i fields)) (carried_from (k + 1) (take (suc i) fields))
    (filter (λ x. not x.derived) (take i fields)) cells
    (line_of (k + suc i) (cond f.derived None (Some f))) (line_of-none (k + suc i) (cond f.derived None (Some f)))
    (λ rest. subst (λ (n : ℕ). lines_beside (carried_from (k + 1) (take (suc i) fields)) rest
    ≡ lines_beside (carried_from (k + 1) (take i fields)) rest ++ line_of n (cond f.derived None (Some f))
    (slice_get rest (carried_count (take i fields)))) number (line_more fields (k + 1) i f rest e))

-- with one field more
pub lines_more : (r : RecordValue) (i : ℕ) → i < length (layout r.kind)
    → lines_before r (i + 1) ≡ lines_before r i ++ field_line r (i + 1)
lines_more r i h =
    let number : suc i ≡ i + 1 = omega arith in
    subst (λ (n : ℕ). lines_before r n ≡ lines_before r i ++ field_line r n) number (by (layout-at r.kind i h))
  where
    layout-at : (kind : Kind) (n : ℕ) → n < length (layout kind) → (f : FieldLayout) × (slice_get (layout kind) n ≡ Some f)
    layout-at kind n within = (_, slice_get-get_or (layout kind) n record_type within)

    by : (f : FieldLayout) × (slice_get (layout r.kind) i ≡ Some f)
        → lines_before r (suc i) ≡ lines_before r i ++ field_line r (suc i)
    by (f, e) =
        let before : suc i - 1 ≡ i = omega arith in
        let carried : cond f.derived None (Some f) ≡ carried_at r.kind (suc i) =
        ap (option_and_then (λ (g : FieldLayout). cond g.derived None (Some g))) (sym e) in
        let cell : Option (List ℕ) = slice_get r.cells (carried_count (take i (layout r.kind))) in
        let line : line_of (1 + i) (cond f.derived None (Some f)) cell ≡ field_line r (suc i) =
        ap₂ (λ (n : ℕ) (o : Option FieldLayout). line_of n o cell) (omega arith) carried
        ∙ sym (line_of-and (suc i) (carried_at r.kind (suc i)) cell)
        ∙ ap (λ (n : ℕ). line_of (suc i) (carried_at r.kind (suc i))
        (option_and_then (λ _. slice_get r.cells (carried_count (take n (layout r.kind)))) (carried_at r.kind (suc i)))) (sym
        before) in
        line_more (layout r.kind) 1 i f r.cells e ∙ ap (λ (l : List ℕ). lines_before r i ++ l) line

-- with all of them
pub lines_whole : (r : RecordValue) (i : ℕ) → length (layout r.kind) ≤ i → lines_before r i ≡ cell_lines r
unfolding cell_lines
lines_whole r i h =
    ap (λ (fields : List FieldLayout). lines_beside (carried_from 1 fields) r.cells) (take_all i (layout r.kind) h)

-- TRL carries nothing
pub trailer_lines : (n : ℕ) → head_line n Trl ≡ record_lines n trailer
unfolding cell_lines
trailer_lines n = sym (append-nil (head_line n Trl))

-- The carried cells of a whole line: each is the part of the line that its field takes, and is set by writing that part.
use Rattle.std.proofs.Common.{◌≡◌, ℕ, zero, suc, ◌+◌, ◌-◌, ◌≤◌, Bool, true, false, not, cond, List, [], ◌∷◌, length, map, take}
use Rattle.std.proofs.Common.{filter, option_map, slice_get, slice_set, refl, sym, ap, subst, ◌∙◌, arith, nat_eq, ne_eqb}
use Rattle.std.specs.Prelude.{Option, Some, None}
use Rattle.std.specs.List.{AllZip, zip}
use Rattle.std.specs.Option.{option_and_then}
use Rattle.cwr_fields.specs.declared.kinds.Kind.{Kind}
use Rattle.cwr_fields.specs.Format.Layouts.{FieldLayout, layout, fields_with_starts, field_with_start, field_at, line_width}
use Rattle.cwr_lines.specs.Format.Lines.{pieces}
use Rattle.cwr_lines.specs.Format.Records.{RecordValue, IsCellOf, IsRecord, carried_fields}
use Rattle.cwr_lines.specs.Format.Carried.{carried_at, carried_with_start, carried_before, record_cell}
use Rattle.cwr_lines.specs.Steps.Carried.{carried_cells, record_in}
use Rattle.std.proofs.lemmas.List.{length-map}
use Rattle.cwr_lines.proofs.lemmas.HeldLaws.{length-pieces}
use Rattle.cwr_lines.proofs.lemmas.GoodLinesAreRows.{carried_in}
use Rattle.cwr_lines.proofs.lemmas.CellParts.{part, piece_is_part, field_within}
use Rattle.cwr_fields.proofs.lemmas.FieldStarts.{field_at-start}

-- how many of the fields are carried
abbrev pub carried_count : List FieldLayout → ℕ
carried_count fields = length (filter (λ f. not f.derived) fields)

-- what the first field leaves of a place among the carried cells, whether it is carried or not
after_first : (b : Bool) (f : FieldLayout) (fields : List FieldLayout) (c : List ℕ) (rest : List (FieldLayout × List ℕ))
    (o : Option (List ℕ))
    → slice_get (map (λ p. p.1) rest) (carried_count fields) ≡ o
    → slice_get (map (λ p. p.1) (cond (not b) ((f, c) ∷ rest) rest))
    (length (cond (not b) (f ∷ filter (λ g. not g.derived) fields) (filter (λ g. not g.derived) fields))) ≡ o
after_first true f fields c rest o h = h
after_first false f fields c rest o h = h

-- a carried cell stands after those of the carried fields before it
pub carried_in-at : (fields : List FieldLayout) (cells : List (List ℕ)) (i : ℕ) (f : FieldLayout) → slice_get fields i ≡ Some f
    → f.derived ≡ false
    → slice_get (carried_in fields cells) (carried_count (take i fields)) ≡ slice_get cells i
carried_in-at [] cells i f e d = absurd (cc e)
carried_in-at (g ∷ fields) [] i f e d = refl
carried_in-at (g ∷ fields) (c ∷ cells) zero f e d =
    let same : g ≡ f = cc e in
    let carried : g.derived ≡ false = ap (λ (x : FieldLayout). x.derived) same ∙ d in
    rw carried refl
carried_in-at (g ∷ fields) (c ∷ cells) (suc i) f e d =
    after_first g.derived g (take i fields) c (filter (λ p. not p.0.derived) (zip fields cells)) (slice_get cells i)
    (carried_in-at fields cells i f e d)

set_after_first : (b : Bool) (f : FieldLayout) (fields : List FieldLayout) (c t : List ℕ)
    (rest next : List (FieldLayout × List ℕ))
    → map (λ p. p.1) next ≡ slice_set (map (λ p. p.1) rest) (carried_count fields) t
    → map (λ p. p.1) (cond (not b) ((f, c) ∷ next) next)
    ≡ slice_set (map (λ p. p.1) (cond (not b) ((f, c) ∷ rest) rest))
    (length (cond (not b) (f ∷ filter (λ g. not g.derived) fields) (filter (λ g. not g.derived) fields))) t
set_after_first true f fields c t rest next h = h
set_after_first false f fields c t rest next h = ap (λ (xs : List (List ℕ)). c ∷ xs) h

-- setting a carried cell sets it among the carried cells
pub carried_in-set : (fields : List FieldLayout) (cells : List (List ℕ)) (i : ℕ) (f : FieldLayout) (t : List ℕ)
    → slice_get fields i ≡ Some f → f.derived ≡ false
    → carried_in fields (slice_set cells i t) ≡ slice_set (carried_in fields cells) (carried_count (take i fields)) t
carried_in-set [] cells i f t e d = absurd (cc e)
carried_in-set (g ∷ fields) [] i f t e d = refl
carried_in-set (g ∷ fields) (c ∷ cells) zero f t e d =
    let same : g ≡ f = cc e in
    let carried : g.derived ≡ false = ap (λ (x : FieldLayout). x.derived) same ∙ d in
    rw carried refl
carried_in-set (g ∷ fields) (c ∷ cells) (suc i) f t e d =
    set_after_first g.derived g (take i fields) c t (filter (λ p. not p.0.derived) (zip fields cells))
    (filter (λ p. not p.0.derived) (zip fields (slice_set cells i t)))
    (carried_in-set fields cells i f t e d)

count_by : (b : Bool) (f : FieldLayout) (fields : List FieldLayout) (c : List ℕ) (rest : List (FieldLayout × List ℕ))
    → length (map (λ p. p.1) rest) ≡ length fields
    → length (map (λ p. p.1) (cond (not b) ((f, c) ∷ rest) rest)) ≡ length (cond (not b) (f ∷ fields) fields)
count_by true f fields c rest h = h
count_by false f fields c rest h = ap suc h

-- as many carried cells as carried fields
carried_length : (fields : List FieldLayout) (cells : List (List ℕ)) → length cells ≡ length fields
    → length (carried_in fields cells) ≡ carried_count fields
carried_length [] [] h = refl
carried_length [] (c ∷ cells) h = refl
carried_length (f ∷ fields) [] h = absurd (omega (arith, h))
carried_length (f ∷ fields) (c ∷ cells) h =
    count_by f.derived f (filter (λ g. not g.derived) fields) c (filter (λ p. not p.0.derived) (zip fields cells))
    (carried_length fields cells (omega (arith, h)))

pub cells_whole : (kind : Kind) (line : List ℕ) → length (carried_cells kind line) ≡ length (carried_fields kind)
unfolding carried_cells
cells_whole kind line =
    carried_length (layout kind) (pieces (map (λ f. f.width) (layout kind)) line)
    (length-pieces (map (λ f. f.width) (layout kind)) line ∙ length-map (layout kind) (λ f. f.width))

-- so a record that is seen in a line has a cell for each of its carried fields
pub whole_of : (kind : Kind) (line : List ℕ) (r : RecordValue) → record_in kind line ≡ r
    → length r.cells ≡ length (carried_fields r.kind)
whole_of kind line r e = subst (λ (v : RecordValue). length v.cells ≡ length (carried_fields v.kind)) e (cells_whole kind line)

-- ---- the cells of a line

-- a field that is there and isn't derived
pub record IsCarried (kind : Kind) (j : ℕ) (p : ℕ × FieldLayout) : Type 0 where
  pub place : ℕ
  pub number : j ≡ suc place
  pub found : slice_get (fields_with_starts 0 (layout kind)) place ≡ Some p
  pub field : slice_get (layout kind) place ≡ Some p.1
  pub carried : p.1.derived ≡ false

carried_if : (b : Bool) (p q : ℕ × FieldLayout) → p.1.derived ≡ b → cond b None (Some p) ≡ Some q
    → (p ≡ q) × (q.1.derived ≡ false)
carried_if true p q d e = absurd (cc e)
carried_if false p q d e = let same : p ≡ q = cc e in (same, ap (λ (x : ℕ × FieldLayout). x.1.derived) (sym same) ∙ d)

carried_some : (o : Option (ℕ × FieldLayout)) (q : ℕ × FieldLayout)
    → option_and_then (λ p. cond p.1.derived None (Some p)) o ≡ Some q → (o ≡ Some q) × (q.1.derived ≡ false)
carried_some None q e = absurd (cc e)
carried_some (Some p) q e = let s = carried_if p.1.derived p q refl e in (ap (λ (x : ℕ × FieldLayout). Some x) s.0, s.1)

pub is_carried : (kind : Kind) (j : ℕ) (p : ℕ × FieldLayout) → carried_with_start kind j ≡ Some p → IsCarried kind j p
is_carried kind zero p e = absurd (cc e)
is_carried kind (suc i) p e =
    let s = carried_some (field_with_start kind (suc i)) p e in
    let some : nat_eq (suc i) 0 ≡ false = ne_eqb (suc i) 0 (λ h. omega arith) in
    let before : suc i - 1 ≡ i = omega arith in
    let there : field_with_start kind (suc i) ≡ slice_get (fields_with_starts 0 (layout kind)) i = rw (some, before) refl in
    record {
      place = i;
      number = refl;
      found = sym there ∙ s.0;
      field = sym (field_at-start kind (suc i)) ∙ ap (option_map (λ (q : ℕ × FieldLayout). q.1)) s.0;
      carried = s.1;
    }

-- what of a field is carried goes by the field alone
carried_as : (b : Bool) (p : ℕ × FieldLayout)
    → cond b None (Some p.1) ≡ option_map (λ (q : ℕ × FieldLayout). q.1) (cond b None (Some p))
carried_as true p = refl
carried_as false p = refl

without_places : (o : Option (ℕ × FieldLayout))
    → option_and_then (λ f. cond f.derived None (Some f)) (option_map (λ (q : ℕ × FieldLayout). q.1) o)
    ≡ option_map (λ (q : ℕ × FieldLayout). q.1) (option_and_then (λ p. cond p.1.derived None (Some p)) o)
without_places None = refl
without_places (Some p) = carried_as p.1.derived p

pub carried_at-placed : (kind : Kind) (j : ℕ)
    → carried_at kind j ≡ option_map (λ (p : ℕ × FieldLayout). p.1) (carried_with_start kind j)
carried_at-placed kind j =
    ap (option_and_then (λ (f : FieldLayout). cond f.derived None (Some f))) (sym (field_at-start kind j))
    ∙ without_places (field_with_start kind j)

abbrev pub widths : Kind → List ℕ
widths kind = map (λ f. f.width) (layout kind)

carried_cells-at : (kind : Kind) (line : List ℕ) (j : ℕ) (p : ℕ × FieldLayout) → IsCarried kind j p
    → slice_get (carried_cells kind line) (carried_before kind j) ≡ Some (part line p)
unfolding carried_cells
carried_cells-at kind line j p h =
    let before : j - 1 ≡ h.place = omega (arith, h.number) in
    ap (λ (n : ℕ). slice_get (carried_in (layout kind) (pieces (widths kind) line)) (carried_count (take n (layout kind)))) before
    ∙ carried_in-at (layout kind) (pieces (widths kind) line) h.place p.1 h.field h.carried
    ∙ piece_is_part 0 (layout kind) line h.place ∙ ap (option_map (part line)) h.found

cell_by : (kind : Kind) (line : List ℕ) (j : ℕ) (o : Option (ℕ × FieldLayout)) → carried_with_start kind j ≡ o
    → option_and_then (λ _. slice_get (carried_cells kind line) (carried_before kind j))
    (option_map (λ (p : ℕ × FieldLayout). p.1) o) ≡ option_map (part line) o
cell_by kind line j None e = refl
cell_by kind line j (Some p) e = carried_cells-at kind line j p (is_carried kind j p e)

-- the carried cell of field j is the part of the line that the field takes
pub record_cell-part : (kind : Kind) (line : List ℕ) (j : ℕ)
    → record_cell (record_in kind line) j ≡ option_map (part line) (carried_with_start kind j)
record_cell-part kind line j =
    ap (option_and_then (λ (_ : FieldLayout). slice_get (carried_cells kind line) (carried_before kind j)))
    (carried_at-placed kind j)
    ∙ cell_by kind line j (carried_with_start kind j) refl

-- a carried field is a field
pub field_with_start-carried : (kind : Kind) (j : ℕ) (p : ℕ × FieldLayout) → carried_with_start kind j ≡ Some p
    → field_with_start kind j ≡ Some p
field_with_start-carried kind j p e = (carried_some (field_with_start kind j) p e).0

-- the part of a whole line that a carried field takes lies within it
pub carried_within : (kind : Kind) (line : List ℕ) (j : ℕ) (p : ℕ × FieldLayout) → length line ≡ line_width kind
    → carried_with_start kind j ≡ Some p → p.0 + p.1.width ≤ length line
carried_within kind line j p whole e = omega (arith, field_within kind j p (field_with_start-carried kind j p e))

-- what is cut out of a line that keeps a record is its cell
pub cell_found : (kind : Kind) (line : List ℕ) (j : ℕ) (p : ℕ × FieldLayout) (r : RecordValue) → record_in kind line ≡ r
    → Some p ≡ carried_with_start kind j → Some (part line p) ≡ record_cell r j
cell_found kind line j p r same e =
    ap (option_map (part line)) e ∙ sym (record_cell-part kind line j) ∙ ap (λ (x : RecordValue). record_cell x j) same

-- a record has no cell where its kind has no carried field
pub no_cell_found : (kind : Kind) (line : List ℕ) (j : ℕ) (r : RecordValue) → record_in kind line ≡ r
    → None ≡ carried_with_start kind j → None ≡ record_cell r j
no_cell_found kind line j r same e =
    ap (option_map (part line)) e ∙ sym (record_cell-part kind line j) ∙ ap (λ (x : RecordValue). record_cell x j) same

-- a carried field is a field of the layout
pub field_at-carried : (kind : Kind) (j : ℕ) (p : ℕ × FieldLayout) → carried_with_start kind j ≡ Some p
    → field_at kind j ≡ Some p.1
field_at-carried kind j p e =
    sym (field_at-start kind j) ∙ ap (option_map (λ (q : ℕ × FieldLayout). q.1)) (field_with_start-carried kind j p e)

-- a field that isn't derived is carried
pub carried_at-field : (kind : Kind) (i : ℕ) (f : FieldLayout) → slice_get (layout kind) i ≡ Some f → f.derived ≡ false
    → carried_at kind (suc i) ≡ Some f
carried_at-field kind i f e d =
    ap (option_and_then (λ (g : FieldLayout). cond g.derived None (Some g))) e ∙ ap (λ (b : Bool). cond b None (Some f)) d

-- the cell of field i + 1 is the i-th of the line's pieces
pub record_cell-piece : (kind : Kind) (line : List ℕ) (i : ℕ) (f : FieldLayout) → slice_get (layout kind) i ≡ Some f
    → f.derived ≡ false
    → record_cell (record_in kind line) (suc i) ≡ slice_get (pieces (widths kind) line) i
unfolding carried_cells
record_cell-piece kind line i f e d =
    let before : suc i - 1 ≡ i = omega arith in
    ap (option_and_then (λ (_ : FieldLayout). slice_get (carried_cells kind line) (carried_before kind (suc i))))
    (carried_at-field kind i f e d)
    ∙ ap (λ (n : ℕ). slice_get (carried_in (layout kind) (pieces (widths kind) line)) (carried_count (take n (layout kind))))
    before
    ∙ carried_in-at (layout kind) (pieces (widths kind) line) i f e d

-- ---- the cells of a record

-- what the first field leaves of a place among the carried fields
field_after_first : (b : Bool) (g : FieldLayout) (fields front : List FieldLayout) (o : Option FieldLayout)
    → slice_get fields (carried_count front) ≡ o
    → slice_get (cond (not b) (g ∷ fields) fields)
    (length (cond (not b) (g ∷ filter (λ f. not f.derived) front) (filter (λ f. not f.derived) front))) ≡ o
field_after_first true g fields front o h = h
field_after_first false g fields front o h = h

first_carried : (b : Bool) (g : FieldLayout) (fields : List FieldLayout) → b ≡ false
    → slice_get (cond (not b) (g ∷ fields) fields) 0 ≡ Some g
first_carried true g fields d = absurd (cc d)
first_carried false g fields d = refl

-- a carried field stands after the carried fields before it
pub carried_field-at : (fields : List FieldLayout) (i : ℕ) (f : FieldLayout) → slice_get fields i ≡ Some f → f.derived ≡ false
    → slice_get (filter (λ g. not g.derived) fields) (carried_count (take i fields)) ≡ Some f
carried_field-at [] i f e d = absurd (cc e)
carried_field-at (g ∷ fields) zero f e d =
    let same : g ≡ f = cc e in
    first_carried g.derived g (filter (λ x. not x.derived) fields) (ap (λ (x : FieldLayout). x.derived) same ∙ d)
    ∙ ap (λ (x : FieldLayout). Some x) same
carried_field-at (g ∷ fields) (suc i) f e d =
    field_after_first g.derived g (filter (λ x. not x.derived) fields) (take i fields) (Some f) (carried_field-at fields i f e d)

-- a cell at the place of each field
pub record CellAt (f : FieldLayout) (o : Option (List ℕ)) : Type 0 where
  pub cell : List ℕ
  pub found : o ≡ Some cell
  pub is_cell : IsCellOf f cell

cell_beside : (fields : List FieldLayout) (cells : List (List ℕ)) (n : ℕ) (f : FieldLayout) → AllZip IsCellOf fields cells
    → slice_get fields n ≡ Some f → CellAt f (slice_get cells n)
cell_beside [] cells n f h e = absurd (cc e)
cell_beside (g ∷ fields) [] n f h e = absurd h
cell_beside (g ∷ fields) (c ∷ cells) zero f h e =
    let same : g ≡ f = cc e in record { cell = c; found = refl; is_cell = subst (λ (x : FieldLayout). IsCellOf x c) same h.0 }
cell_beside (g ∷ fields) (c ∷ cells) (suc n) f h e = cell_beside fields cells n f h.1 e

open_if : (b : Bool) (g f : FieldLayout) → g.derived ≡ b → cond b None (Some g) ≡ Some f → (g ≡ f) × (f.derived ≡ false)
open_if true g f d e = absurd (cc e)
open_if false g f d e = let same : g ≡ f = cc e in (same, ap (λ (x : FieldLayout). x.derived) (sym same) ∙ d)

pub open_some : (o : Option FieldLayout) (f : FieldLayout) → option_and_then (λ g. cond g.derived None (Some g)) o ≡ Some f
    → (o ≡ Some f) × (f.derived ≡ false)
open_some None f e = absurd (cc e)
open_some (Some g) f e = let s = open_if g.derived g f refl e in (ap (λ (x : FieldLayout). Some x) s.0, s.1)

-- a record has a cell of each carried field, and that is one of the field
pub record_cell-at : (r : RecordValue) (j : ℕ) (f : FieldLayout) → IsRecord r → carried_at r.kind j ≡ Some f
    → CellAt f (record_cell r j)
record_cell-at r zero f h e = absurd (cc e)
record_cell-at r (suc i) f h e =
    let s = open_some (slice_get (layout r.kind) i) f e in
    let before : suc i - 1 ≡ i = omega arith in
    let place : slice_get (carried_fields r.kind) (carried_before r.kind (suc i)) ≡ Some f =
    ap (λ (n : ℕ). slice_get (carried_fields r.kind) (carried_count (take n (layout r.kind)))) before
    ∙ carried_field-at (layout r.kind) i f s.0 s.1 in
    let at = cell_beside (carried_fields r.kind) r.cells (carried_before r.kind (suc i)) f h place in
    record {
      cell = at.cell;
      found = ap (option_and_then (λ (_ : FieldLayout). slice_get r.cells (carried_before r.kind (suc i)))) e ∙ at.found;
      is_cell = at.is_cell;
    }

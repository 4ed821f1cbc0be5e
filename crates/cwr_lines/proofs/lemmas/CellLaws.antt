-- The cells of a record are those of its row, and a cell that is set is shown.
use Rattle.std.proofs.Common.{◌≡◌, ◌≢◌, ℕ, zero, suc, ◌-◌, ◌<◌, Bool, true, false, not, cond, List, [], ◌∷◌, length, take, filter}
use Rattle.std.proofs.Common.{slice_get, slice_set, refl, sym, ap, ◌∙◌, arith}
use Rattle.std.specs.Prelude.{Option, Some, None, IsSome, OnSome, slice_index, unwrap_or}
use Rattle.std.specs.Option.{option_and_then}
use Rattle.std.specs.List.{AllZip}
use Rattle.cwr_fields.specs.Format.Bytes.{digits}
use Rattle.cwr_fields.specs.declared.kinds.Kind.{Kind}
use Rattle.cwr_fields.specs.Format.Layouts.{FieldLayout, record_type, layout, fields_after_type}
use Rattle.cwr_lines.specs.Format.Records.{RecordValue, IsCellOf, IsRecord, carried_fields, rest_if, row_cells, row_of}
use Rattle.cwr_lines.specs.Format.Carried.{carried_at, carried_before, record_cell, ShowsSet}
use Rattle.cwr_lines.proofs.lemmas.CarriedCells.{carried_count, open_some, carried_field-at}

rest_after : (b : Bool) (g : FieldLayout) (fields front : List FieldLayout) (cells : List (List ℕ))
    → AllZip IsCellOf (cond (not b) (g ∷ fields) fields) cells
    → slice_get (rest_if (not b) cells) (carried_count front)
    ≡ slice_get cells (length (cond (not b) (g ∷ filter (λ f. not f.derived) front) (filter (λ f. not f.derived) front)))
rest_after true g fields front cells h = refl
rest_after false g fields front [] h = absurd h
rest_after false g fields front (c ∷ cells) h = refl

rest_fits : (b : Bool) (g : FieldLayout) (fields : List FieldLayout) (cells : List (List ℕ))
    → AllZip IsCellOf (cond (not b) (g ∷ fields) fields) cells → AllZip IsCellOf fields (rest_if (not b) cells)
rest_fits true g fields cells h = h
rest_fits false g fields [] h = absurd h
rest_fits false g fields (c ∷ cells) h = h.1

first_cell : (b : Bool) (g : FieldLayout) (fields : List FieldLayout) (number : List ℕ) (cells : List (List ℕ)) → b ≡ false
    → AllZip IsCellOf (cond (not b) (g ∷ fields) fields) cells
    → Some (cond b number (unwrap_or (slice_get cells 0) [])) ≡ slice_get cells 0
first_cell true g fields number cells d h = absurd (cc d)
first_cell false g fields number [] d h = absurd h
first_cell false g fields number (c ∷ cells) d h = refl

-- the cell of a row in a carried field is the next carried cell
row_cell : (fields : List FieldLayout) (numbers : List ℕ) (cells : List (List ℕ)) (i : ℕ) (f : FieldLayout)
    → AllZip IsCellOf (filter (λ g. not g.derived) fields) cells → slice_get fields i ≡ Some f → f.derived ≡ false
    → slice_get (row_cells fields numbers cells) i ≡ slice_get cells (carried_count (take i fields))
row_cell [] numbers cells i f h e d = absurd (cc e)
row_cell (g ∷ fields) numbers cells zero f h e d =
    let same : g ≡ f = cc e in
    first_cell g.derived g (filter (λ x. not x.derived) fields) (digits g.width (slice_index numbers 0)) cells
    (ap (λ (x : FieldLayout). x.derived) same ∙ d) h
row_cell (g ∷ fields) numbers cells (suc i) f h e d =
    row_cell fields (rest_if g.derived numbers) (rest_if (not g.derived) cells) i f
    (rest_fits g.derived g (filter (λ x. not x.derived) fields) cells h) e d
    ∙ rest_after g.derived g (filter (λ x. not x.derived) fields) (take i fields) cells h

row_by : (r : RecordValue) (numbers : List ℕ) (i : ℕ) (f : FieldLayout) → IsRecord r → slice_get (layout r.kind) i ≡ Some f
    → f.derived ≡ false
    → slice_get (row_of numbers r).cells i ≡ slice_get r.cells (carried_count (take i (layout r.kind)))
row_by r numbers zero f h e d =
    let same : record_type ≡ f = cc e in absurd (let no : true ≡ false = ap (λ (x : FieldLayout). x.derived) same ∙ d in cc no)
row_by r numbers (suc i) f h e d = row_cell (fields_after_type r.kind) numbers r.cells i f h e d

-- the record's cell of a carried field is the cell of that field in its row, whatever the numbers
pub record_cell-row : (r : RecordValue) (numbers : List ℕ) (j : ℕ) → IsRecord r
    → OnSome (carried_at r.kind j) (record_cell r j ≡ slice_get (row_of numbers r).cells (j - 1))
record_cell-row r numbers zero h = tt
record_cell-row r numbers (suc i) h = by (carried_at r.kind (suc i)) refl
  where
    by : (o : Option FieldLayout) → carried_at r.kind (suc i) ≡ o
        → OnSome o (option_and_then (λ _. slice_get r.cells (carried_before r.kind (suc i))) o
        ≡ slice_get (row_of numbers r).cells (suc i - 1))
    by None e = tt
    by (Some f) e =
        let s = open_some (slice_get (layout r.kind) i) f e in
        let before : suc i - 1 ≡ i = omega arith in
        rw before (sym (row_by r numbers i f h s.0 s.1))

-- ---- a cell that is set

get-set_same : (xs : List (List ℕ)) (a : ℕ) (text : List ℕ) → a < length xs → slice_get (slice_set xs a text) a ≡ Some text
get-set_same [] a text h = absurd (omega arith)
get-set_same (x ∷ xs) zero text h = refl
get-set_same (x ∷ xs) (suc a) text h = get-set_same xs a text (omega arith)

get-set_other : (xs : List (List ℕ)) (a b : ℕ) (text : List ℕ) → a ≢ b → slice_get (slice_set xs a text) b ≡ slice_get xs b
get-set_other [] a b text h = refl
get-set_other (x ∷ xs) zero zero text h = absurd (h refl)
get-set_other (x ∷ xs) zero (suc b) text h = refl
get-set_other (x ∷ xs) (suc a) zero text h = refl
get-set_other (x ∷ xs) (suc a) (suc b) text h = get-set_other xs a b text (λ e. h (ap suc e))

found_within : (fields : List FieldLayout) (n : ℕ) (f : FieldLayout) → slice_get fields n ≡ Some f → n < length fields
found_within [] n f e = absurd (cc e)
found_within (g ∷ fields) zero f e = omega arith
found_within (g ∷ fields) (suc n) f e = omega (arith, found_within fields n f e)

one_carried : (b : Bool) (g : FieldLayout) (fields : List FieldLayout) → b ≡ false → 0 < length (cond (not b) (g ∷ fields) fields)
one_carried true g fields d = absurd (cc d)
one_carried false g fields d = omega arith

more_carried : (b : Bool) (g : FieldLayout) (xs ys : List FieldLayout) → length xs < length ys
    → length (cond (not b) (g ∷ xs) xs) < length (cond (not b) (g ∷ ys) ys)
more_carried true g xs ys h = h
more_carried false g xs ys h = omega arith

-- fewer carried fields stand before a carried field than before a later one
fewer_before : (fields : List FieldLayout) (i j : ℕ) (f : FieldLayout) → i < j → slice_get fields i ≡ Some f → f.derived ≡ false
    → carried_count (take i fields) < carried_count (take j fields)
fewer_before [] i j f h e d = absurd (cc e)
fewer_before (g ∷ fields) i zero f h e d = absurd (omega arith)
fewer_before (g ∷ fields) zero (suc j) f h e d =
    let same : g ≡ f = cc e in
    one_carried g.derived g (filter (λ x. not x.derived) (take j fields)) (ap (λ (x : FieldLayout). x.derived) same ∙ d)
fewer_before (g ∷ fields) (suc i) (suc j) f h e d =
    more_carried g.derived g (filter (λ x. not x.derived) (take i fields)) (filter (λ x. not x.derived) (take j fields))
    (fewer_before fields i j f (omega arith) e d)

-- where a carried field stands
record Stands (kind : Kind) (j : ℕ) (f : FieldLayout) : Type 0 where
  place : ℕ
  number : j ≡ suc place
  field : slice_get (layout kind) place ≡ Some f
  carried : f.derived ≡ false
  before : carried_before kind j ≡ carried_count (take place (layout kind))

stands : (kind : Kind) (j : ℕ) (f : FieldLayout) → carried_at kind j ≡ Some f → Stands kind j f
stands kind zero f e = absurd (cc e)
stands kind (suc i) f e =
    let s = open_some (slice_get (layout kind) i) f e in
    record {
      place = i;
      number = refl;
      field = s.0;
      carried = s.1;
      before = ap (λ (n : ℕ). carried_count (take n (layout kind))) (omega arith);
    }

-- two carried fields have cells at two places
apart : (kind : Kind) (i j : ℕ) (f g : FieldLayout) → carried_at kind i ≡ Some f → carried_at kind j ≡ Some g → i ≢ j
    → carried_before kind j ≢ carried_before kind i
apart kind i j f g e d n same =
    let x = stands kind i f e in
    let y = stands kind j g d in
    let late : x.place < y.place → ⊥ =
    λ h. let less : carried_count (take x.place (layout kind)) < carried_count (take y.place (layout kind)) =
    fewer_before (layout kind) x.place y.place f h x.field x.carried in omega (arith, same, x.before, y.before) in
    let soon : y.place < x.place → ⊥ =
    λ h. let less : carried_count (take y.place (layout kind)) < carried_count (take x.place (layout kind)) =
    fewer_before (layout kind) y.place x.place g h y.field y.carried in omega (arith, same, x.before, y.before) in
    n (omega (arith, late, soon, x.number, y.number))

-- a cell that is set is shown, and all others as before
pub shows_set : (r : RecordValue) (j : ℕ) (text : List ℕ) → length r.cells ≡ length (carried_fields r.kind)
    → IsSome (carried_at r.kind j) → ShowsSet r j text
shows_set r j text count there = by (carried_at r.kind j) refl there
  where
    other : (g : FieldLayout) (i : ℕ) (o : Option FieldLayout) → carried_at r.kind j ≡ Some g → carried_at r.kind i ≡ o → i ≢ j
        → option_and_then (λ _. slice_get (slice_set r.cells (carried_before r.kind j) text) (carried_before r.kind i)) o
        ≡ option_and_then (λ _. slice_get r.cells (carried_before r.kind i)) o
    other g i None d e n = refl
    other g i (Some f) d e n =
        get-set_other r.cells (carried_before r.kind j) (carried_before r.kind i) text (apart r.kind i j f g e d n)

    by : (o : Option FieldLayout) → carried_at r.kind j ≡ o → IsSome o → ShowsSet r j text
    by None e s = absurd (cc s)
    by (Some g) e s =
        let x = stands r.kind j g e in
        let found : slice_get (carried_fields r.kind) (carried_count (take x.place (layout r.kind))) ≡ Some g =
        carried_field-at (layout r.kind) x.place g x.field x.carried in
        let within : carried_before r.kind j < length r.cells =
        omega (
          arith,
          found_within (carried_fields r.kind) (carried_count (take x.place (layout r.kind))) g found,
          x.before,
          count,
        ) in
        record {
          there =
              ap (option_and_then
              (λ (_ : FieldLayout). slice_get (slice_set r.cells (carried_before r.kind j) text) (carried_before r.kind j))) e
              ∙ get-set_same r.cells (carried_before r.kind j) text within;
          others = λ i n. other g i (carried_at r.kind i) e refl n;
        }

-- The cells of a record are copied one by one into a draft in which nothing was set.
use Rattle.std.proofs.Common.{◌≡◌, ℕ, zero, suc, ◌-◌, ◌<◌, ◌≤◌, Bool, true, false, not, cond, List, [], ◌∷◌, ◌++◌, length}
use Rattle.std.proofs.Common.{take, drop, filter, slice_get, slice_set, Option, Some, None, refl, sym, ap, subst, ◌∙◌}
use Rattle.std.proofs.Common.{arith}
use Rattle.std.specs.Prelude.{IsSomeAnd}
use Rattle.std.specs.List.{AllZip}
use Rattle.std.specs.Option.{option_and_then}
use Rattle.std.proofs.lemmas.List.{length-map, take_all}
use Rattle.cwr_fields.specs.declared.kinds.Kind.{Kind}
use Rattle.cwr_fields.specs.Format.Cells.{Allows}
use Rattle.cwr_fields.specs.Format.Layouts.{FieldLayout, layout}
use Rattle.cwr_lines.specs.Format.Carried.{carried_before, record_cell, set_cell}
use Rattle.cwr_lines.specs.Format.Records.{IsCellOf, IsRecord, RecordValue, blank_cell, blank_record, carried_fields}
use Rattle.cwr_select.specs.Steps.Headers.{IsWholeCell}
use Rattle.cwr_select.proofs.lemmas.WholeCells.{whole_cell}
use Rattle.cwr_lines.proofs.lemmas.CarriedCells.{carried_at-field, carried_count, carried_field-at, record_cell-at}

-- the first cells, and the others as they were
abbrev pub first_of : ℕ → List (List ℕ) → List (List ℕ) → List (List ℕ)
first_of n cells blank = take n cells ++ drop n blank

set_next : (n : ℕ) (cells blank : List (List ℕ)) (text : List ℕ) → slice_get cells n ≡ Some text → n < length blank
    → slice_set (first_of n cells blank) n text ≡ first_of (suc n) cells blank
set_next zero (c ∷ cells) (b ∷ blank) text e w = let same : c ≡ text = cc e in ap (λ (t : List ℕ). t ∷ blank) (sym same)
set_next (suc n) (c ∷ cells) (b ∷ blank) text e w =
    ap (λ (l : List (List ℕ)). c ∷ l) (set_next n cells blank text e (omega (arith, w)))
set_next zero [] blank text e w = absurd (cc e)
set_next (suc n) [] blank text e w = absurd (cc e)
set_next zero (c ∷ cells) [] text e w = absurd (omega (arith, w))
set_next (suc n) (c ∷ cells) [] text e w = absurd (omega (arith, w))

all_first : (n : ℕ) (cells blank : List (List ℕ)) → length cells ≡ n → length blank ≡ n → first_of n cells blank ≡ cells
all_first zero [] [] h k = refl
all_first (suc n) (c ∷ cells) (b ∷ blank) h k =
    ap (λ (l : List (List ℕ)). c ∷ l) (all_first n cells blank (omega (arith, h)) (omega (arith, k)))
all_first zero (c ∷ cells) blank h k = absurd (omega (arith, h))
all_first zero [] (b ∷ blank) h k = absurd (omega (arith, k))
all_first (suc n) [] blank h k = absurd (omega (arith, h))
all_first (suc n) (c ∷ cells) [] h k = absurd (omega (arith, k))

-- one field more
counted : (b : Bool) (f : FieldLayout) → length (cond (not b) (f ∷ []) []) ≡ cond b 0 1
counted true f = refl
counted false f = refl

on_top : (b c : Bool) (g : FieldLayout) (front back : List FieldLayout) → length back ≡ cond c (length front) (suc (length front))
    → length (cond (not b) (g ∷ back) back)
    ≡ cond c (length (cond (not b) (g ∷ front) front)) (suc (length (cond (not b) (g ∷ front) front)))
on_top true c g front back h = h
on_top false true g front back h = ap suc h
on_top false false g front back h = ap suc h

-- one field more is counted where it is carried
more : (fields : List FieldLayout) (i : ℕ) (f : FieldLayout) → slice_get fields i ≡ Some f
    → carried_count (take (suc i) fields) ≡ cond f.derived (carried_count (take i fields)) (suc (carried_count (take i fields)))
more [] i f e = absurd (cc e)
more (g ∷ fields) zero f e =
    let same : g ≡ f = cc e in
    subst (λ (x : FieldLayout). length (cond (not g.derived) (g ∷ []) []) ≡ cond x.derived 0 1) same
    (counted g.derived g)
more (g ∷ fields) (suc i) f e =
    on_top g.derived f.derived g (filter (λ (x : FieldLayout). not x.derived) (take i fields))
    (filter (λ (x : FieldLayout). not x.derived) (take (suc i) fields)) (more fields i f e)

-- so many cells are copied once these fields were passed
abbrev pub copied_to : Kind → ℕ → RecordValue → RecordValue
copied_to kind i r = record { kind = kind; cells = first_of (carried_count (take i (layout kind))) r.cells (blank_record kind).cells }

cells_beside : (fields : List FieldLayout) (cells : List (List ℕ)) → AllZip IsCellOf fields cells → length cells ≡ length fields
cells_beside [] [] h = refl
cells_beside (f ∷ fields) (c ∷ cells) h = ap suc (cells_beside fields cells h.1)
cells_beside [] (c ∷ cells) h = absurd h
cells_beside (f ∷ fields) [] h = absurd h

-- all are once all were
pub copied_all : (kind : Kind) (r : RecordValue) (i : ℕ) → layout kind ≡ layout r.kind → IsRecord r → length (layout kind) ≤ i
    → copied_to kind i r ≡ record { kind = kind; cells = r.cells }
copied_all kind r i same fits past =
    let whole : take i (layout kind) ≡ layout kind = take_all i (layout kind) past in
    let fields : carried_fields kind ≡ carried_fields r.kind = ap (filter (λ (f : FieldLayout). not f.derived)) same in
    let own : length r.cells ≡ length (carried_fields kind) =
    cells_beside (carried_fields r.kind) r.cells fits ∙ ap length (sym fields) in
    let blank : length (blank_record kind).cells ≡ length (carried_fields kind) =
    length-map (carried_fields kind) (λ f. blank_cell f.ty f.width) in
    let cells : (copied_to kind i r).cells ≡ r.cells =
    ap (λ (l : List FieldLayout). first_of (carried_count l) r.cells (blank_record kind).cells) whole
    ∙ all_first (length (carried_fields kind)) r.cells (blank_record kind).cells own blank in
    λ j. record { kind = kind; cells = cells j }

within : {X : Type 0} (xs : List X) (n : ℕ) (x : X) → slice_get xs n ≡ Some x → n < length xs
within [] n x e = absurd (cc e)
within (y ∷ xs) zero x e = omega arith
within (y ∷ xs) (suc n) x e = omega (arith, within xs n x e)

some_at : {X : Type 0} (xs : List X) (n : ℕ) → n < length xs → (x : X) × (slice_get xs n ≡ Some x)
some_at [] n h = absurd (omega (arith, h))
some_at (x ∷ xs) zero h = (x, refl)
some_at (x ∷ xs) (suc n) h = some_at xs n (omega (arith, h))

-- a field that has a cell, and that cell
cell_here : (o : Option FieldLayout) (cells : List (List ℕ)) (n : ℕ) (text : List ℕ)
    → option_and_then (λ (_ : FieldLayout). slice_get cells n)
    (option_and_then (λ (f : FieldLayout). cond f.derived None (Some f)) o) ≡ Some text
    → (f : FieldLayout) × (o ≡ Some f) × (f.derived ≡ false) × (slice_get cells n ≡ Some text)
cell_here None cells n text e = absurd (cc e)
cell_here (Some f) cells n text e = by f.derived refl e
  where
    by : (b : Bool) → f.derived ≡ b
        → option_and_then (λ (_ : FieldLayout). slice_get cells n) (cond b None (Some f)) ≡ Some text
        → (g : FieldLayout) × (Some f ≡ Some g) × (g.derived ≡ false) × (slice_get cells n ≡ Some text)
    by true d h = absurd (cc h)
    by false d h = (f, refl, d, h)

-- a cell more is copied
pub copied_cell : (kind : Kind) (r : RecordValue) (i : ℕ) (text : List ℕ) → layout kind ≡ layout r.kind
    → record_cell r (suc i) ≡ Some text → set_cell (suc i) text (copied_to kind i r) ≡ copied_to kind (suc i) r
copied_cell kind r i text same is =
    let h = cell_here (slice_get (layout r.kind) i) r.cells (carried_before r.kind (suc i)) text is in
    let n : ℕ = carried_count (take i (layout kind)) in
    let blank : List (List ℕ) = (blank_record kind).cells in
    let before : suc i - 1 ≡ i = omega arith in
    let own : carried_before kind (suc i) ≡ n = ap (λ (m : ℕ). carried_count (take m (layout kind))) before in
    let here : carried_before r.kind (suc i) ≡ n =
    ap (λ (m : ℕ). carried_count (take m (layout r.kind))) before
    ∙ ap (λ (l : List FieldLayout). carried_count (take i l)) (sym same) in
    let at : slice_get r.cells n ≡ Some text = subst (λ (m : ℕ). slice_get r.cells m ≡ Some text) here h.3 in
    let there : slice_get (layout kind) i ≡ Some h.0 = ap (λ (l : List FieldLayout). slice_get l i) same ∙ h.1 in
    let next : carried_count (take (suc i) (layout kind)) ≡ suc n =
    more (layout kind) i h.0 there ∙ ap (λ (b : Bool). cond b n (suc n)) h.2 in
    let few : n < length blank =
    omega (
      arith,
      within (carried_fields kind) n h.0 (carried_field-at (layout kind) i h.0 there h.2),
      length-map (carried_fields kind) (λ f. blank_cell f.ty f.width),
    ) in
    let cells : slice_set (first_of n r.cells blank) (carried_before kind (suc i)) text
    ≡ first_of (carried_count (take (suc i) (layout kind))) r.cells blank =
    ap (λ (m : ℕ). slice_set (first_of n r.cells blank) m text) own ∙ set_next n r.cells blank text at few
    ∙ ap (λ (m : ℕ). first_of m r.cells blank) (sym next) in
    λ j. record { kind = kind; cells = cells j }

-- a field without a cell is passed
pub none_copied : (kind : Kind) (r : RecordValue) (i : ℕ) → layout kind ≡ layout r.kind → IsRecord r → i < length (layout kind)
    → record_cell r (suc i) ≡ None → copied_to kind i r ≡ copied_to kind (suc i) r
none_copied kind r i same fits few none = by f.derived refl
  where
    found : (f : FieldLayout) × (slice_get (layout kind) i ≡ Some f)
    found = some_at (layout kind) i few

    f : FieldLayout
    f = found.0

    n : ℕ
    n = carried_count (take i (layout kind))

    by : (b : Bool) → f.derived ≡ b → copied_to kind i r ≡ copied_to kind (suc i) r
    by true d =
        let next : carried_count (take (suc i) (layout kind)) ≡ n =
        more (layout kind) i f found.1 ∙ ap (λ (b : Bool). cond b n (suc n)) d in
        ap (λ (m : ℕ). record { kind = kind; cells = first_of m r.cells (blank_record kind).cells }) (sym next)
    by false d =
        let there : slice_get (layout r.kind) i ≡ Some f = ap (λ (l : List FieldLayout). slice_get l i) (sym same) ∙ found.1 in
        let cell = record_cell-at r (suc i) f fits (carried_at-field r.kind i f there d) in
        absurd (cc (sym cell.found ∙ none))

-- the cell of a record is one of the field of a kind that has the same fields
pub copied_fits : (kind : Kind) (r : RecordValue) (i : ℕ) (text : List ℕ) → layout kind ≡ layout r.kind → IsRecord r
    → record_cell r (suc i) ≡ Some text → IsWholeCell kind (suc i) text
copied_fits kind r i text same fits is =
    subst (λ (l : List FieldLayout). IsSomeAnd (option_and_then (λ (f : FieldLayout). cond f.derived None (Some f)) (slice_get l i))
    (λ f. (length text ≡ f.width) × Allows f.ty text)) (sym same) (whole_cell r (suc i) text fits is)

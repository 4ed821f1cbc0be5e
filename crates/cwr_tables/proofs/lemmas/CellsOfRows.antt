-- The cells of a row, field by field.
use Rattle.std.proofs.Common.{◌≡◌, ℕ, zero, suc, ◌+◌, ◌-◌, ◌<◌, ◌≤◌, Bool, true, false, not, cond, List, [], ◌∷◌, ◌++◌, length}
use Rattle.std.proofs.Common.{take, filter, map, get_or, Option, Some, None, refl, sym, ap, subst, ◌∙◌, arith, append-nil}
use Rattle.std.specs.Prelude.{slice_get}
use Rattle.std.specs.List.{AllZip}
use Rattle.std.specs.Option.{option_and_then}
use Rattle.std.proofs.lemmas.List.{length-append, map-append, take_all, take_more}
use Rattle.std.proofs.lemmas.List.Elements.{filter-append}
use Rattle.std.proofs.lemmas.Grind.{flat_map-append}
use Rattle.std.proofs.lemmas.Option.{slice_get-get_or}
use Rattle.cwr_fields.specs.declared.kinds.Kind.{Kind}
use Rattle.cwr_fields.specs.Format.Layouts.{FieldLayout, layout, record_type}
use Rattle.cwr_lines.specs.Format.Records.{RecordValue, IsCellOf, IsRecord, carried_fields}
use Rattle.cwr_lines.specs.Format.Carried.{carried_at}
use Rattle.cwr_lines.proofs.lemmas.CarriedCells.{carried_count}
use Rattle.cwr_json.specs.declared.encodings.Encoding.{Encoding}
use Rattle.cwr_json.specs.Format.Forms.{key_of}
use Rattle.cwr_tables.specs.Format.RecordTables.{shown_cell}
use Rattle.cwr_tables.specs.Steps.RowTexts.{column_of, field_cell, name_of, named_columns, next_cell, next_cells, shown_cells}
use Rattle.cwr_tables.specs.Steps.RowTexts.{shown_of}

abbrev carried : List FieldLayout → List FieldLayout
carried fields = filter (λ f. not f.derived) fields

abbrev key : FieldLayout → List ℕ
key f = key_of f.name

-- the columns of the first fields of a kind
abbrev pub columns_before : Kind → ℕ → List ℕ
columns_before this_kind i = next_cells (map key (carried (take i (layout this_kind))))

column_alone : (b : Bool) (f : FieldLayout) → next_cells (map key (cond (not b) (f ∷ []) [])) ≡ name_of (cond b None (Some f))
column_alone true f = refl
column_alone false f = append-nil (next_cell (key f))

suc_is : (i : ℕ) → suc i ≡ i + 1
suc_is i = omega arith

-- with one field more
pub columns_more : (this_kind : Kind) (i : ℕ) → i < length (layout this_kind)
    → columns_before this_kind (i + 1) ≡ columns_before this_kind i ++ column_of this_kind (i + 1)
columns_more this_kind i h =
    let fields : List FieldLayout = layout this_kind in
    let f : FieldLayout = get_or fields i record_type in
    let found : Some f ≡ slice_get fields i = sym (slice_get-get_or fields i record_type h) in
    let named : name_of (cond f.derived None (Some f)) ≡ column_of this_kind (i + 1)
    = subst (λ (n : ℕ). name_of (cond f.derived None (Some f)) ≡ column_of this_kind n) (suc_is i) (ap
    (λ (o : Option FieldLayout). name_of (option_and_then (λ (g : FieldLayout). cond g.derived None (Some g)) o)) found) in
    ap (λ (l : List FieldLayout). next_cells (map key (carried l))) (take_more fields i record_type h)
    ∙ ap (λ (l : List FieldLayout). next_cells (map key l))
    (filter-append (λ (g : FieldLayout). not g.derived) (take i fields) (f ∷ []))
    ∙ ap next_cells (map-append key (carried (take i fields)) (carried (f ∷ [])))
    ∙ flat_map-append next_cell (map key (carried (take i fields))) (map key (carried (f ∷ [])))
    ∙ ap (λ (l : List ℕ). columns_before this_kind i ++ l) (column_alone f.derived f ∙ named)

-- with all of them
pub columns_whole : (this_kind : Kind) (i : ℕ) → length (layout this_kind) ≤ i
    → columns_before this_kind i ≡ named_columns this_kind
unfolding named_columns
columns_whole this_kind i h =
    ap (λ (fields : List FieldLayout). next_cells (map key (carried fields))) (take_all i (layout this_kind) h)

-- ---- the cells of a record

-- the cells of its first fields
abbrev pub cells_before : Encoding → RecordValue → ℕ → List ℕ
cells_before enc r i = next_cells (map (shown_cell enc) (take (carried_count (take i (layout r.kind))) r.cells))

abbrev found_cell : Option (List ℕ) → List (List ℕ)
found_cell None = []
found_cell (Some cell) = cell ∷ []

take_next : (cells : List (List ℕ)) (n : ℕ) → take (suc n) cells ≡ take n cells ++ found_cell (slice_get cells n)
take_next [] zero = refl
take_next [] (suc n) = refl
take_next (c ∷ cells) zero = refl
take_next (c ∷ cells) (suc n) = ap (λ (l : List (List ℕ)). c ∷ l) (take_next cells n)

shown_found : (enc : Encoding) (o : Option (List ℕ)) → next_cells (map (shown_cell enc) (found_cell o)) ≡ shown_of enc o
shown_found enc None = refl
shown_found enc (Some cell) = append-nil (next_cell (shown_cell enc cell))

-- the cells of some fields, and then that of one field more
cells_one : (enc : Encoding) (b : Bool) (f : FieldLayout) (n : ℕ) (cells : List (List ℕ))
    → next_cells (map (shown_cell enc) (take (n + length (cond (not b) (f ∷ []) [])) cells))
    ≡ next_cells (map (shown_cell enc) (take n cells)) ++ shown_of enc (option_and_then (λ _. slice_get cells n) (cond b None (Some f)))
cells_one enc true f n cells =
    let same : n + 0 ≡ n = omega arith in
    ap (λ (m : ℕ). next_cells (map (shown_cell enc) (take m cells))) same
    ∙ sym (append-nil (next_cells (map (shown_cell enc) (take n cells))))
cells_one enc false f n cells =
    ap (λ (m : ℕ). next_cells (map (shown_cell enc) (take m cells))) (sym (suc_is n))
    ∙ ap (λ (l : List (List ℕ)). next_cells (map (shown_cell enc) l)) (take_next cells n)
    ∙ ap next_cells (map-append (shown_cell enc) (take n cells) (found_cell (slice_get cells n)))
    ∙ flat_map-append next_cell (map (shown_cell enc) (take n cells)) (map (shown_cell enc) (found_cell (slice_get cells n)))
    ∙ ap (λ (l : List ℕ). next_cells (map (shown_cell enc) (take n cells)) ++ l) (shown_found enc (slice_get cells n))

-- with one field more
pub cells_more : (enc : Encoding) (r : RecordValue) (i : ℕ) → i < length (layout r.kind)
    → cells_before enc r (i + 1) ≡ cells_before enc r i ++ field_cell enc r (i + 1)
cells_more enc r i h =
    let fields : List FieldLayout = layout r.kind in
    let f : FieldLayout = get_or fields i record_type in
    let n : ℕ = carried_count (take i fields) in
    let found : Some f ≡ slice_get fields i = sym (slice_get-get_or fields i record_type h) in
    let count : carried_count (take (i + 1) fields) ≡ n + length (carried (f ∷ []))
    = ap carried_count (take_more fields i record_type h)
    ∙ ap length (filter-append (λ (g : FieldLayout). not g.derived) (take i fields) (f ∷ []))
    ∙ length-append (carried (take i fields)) (carried (f ∷ [])) in
    let before : suc i - 1 ≡ i = omega arith in
    let cell : shown_of enc (option_and_then (λ _. slice_get r.cells n) (cond f.derived None (Some f))) ≡ field_cell enc r (suc i)
    = ap (λ (o : Option FieldLayout). shown_of enc (option_and_then (λ _. slice_get r.cells n)
    (option_and_then (λ (g : FieldLayout). cond g.derived None (Some g)) o))) found
    ∙ ap (λ (m : ℕ). shown_of enc
    (option_and_then (λ _. slice_get r.cells (carried_count (take m fields))) (carried_at r.kind (suc i)))) (sym before) in
    ap (λ (m : ℕ). next_cells (map (shown_cell enc) (take m r.cells))) count
    ∙ cells_one enc f.derived f n r.cells
    ∙ ap (λ (l : List ℕ). cells_before enc r i ++ l) (cell ∙ ap (field_cell enc r) (suc_is i))

cells_many : (fields : List FieldLayout) (cells : List (List ℕ)) → AllZip IsCellOf fields cells → length cells ≡ length fields
cells_many [] [] h = refl
cells_many [] (c ∷ cells) h = absurd h
cells_many (f ∷ fields) [] h = absurd h
cells_many (f ∷ fields) (c ∷ cells) h = ap suc (cells_many fields cells h.1)

-- with all of them
pub cells_whole : (enc : Encoding) (r : RecordValue) (i : ℕ) → IsRecord r → length (layout r.kind) ≤ i → cells_before enc r i ≡ shown_cells enc r
unfolding shown_cells
cells_whole enc r i fits h =
    let many : length r.cells ≡ length (carried_fields r.kind) = cells_many (carried_fields r.kind) r.cells fits in
    ap (λ (fields : List FieldLayout). next_cells (map (shown_cell enc) (take (carried_count fields) r.cells)))
    (take_all i (layout r.kind) h)
    ∙ ap (λ (l : List (List ℕ)). next_cells (map (shown_cell enc) l))
    (take_all (length (carried_fields r.kind)) r.cells (omega (arith, many)))

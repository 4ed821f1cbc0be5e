-- The first cells of one list and the others of another: they are good, and as wide as the fields, where both are.
use Rattle.std.proofs.Common.{◌≡◌, ℕ, zero, suc, ◌+◌, ◌-◌, ◌<◌, ◌≤◌, List, [], ◌∷◌, ◌++◌, length, map, take, drop, replicate}
use Rattle.std.proofs.Common.{refl, sym, ap, ap₂, subst, ◌∙◌, arith, append_assoc}
use Rattle.std.specs.Prelude.{Option, Some, None, slice_get}
use Rattle.std.specs.List.{AllZip}
use Rattle.std.proofs.lemmas.List.{length-append, length-replicate, length-drop, replicate-append-replicate, take-append-le}
use Rattle.cwr_fields.specs.Format.Bytes.{filled}
use Rattle.cwr_fields.specs.declared.kinds.Kind.{Kind}
use Rattle.cwr_fields.specs.Format.Kinds.{letters}
use Rattle.cwr_fields.specs.Format.Layouts.{FieldLayout, fields_after_type, total_width, line_width, record_type}
use Rattle.cwr_lines.specs.Format.Records.{RecordValue, IsRecord, rest_if, row_of}
use Rattle.cwr_lines.specs.Format.Lines.{line_kind, line_cells, line_body, cells_as, pieces}
use Rattle.cwr_lines.proofs.lemmas.RowLaws.{Fits}
use Rattle.cwr_lines.specs.Format.GoodCells.{AreGood}
use Rattle.cwr_lines.proofs.lemmas.GoodLinesAreRows.{total-cons, pieces_wide, letters-of}
use Rattle.cwr_shape.specs.declared.symbols.Symbol.{Symbol}
use Rattle.cwr_values.specs.Format.Values.{symbol_of}

-- ---- the first cells of one list, and the others of another

abbrev pub mixed : ℕ → List (List ℕ) → List (List ℕ) → List (List ℕ)
mixed m cells others = take m cells ++ drop m others

-- good cells in front and good cells after
pub mixed_good : (m : ℕ) (fields : List FieldLayout) (ns : List ℕ) (cells others : List (List ℕ)) → m ≤ length cells
    → AreGood (take m fields) ns (take m cells) → AreGood fields ns others → AreGood fields ns (mixed m cells others)
mixed_good zero fields ns cells others h g k = k
mixed_good (suc m) [] ns cells others h g k = tt
mixed_good (suc m) (f ∷ fields) ns [] others h g k = absurd (omega (arith, h))
mixed_good (suc m) (f ∷ fields) ns (c ∷ cells) [] h g k = absurd k
mixed_good (suc m) (f ∷ fields) ns (c ∷ cells) (o ∷ others) h g k =
    (g.0, mixed_good m fields (rest_if f.derived ns) cells others (omega (arith, h)) g.1 k.1)

abbrev pub Wide : List FieldLayout → List (List ℕ) → Type 0
Wide fields cells = AllZip (λ f text. length text ≡ f.width) fields cells

pub mixed_wide : (m : ℕ) (fields : List FieldLayout) (cells others : List (List ℕ)) → Wide fields cells → Wide fields others
    → Wide fields (mixed m cells others)
mixed_wide zero fields cells others h k = k
mixed_wide (suc m) [] [] [] h k = tt
mixed_wide (suc m) [] (c ∷ cells) others h k = absurd h
mixed_wide (suc m) [] [] (o ∷ others) h k = absurd k
mixed_wide (suc m) (f ∷ fields) [] others h k = absurd h
mixed_wide (suc m) (f ∷ fields) (c ∷ cells) [] h k = absurd k
mixed_wide (suc m) (f ∷ fields) (c ∷ cells) (o ∷ others) h k = (h.0, mixed_wide m fields cells others h.1 k.1)

pub mixed_front : (m : ℕ) (cells others : List (List ℕ)) → m ≤ length cells → take m (mixed m cells others) ≡ take m cells
mixed_front zero cells others h = refl
mixed_front (suc m) [] others h = absurd (omega (arith, h))
mixed_front (suc m) (c ∷ cells) [] h = ap (λ (l : List (List ℕ)). c ∷ l) (front m cells (omega (arith, h)))
  where
    front : (n : ℕ) (cs : List (List ℕ)) → n ≤ length cs → take n (take n cs ++ []) ≡ take n cs
    front zero cs k = refl
    front (suc n) [] k = refl
    front (suc n) (d ∷ cs) k = ap (λ (l : List (List ℕ)). d ∷ l) (front n cs (omega (arith, k)))
mixed_front (suc m) (c ∷ cells) (o ∷ others) h = ap (λ (l : List (List ℕ)). c ∷ l) (mixed_front m cells others (omega (arith, h)))

-- a cell of it stands in the first list, or in the other
pub mixed_at_front : (m i : ℕ) (cells others : List (List ℕ)) → i < m → m ≤ length cells
    → slice_get (mixed m cells others) i ≡ slice_get cells i
mixed_at_front zero i cells others h k = absurd (omega (arith, h))
mixed_at_front (suc m) i [] others h k = absurd (omega (arith, k))
mixed_at_front (suc m) zero (c ∷ cells) others h k = refl
mixed_at_front (suc m) (suc i) (c ∷ cells) [] h k = after m i cells (omega (arith, h)) (omega (arith, k))
  where
    after : (n j : ℕ) (cs : List (List ℕ)) → j < n → n ≤ length cs → slice_get (take n cs ++ []) j ≡ slice_get cs j
    after zero j cs p q = absurd (omega (arith, p))
    after (suc n) j [] p q = absurd (omega (arith, q))
    after (suc n) zero (d ∷ cs) p q = refl
    after (suc n) (suc j) (d ∷ cs) p q = after n j cs (omega (arith, p)) (omega (arith, q))
mixed_at_front (suc m) (suc i) (c ∷ cells) (o ∷ others) h k =
    mixed_at_front m i cells others (omega (arith, h)) (omega (arith, k))

pub mixed_at_back : (m i : ℕ) (cells others : List (List ℕ)) → m ≤ i → m ≤ length cells → m ≤ length others
    → slice_get (mixed m cells others) i ≡ slice_get others i
mixed_at_back zero i cells others h k l = refl
mixed_at_back (suc m) i [] others h k l = absurd (omega (arith, k))
mixed_at_back (suc m) i (c ∷ cells) [] h k l = absurd (omega (arith, l))
mixed_at_back (suc m) zero (c ∷ cells) (o ∷ others) h k l = absurd (omega (arith, h))
mixed_at_back (suc m) (suc i) (c ∷ cells) (o ∷ others) h k l =
    mixed_at_back m i cells others (omega (arith, h)) (omega (arith, k)) (omega (arith, l))

pub taken_at : (n i : ℕ) (cells : List (List ℕ)) → i < n → slice_get (take n cells) i ≡ slice_get cells i
taken_at zero i cells h = absurd (omega (arith, h))
taken_at (suc n) i [] h = refl
taken_at (suc n) zero (c ∷ cells) h = refl
taken_at (suc n) (suc i) (c ∷ cells) h = taken_at n i cells (omega (arith, h))

-- ---- the record of a symbol whose first cells are those of the line

-- a record of the kind, whose row has these first cells, and has the symbol
pub record MixedNext (ns : List ℕ) (kind : Kind) (line : List ℕ) (k : ℕ) (s : Symbol) : Type 0 where
  pub value : RecordValue
  pub of_kind : value.kind ≡ kind
  pub in_order : IsRecord value
  pub symbol : symbol_of value ≡ s
  pub front : take k (row_of ns value).cells ≡ take k (line_cells line)

pub taken_none : (n i : ℕ) (cells : List (List ℕ)) → n ≤ i → slice_get (take n cells) i ≡ None
taken_none zero i cells h = refl
taken_none (suc n) i [] h = refl
taken_none (suc n) zero (c ∷ cells) h = absurd (omega (arith, h))
taken_none (suc n) (suc i) (c ∷ cells) h = taken_none n i cells (omega (arith, h))

-- ---- a line of a kind

pub wide_only : (fields : List FieldLayout) (cells : List (List ℕ)) → AllZip Fits fields cells → Wide fields cells
wide_only [] [] h = tt
wide_only [] (c ∷ cells) h = absurd h
wide_only (f ∷ fields) [] h = absurd h
wide_only (f ∷ fields) (c ∷ cells) h = (h.0.0, wide_only fields cells h.1)

pub wide_length : (fields : List FieldLayout) (cells : List (List ℕ)) → Wide fields cells → length cells ≡ length fields
wide_length [] [] h = refl
wide_length [] (c ∷ cells) h = absurd h
wide_length (f ∷ fields) [] h = absurd h
wide_length (f ∷ fields) (c ∷ cells) h = ap suc (wide_length fields cells h.1)

filled_long : (w : ℕ) (body : List ℕ) → w ≤ length (filled w body)
filled_long w body =
    omega (arith, length-append body (replicate (w - length body) 32), length-replicate {A = ℕ} (w - length body) 32)

three_filled : (w : ℕ) (body : List ℕ) → 3 ≤ w → take 3 (filled w body) ≡ take 3 (filled 3 body)
three_filled w body h =
    let a : ℕ = 3 - length body in
    let b : ℕ = (w - length body) - (3 - length body) in
    let split : filled w body ≡ filled 3 body ++ replicate b 32 =
    ap (λ (n : ℕ). body ++ replicate n 32) (omega arith)
    ∙ ap (λ (x : List ℕ). body ++ x) (sym (replicate-append-replicate a b 32))
    ∙ sym (append_assoc body (replicate a 32) (replicate b 32)) in
    ap (take 3) split ∙ take-append-le 3 (filled 3 body) (replicate b 32) (filled_long 3 body)

-- its first cell is the kind's letters, and each other one is as wide as its field
pub line_parts : (kind : Kind) (line : List ℕ) → line_kind line ≡ Some kind
    → (line_cells line ≡ letters kind ∷ drop 1 (line_cells line)) × Wide (fields_after_type kind) (drop 1 (line_cells line))
line_parts kind line k =
    let body : List ℕ = line_body line in
    let fields : List FieldLayout = fields_after_type kind in
    let wide : line_width kind ≡ 3 + total_width fields = total-cons record_type fields in
    let text : List ℕ = filled (line_width kind) body in
    let after : List (List ℕ) = pieces (map (λ f. f.width) fields) (drop 3 text) in
    let cells : line_cells line ≡ take 3 text ∷ after = ap (λ (o : Option Kind). cells_as o body) k in
    let first : letters kind ≡ take 3 text =
    letters-of (take 3 (filled 3 body)) kind k ∙ sym (three_filled (line_width kind) body (omega arith)) in
    let enough : total_width fields ≤ length (drop 3 text) =
    omega (arith, wide, filled_long (line_width kind) body, length-drop 3 text) in
    let rest : drop 1 (line_cells line) ≡ after = ap (drop 1) cells in (
      cells ∙ ap₂ (λ (x : List ℕ) (xs : List (List ℕ)). x ∷ xs) (sym first) (sym rest),
      subst (Wide fields) (sym rest) (pieces_wide fields (drop 3 text) enough),
    )

-- The cells of a record under their labels are the lines of its cells, but for the line feed at the end.
use Rattle.std.proofs.Common.{◌≡◌, ℕ, zero, suc, ◌+◌, ◌<◌, ◌≤◌, Bool, true, false, List, [], ◌∷◌, ◌++◌, length, codes, decimal, if◌then◌else◌}
use Rattle.std.proofs.Common.{Option, Some, None, refl, sym, ap, ap₂, subst, ◌∙◌, append-nil, append_assoc, arith}
use Rattle.std.proofs.lemmas.Bool.{ltb-false, ltb-true}
use Rattle.std.specs.Borrow.{Bor}
use Rattle.std.specs.Prelude.{◌==◌, IfSome, IsTrue, nat_lt, get_or, map, option_map, slice_get}
use Rattle.std.specs.List.{enumerate_from}
use Rattle.std.proofs.lemmas.List.{length-append, length-map}
use Rattle.std.proofs.lemmas.List.FromFn.{length-enumerate_from}
use Rattle.std.proofs.lemmas.Option.{slice_get-get_or, slice_get-map}
use Rattle.cwr_fields.specs.declared.kinds.Kind.{Kind}
use Rattle.cwr_fields.specs.Format.Bytes.{is_spaces, trimmed}
use Rattle.cwr_fields.specs.Format.Kinds.{letters}
use Rattle.cwr_fields.specs.Format.Layouts.{FieldLayout, field_at, field_with_start, layout}
use Rattle.cwr_fields.proofs.lemmas.Trims.{blank_when_trimmed}
use Rattle.cwr_fields.proofs.lemmas.TrimmedTexts.{spaces_after}
use Rattle.cwr_lines.specs.Format.Records.{RecordValue}
use Rattle.cwr_lines.specs.Format.Carried.{carried_at, record_cell}
use Rattle.cwr_lines.proofs.lemmas.CarriedCells.{open_some}
use Rattle.cwr_devices.proofs.lemmas.Adding.{numbered_there}
use Rattle.cwr_notes.specs.Format.RecordTexts.{record_lines}
use Rattle.cwr_notes.specs.Steps.FieldLines.{field_line, line_of}
use Rattle.cwr_notes.specs.Steps.Labels.{label_of, labelled, labelled_cell, labelled_cells, labelled_field, labels_of}
use Rattle.cwr_notes.proofs.lemmas.CellsOfFields.{carried_field, lines_before, lines_more, lines_whole}

-- ---- one cell

-- nothing is written of a cell of which trimming leaves nothing
pub blank_cell : (label cell shown : List ℕ) (b : Bool) → shown ≡ trimmed cell → b ≡ (length shown == 0) → b ≡ true
    → labelled_cell label cell ≡ []
blank_cell label cell shown b same is blank = rw none
  where
    none : is_spaces cell ≡ true
    none = blank_when_trimmed cell ∙ ap (λ (xs : List ℕ). length xs == 0) (sym same) ∙ sym is ∙ blank

-- of any other its label and what trimming leaves are
pub shown_cell : (label cell shown : List ℕ) (b : Bool) → shown ≡ trimmed cell → b ≡ (length shown == 0) → b ≡ false
    → label ++ shown ≡ labelled_cell label cell
shown_cell label cell shown b same is some =
    ap (λ (xs : List ℕ). label ++ xs) same
    ∙ ap (λ (b : Bool). if b then [] else label ++ trimmed cell)
    (sym (blank_when_trimmed cell ∙ ap (λ (xs : List ℕ). length xs == 0) (sym same) ∙ sym is ∙ some))

-- no cell gets longer
pub length-trimmed-le : (text : List ℕ) → length (trimmed text) ≤ length text
length-trimmed-le text = let p = spaces_after text in omega (arith, ap length p.1, length-append (trimmed text))

-- ---- the cell of one field

pub labelled-none : (j : ℕ) (o : Option FieldLayout) → labelled j o None ≡ []
labelled-none j None = refl
labelled-none j (Some f) = refl

pub labelled-some : (r : RecordValue) (j : ℕ) (label : List ℕ) (p : ℕ × FieldLayout) (cell : List ℕ) → Some cell ≡ record_cell r j
    → Some p ≡ field_with_start r.kind j → IfSome (carried_at r.kind j) (λ f. label ≡ label_of j f)
    → labelled_cell label cell ≡ labelled_field r j
labelled-some r j label p cell e place named =
    let carried : carried_at r.kind j ≡ Some p.1 = carried_field r j p cell e place in
    let is : label ≡ label_of j p.1 = subst (λ (o : Option FieldLayout). IfSome o (λ f. label ≡ label_of j f)) carried named in
    ap (λ (l : List ℕ). labelled_cell l cell) is
    ∙ ap₂ (λ (o : Option FieldLayout) (found : Option (List ℕ)). labelled j o found) (sym carried) e

-- the label at a field's place is that field's
pub label_there : (kind : Kind) (i : ℕ) (label : List ℕ) → slice_get (labels_of (layout kind)) i ≡ Some label
    → IfSome (carried_at kind (i + 1)) (λ f. label ≡ label_of (i + 1) f)
label_there kind i label e = by (carried_at kind (i + 1)) refl where
  by : (o : Option FieldLayout) → carried_at kind (i + 1) ≡ o → IfSome o (λ f. label ≡ label_of (i + 1) f)
  by None h = tt
  by (Some f) h =
      let at : field_at kind (i + 1) ≡ Some f = (open_some (field_at kind (i + 1)) f h).0 in
      let next : suc i ≡ i + 1 = omega arith in
      let here : Some f ≡ slice_get (layout kind) i = sym at ∙ ap (field_at kind) (sym next) in
      let numbered : Some (1 + i, f) ≡ slice_get (enumerate_from 1 (layout kind)) i = numbered_there 1 i (layout kind) f here in
      let there : Some label ≡ Some (label_of (1 + i) f) =
      sym e ∙ slice_get-map (λ (p : ℕ × FieldLayout). label_of p.0 p.1) (enumerate_from 1 (layout kind)) i
      ∙ ap (option_map (λ (p : ℕ × FieldLayout). label_of p.0 p.1)) (sym numbered) in
      let same : label ≡ label_of (1 + i) f = cc there in
      same ∙ ap (λ (n : ℕ). label_of n f) (omega arith)

-- there are as many labels as fields
pub as_many_labels : (kind : Kind) (labels : List (Bor (List ℕ))) → map (λ label. label.now) labels ≡ labels_of (layout kind)
    → length labels ≡ length (layout kind)
as_many_labels kind labels e =
    sym (length-map labels (λ label. label.now)) ∙ ap length e
    ∙ length-map (enumerate_from 1 (layout kind)) (λ (p : ℕ × FieldLayout). label_of p.0 p.1) ∙ length-enumerate_from 1 (layout kind)

-- and so it is in the table of labels, where the kind and the place are read elsewhere
pub label_read : (kind same : Kind) (labels : List (Bor (List ℕ))) (place i : ℕ) (other : Bor (List ℕ))
    → map (λ label. label.now) labels ≡ labels_of (layout kind) → kind ≡ same → place ≡ i → i < length (layout kind)
    → IfSome (carried_at same (i + 1)) (λ f. (get_or labels place other).now ≡ label_of (i + 1) f)
label_read kind same labels place i other e this here h =
    let as_many : length labels ≡ length (layout kind) = as_many_labels kind labels e in
    let there : slice_get (labels_of (layout kind)) i ≡ Some (get_or labels place other).now =
    ap (λ (l : List (List ℕ)). slice_get l i) (sym e) ∙ slice_get-map (λ label. label.now) labels i
    ∙ ap (option_map (λ (label : Bor (List ℕ)). label.now)) (slice_get-get_or labels i other (omega (arith, h, as_many))
    ∙ ap (λ (n : ℕ). Some (get_or labels n other)) (sym here)) in
    label_there same i (get_or labels place other).now (subst (λ (k : Kind). slice_get (labels_of (layout k)) i ≡ Some (get_or labels place other).now) this there)

-- ---- all of them

-- a cell under its label, and the end of its line, are the end of the line before and its line
pub as_line : (j : ℕ) (o : Option FieldLayout) (cell : Option (List ℕ)) → 10 ∷ line_of j o cell ≡ labelled j o cell ++ 10 ∷ []
as_line j None cell = refl
as_line j (Some f) None = refl
as_line j (Some f) (Some cell) = by (is_spaces cell)
  where
    by : (b : Bool) → 10 ∷ (if b then [] else codes "  " ++ decimal j ++ codes " " ++ f.name ++ codes ": " ++ trimmed cell ++ 10 ∷ [])
        ≡ (if b then [] else label_of j f ++ trimmed cell) ++ 10 ∷ []
    by true = refl
    by false = refl

-- with one field more
pub labelled_more : (r : RecordValue) (i : ℕ) → labelled_cells r (i + 1) ≡ labelled_cells r i ++ labelled_field r (i + 1)
labelled_more r i =
    let next : suc i ≡ i + 1 = omega arith in
    subst (λ (n : ℕ). labelled_cells r n ≡ labelled_cells r i ++ labelled_field r n) next refl

-- nothing is written of a field whose cell is blank
labelled_blank : (r : RecordValue) (j : ℕ) → IfSome (record_cell r j) (λ cell. IsTrue (is_spaces cell)) → labelled_field r j ≡ []
labelled_blank r j h = by (carried_at r.kind j) (record_cell r j) h where
  by : (o : Option FieldLayout) (cell : Option (List ℕ)) → IfSome cell (λ cell. IsTrue (is_spaces cell)) → labelled j o cell ≡ []
  by None cell h = refl
  by (Some f) None h = refl
  by (Some f) (Some cell) h = rw h refl

-- so the fields that have all that is filled are as good as all
pub labelled_filled : (r : RecordValue) (filled all i : ℕ) → i ≡ filled → filled ≤ all
    → ((j : ℕ) → filled < j → IfSome (record_cell r j) (λ cell. IsTrue (is_spaces cell)))
    → labelled_cells r i ≡ labelled_cells r all
labelled_filled r filled all i is h blank = ap (labelled_cells r) is ∙ up all h
  where
    next : (n : ℕ) (b : Bool) → nat_lt filled (suc n) ≡ b → filled ≤ suc n → (filled ≤ n → labelled_cells r filled ≡ labelled_cells r n)
        → labelled_cells r filled ≡ labelled_cells r (suc n)
    next n true e h before =
        before (omega (arith, ltb-true filled (suc n) e)) ∙ sym (append-nil (labelled_cells r n))
        ∙ ap (λ (text : List ℕ). labelled_cells r n ++ text)
        (sym (labelled_blank r (suc n) (blank (suc n) (ltb-true filled (suc n) e))))
    next n false e h before =
        let last : filled ≡ suc n = omega (arith, h, ltb-false filled (suc n) e) in ap (labelled_cells r) last

    up : (n : ℕ) → filled ≤ n → labelled_cells r filled ≡ labelled_cells r n
    up zero h = let none : filled ≡ zero = omega (arith, h) in ap (labelled_cells r) none
    up (suc n) h = next n (nat_lt filled (suc n)) refl h (up n)

as_lines : (r : RecordValue) (i : ℕ) → i ≤ length (layout r.kind) → 10 ∷ lines_before r i ≡ labelled_cells r i ++ 10 ∷ []
as_lines r zero h = refl
as_lines r (suc i) h =
    let next : suc i ≡ i + 1 = omega arith in
    subst (λ (n : ℕ). 10 ∷ lines_before r n ≡ labelled_cells r n ++ 10 ∷ []) (sym next)
    (ap (λ (l : List ℕ). 10 ∷ l) (lines_more r i (omega (arith, h)))
    ∙ ap (λ (l : List ℕ). l ++ field_line r (i + 1)) (as_lines r i (omega (arith, h)))
    ∙ append_assoc (labelled_cells r i) (10 ∷ []) (field_line r (i + 1))
    ∙ ap (λ (l : List ℕ). labelled_cells r i ++ l) (as_line (i + 1) (carried_at r.kind (i + 1)) (record_cell r (i + 1)))
    ∙ sym (append_assoc (labelled_cells r i) (labelled_field r (i + 1)) (10 ∷ []))
    ∙ ap (λ (l : List ℕ). l ++ 10 ∷ []) (sym (labelled_more r i)))

-- a record's number and kind, its cells under their labels, and the end of the last line
pub labelled_whole : (n : ℕ) (r : RecordValue)
    → ((decimal n ++ codes " " ++ letters r.kind) ++ labelled_cells r (length (layout r.kind))) ++ 10 ∷ [] ≡ record_lines n r
labelled_whole n r =
    let all : ℕ = length (layout r.kind) in
    append_assoc (decimal n ++ codes " " ++ letters r.kind) (labelled_cells r all) (10 ∷ [])
    ∙ ap (λ (l : List ℕ). (decimal n ++ codes " " ++ letters r.kind) ++ l)
    (sym (as_lines r all (omega arith)) ∙ ap (λ (l : List ℕ). 10 ∷ l) (lines_whole r all (omega arith)))
    ∙ sym (append_assoc (decimal n ++ codes " " ++ letters r.kind) (10 ∷ []) _)

-- A line that was cut is that of a record that may come next exactly where it is the line of that record's row.
use Rattle.std.proofs.Common.{◌≡◌, ℕ, zero, suc, Bool, true, false, not, cond, List, [], ◌∷◌, length, drop, map, filter}
use Rattle.std.proofs.Common.{slice_get, refl, sym, ap, subst, ◌∙◌, arith, true≢false, ◌≤◌}
use Rattle.std.specs.Prelude.{Option, Some, slice_index}
use Rattle.std.specs.List.{AllZip, list_any, zip}
use Rattle.std.proofs.lemmas.Bool.{or_parts}
use Rattle.std.proofs.lemmas.List.{length-drop}
use Rattle.cwr_fields.specs.declared.codes.TransactionType.{TransactionType}
use Rattle.cwr_fields.specs.Format.Bytes.{digits}
use Rattle.cwr_fields.proofs.lemmas.LineFeeds.{NoLf}
use Rattle.cwr_fields.specs.declared.kinds.Kind.{Kind}
use Rattle.cwr_fields.specs.declared.kinds.Kind.TheVariants as kinds
use Rattle.cwr_fields.specs.Format.Layouts.{FieldLayout, fields_after_type, field_at}
use Rattle.cwr_lines.specs.Format.Records.{RecordValue, IsRecord, IsCellOf, IsGoodCell, carried_fields, rest_if, record_of}
use Rattle.cwr_lines.specs.Format.Records.{row_of}
use Rattle.cwr_lines.specs.Format.Lines.{IsLineOf}
use Rattle.cwr_lines.specs.Steps.Held.{HeldLine, IsHeld, HoldsLine, held_kind, held_cells, held_cell, held_record, carried_by}
use Rattle.cwr_lines.proofs.lemmas.HeldLaws.{held_line_is_cut, length-held_cells, held_cell-at}
use Rattle.cwr_lines.proofs.lemmas.CutLaws.{line_is_cut}
use Rattle.cwr_lines.proofs.lemmas.RowLaws.{IsRow-row_of, record_of-row_of}
use Rattle.cwr_lines.specs.Format.GoodCells.{AreGood}
use Rattle.cwr_lines.proofs.lemmas.GoodLinesAreRows.{carried_in, good_line_is_row, line_is_good}
use Rattle.cwr_shape.specs.declared.symbols.Symbol.{Symbol}
use Rattle.cwr_shape.specs.declared.symbols.Symbol.TheVariants.{Plain}
use Rattle.cwr_shape.specs.declared.tallies.Counts.{Counts}
use Rattle.cwr_shape.specs.Format.Ranges.{LimitValues}
use Rattle.cwr_shape.specs.Format.Numbers.{symbol_kind, number_in, IsNumberAt}
use Rattle.cwr_shape.specs.Format.NextSymbols.{MayCome, open_type, counts_of, is_header_of}
use Rattle.cwr_shape.specs.Format.ExpectedNumbers.{expected_numbers, expected_inside}
use Rattle.cwr_shape.proofs.lemmas.NumbersAreCounted.{numbers_counted}
use Rattle.cwr_shape.proofs.lemmas.WhatMayCome.{comes_any}
use Rattle.cwr_values.specs.Format.Values.{symbol_of}
use Rattle.cwr_judge.specs.Steps.Judged.{HasNumbers, IsNext}
use Rattle.cwr_judge.proofs.lemmas.NumberCells.{one_number, known_of, symbol_kind-of}

-- the numbers of the next record, if it is of the kind
abbrev pub numbers_next : List Symbol → Kind → List ℕ
numbers_next xs kind = expected_numbers (open_type xs) (counts_of xs) kind

-- the number in a field of a record of the kind that may come next is the one of these numbers
pub number_next : (xs : List Symbol) (kind : Kind) (j : ℕ) → IsNumberAt xs kind j (number_in kind j (numbers_next xs kind))
number_next xs kind j groups s rest h split k =
    ap (number_in kind j)
    (ap (expected_numbers (open_type xs) (counts_of xs)) (sym k) ∙ sym (numbers_counted groups xs s rest h split))

-- ---- numbers by their fields, and in their order

-- the number of a derived field is the next of the list
abbrev pub agree_by : Bool → Option ℕ → ℕ → Type 0
agree_by true m n = m ≡ Some n
agree_by false m n = Unit {0}

-- each derived field has the next number of the list
abbrev pub Agree : List FieldLayout → List ℕ → (ℕ → Option ℕ) → Type 0
Agree [] ns number = Unit {0}
Agree (f ∷ fields) ns number =
    agree_by f.derived (number 0) (slice_index ns 0) × Agree fields (rest_if f.derived ns) (λ k. number (suc k))

-- fields of which none is derived
carried_agree : (fields : List FieldLayout) (ns : List ℕ) (number : ℕ → Option ℕ) → list_any (λ f. f.derived) fields ≡ false
    → Agree fields ns number
carried_agree [] ns number h = tt
carried_agree (f ∷ fields) ns number h =
    by f.derived (or_parts f.derived (list_any (λ x. x.derived) fields) h).0
    (carried_agree fields ns (λ k. number (suc k)) (or_parts f.derived (list_any (λ x. x.derived) fields) h).1)
  where
    by : (b : Bool) → b ≡ false → Agree fields ns (λ k. number (suc k))
        → agree_by b (number 0) (slice_index ns 0) × Agree fields (rest_if b ns) (λ k. number (suc k))
    by true e a = absurd (true≢false e)
    by false e a = (tt, a)

-- the numbers of a kind by its fields
abbrev pub number_by_field : Kind → List ℕ → ℕ → Option ℕ
number_by_field kind ns k = number_in kind (suc (suc k)) ns

inside_agree : (kind : Kind) (b : Bool) (c : Counts) → (kind ≡ kinds.Hdr → ⊥) → (kind ≡ kinds.Grh → ⊥) → (kind ≡ kinds.Grt → ⊥)
    → (kind ≡ kinds.Trl → ⊥)
    → Agree (fields_after_type kind) (expected_inside b c) (number_by_field kind (expected_inside b c))
inside_agree kinds.Hdr b c hdr grh grt trl = absurd (hdr refl)
inside_agree kinds.Grh b c hdr grh grt trl = absurd (grh refl)
inside_agree kinds.Grt b c hdr grh grt trl = absurd (grt refl)
inside_agree kinds.Trl b c hdr grh grt trl = absurd (trl refl)
inside_agree kind true c hdr grh grt trl = (
  refl,
  (
    refl,
    carried_agree (drop 2 (fields_after_type kind)) [] (λ k. number_by_field kind (expected_inside true c) (suc (suc k))) refl,
  ),
)
inside_agree kind false c hdr grh grt trl = (
  refl,
  (
    refl,
    carried_agree (drop 2 (fields_after_type kind)) [] (λ k. number_by_field kind (expected_inside false c) (suc (suc k))) refl,
  ),
)

-- the numbers by their fields are those of the list
pub numbers_agree : (ty : TransactionType) (c : Counts) (kind : Kind)
    → Agree (fields_after_type kind) (expected_numbers ty c kind) (number_by_field kind (expected_numbers ty c kind))
numbers_agree ty c kinds.Hdr = carried_agree (fields_after_type kinds.Hdr) [] (number_by_field kinds.Hdr []) refl
numbers_agree ty c kinds.Grh = (
  tt,
  (
    refl,
    carried_agree (drop 2 (fields_after_type kinds.Grh)) []
        (λ k. number_by_field kinds.Grh (expected_numbers ty c kinds.Grh) (suc (suc k))) refl,
  ),
)
numbers_agree ty c kinds.Grt = (
  refl,
  (
    refl,
    (
      refl,
      carried_agree (drop 3 (fields_after_type kinds.Grt)) []
          (λ k. number_by_field kinds.Grt (expected_numbers ty c kinds.Grt) (suc (suc (suc k)))) refl,
    ),
  ),
)
numbers_agree ty c kinds.Trl = (refl, (refl, (refl, tt)))
numbers_agree ty c kind = inside_agree kind (is_header_of ty (Plain kind)) c (λ e. cc e) (λ e. cc e) (λ e. cc e) (λ e. cc e)

agree_some : (fields : List FieldLayout) (ns : List ℕ) (number : ℕ → Option ℕ) → Agree fields ns number
    → (k : ℕ) (f : FieldLayout) → slice_get fields k ≡ Some f → f.derived ≡ true → (n : ℕ) × (number k ≡ Some n)
agree_some [] ns number a k f e d = absurd (cc e)
agree_some (g ∷ fields) ns number a zero f e d =
    let same : g ≡ f = cc e in
    by g.derived (ap (λ (x : FieldLayout). x.derived) same ∙ d) a.0
  where
    by : (b : Bool) → b ≡ true → agree_by b (number 0) (slice_index ns 0) → (n : ℕ) × (number 0 ≡ Some n)
    by true h q = (slice_index ns 0, q)
    by false h q = absurd (true≢false (sym h))
agree_some (g ∷ fields) ns number a (suc k) f e d = agree_some fields (rest_if g.derived ns) (λ i. number (suc i)) a.1 k f e d

-- a number belongs in each derived field after the record type
pub some_number : (xs : List Symbol) (kind : Kind) (j : ℕ) (f : FieldLayout) → 2 ≤ j → field_at kind j ≡ Some f → f.derived ≡ true
    → (n : ℕ) × (number_in kind j (numbers_next xs kind) ≡ Some n)
some_number xs kind zero f from e d = absurd (omega arith)
some_number xs kind (suc zero) f from e d = absurd (omega arith)
some_number xs kind (suc (suc k)) f from e d =
    agree_some (fields_after_type kind) (numbers_next xs kind) (number_by_field kind (numbers_next xs kind))
    (numbers_agree (open_type xs) (counts_of xs) kind) k f e d

-- ---- cells

-- the cell is the number, in the field's width
record Spelled (number : Option ℕ) (width : ℕ) (cell : Option (List ℕ)) : Type 0 where
  value : ℕ
  known : number ≡ Some value
  text : cell ≡ Some (digits width value)

-- each derived cell is the number of its field
abbrev AreSpelled : List FieldLayout → (ℕ → Option ℕ) → List (List ℕ) → Type 0
AreSpelled fields number cells =
    (k : ℕ) (f : FieldLayout) → slice_get fields k ≡ Some f → f.derived ≡ true → Spelled (number k) f.width (slice_get cells k)

good_by : (b : Bool) (f : FieldLayout) (fields : List FieldLayout) (m : Option ℕ) (n : ℕ) (c : List ℕ)
    (rest : List (FieldLayout × List ℕ)) → agree_by b m n
    → AllZip IsCellOf (cond (not b) (f ∷ filter (λ g. not g.derived) fields) (filter (λ g. not g.derived) fields))
    (map (λ p. p.1) (cond (not b) ((f, c) ∷ rest) rest))
    → (b ≡ true → Spelled m f.width (Some c))
    → IsGoodCell b f n c × AllZip IsCellOf (filter (λ g. not g.derived) fields) (map (λ p. p.1) rest)
good_by true f fields m n c rest a z g =
    let s = g refl in
    let text : c ≡ digits f.width s.value = cc s.text in
    let same : Some s.value ≡ Some n = sym s.known ∙ a in
    let value : s.value ≡ n = cc same in
    (text ∙ ap (digits f.width) value, z)
good_by false f fields m n c rest a z g = (z.0.1, z.1)

good_all : (fields : List FieldLayout) (ns : List ℕ) (number : ℕ → Option ℕ) (cells : List (List ℕ))
    → length cells ≡ length fields → Agree fields ns number
    → AllZip IsCellOf (filter (λ g. not g.derived) fields) (carried_in fields cells) → AreSpelled fields number cells
    → AreGood fields ns cells
good_all [] ns number cells l a z g = tt
good_all (f ∷ fields) ns number [] l a z g = absurd (omega arith)
good_all (f ∷ fields) ns number (c ∷ cells) l a z g =
    let one =
    good_by f.derived f fields (number 0) (slice_index ns 0) c (filter (λ p. not p.0.derived) (zip fields cells)) a.0 z
    (λ d. g 0 f refl d) in (
      one.0,
      good_all fields (rest_if f.derived ns) (λ k. number (suc k)) cells (omega arith) a.1 one.1 (λ k h e d. g (suc k) h e d),
    )

spelled_by : (b : Bool) (f : FieldLayout) (m : Option ℕ) (n : ℕ) (c : List ℕ) → b ≡ true → agree_by b m n → IsGoodCell b f n c
    → Spelled m f.width (Some c)
spelled_by true f m n c e a g = record { value = n; known = a; text = ap Some g }
spelled_by false f m n c e a g = absurd (true≢false (sym e))

all_spelled : (fields : List FieldLayout) (ns : List ℕ) (number : ℕ → Option ℕ) (cells : List (List ℕ)) → Agree fields ns number
    → AreGood fields ns cells → AreSpelled fields number cells
all_spelled [] ns number cells a g k h e d = absurd (cc e)
all_spelled (f ∷ fields) ns number [] a g k h e d = absurd g
all_spelled (f ∷ fields) ns number (c ∷ cells) a g zero h e d =
    let same : f ≡ h = cc e in
    subst (λ (x : FieldLayout). Spelled (number 0) x.width (Some c)) same
    (spelled_by f.derived f (number 0) (slice_index ns 0) c (ap (λ (x : FieldLayout). x.derived) same ∙ d) a.0 g.0)
all_spelled (f ∷ fields) ns number (c ∷ cells) a g (suc k) h e d =
    all_spelled fields (rest_if f.derived ns) (λ j. number (suc j)) cells a.1 g.1 k h e d

after_first : (cells : List (List ℕ)) (k : ℕ) → slice_get (drop 1 cells) k ≡ slice_get cells (suc k)
after_first [] k = refl
after_first (c ∷ cells) k = refl

pub cell_after : (h : HeldLine) (kind : Kind) (k : ℕ) → held_kind h ≡ Some kind
    → held_cell h (suc (suc k)) ≡ slice_get (drop 1 (held_cells h)) k
cell_after h kind k e = held_cell-at h kind (suc k) e ∙ sym (after_first (held_cells h) k)

-- ---- both ways

-- the record's cells, by its fields after the record type
carried_after : (h : HeldLine) (r : RecordValue) → held_record h ≡ Some r → IsRecord r → AllZip IsCellOf
    (filter (λ g. not g.derived) (fields_after_type r.kind)) (carried_in (fields_after_type r.kind) (drop 1 (held_cells h)))
carried_after h r e in_order = by (held_cells h) same
  where
    same : record_of (record { kind = r.kind; cells = held_cells h }) ≡ r
    same =
        let some : Some (record_of (record { kind = r.kind; cells = held_cells h })) ≡ Some r =
        ap (λ (o : Option Kind). carried_by o (held_cells h)) (sym (known_of h r e)) ∙ e in
        cc some

    empty_cells : (cells : List (List ℕ)) → cells ≡ [] → AllZip IsCellOf (carried_fields r.kind) cells
        → AllZip IsCellOf (carried_fields r.kind) []
    empty_cells cells z q = subst (λ (cs : List (List ℕ)). AllZip IsCellOf (carried_fields r.kind) cs) z q

    nothing : (fields : List FieldLayout) → carried_in fields [] ≡ []
    nothing [] = refl
    nothing (f ∷ fields) = refl

    by : (cells : List (List ℕ)) → record_of (record { kind = r.kind; cells = cells }) ≡ r → AllZip IsCellOf
        (filter (λ g. not g.derived) (fields_after_type r.kind)) (carried_in (fields_after_type r.kind) (drop 1 cells))
    by [] s =
        subst (λ (cs : List (List ℕ)). AllZip IsCellOf (carried_fields r.kind) cs)
        (sym (ap (λ (x : RecordValue). x.cells) s) ∙ sym (nothing (fields_after_type r.kind))) in_order
    by (c ∷ cells) s =
        subst (λ (cs : List (List ℕ)). AllZip IsCellOf (carried_fields r.kind) cs) (sym (ap (λ (x : RecordValue). x.cells) s))
        in_order

-- the line of a record that may come next is the line of its row
pub next_is_line : (limits : LimitValues) (xs : List Symbol) (h : HeldLine) (line : List ℕ) (s : Symbol) (r : RecordValue)
    → IsHeld h → HoldsLine h line → NoLf line → IsNext limits xs h s r
    → IsLineOf (row_of (numbers_next xs r.kind) r) line
next_is_line limits xs h line s r held holds no_lf n =
    let cut = held_line_is_cut h line held holds in
    let kind : Kind = r.kind in
    let ns : List ℕ = numbers_next xs kind in
    let known : held_kind h ≡ Some kind = known_of h r n.carried in
    let cells : List (List ℕ) = drop 1 (held_cells h) in
    let many : length cells ≡ length (fields_after_type kind) =
    omega (arith, length-held_cells h kind known, length-drop 1 (held_cells h)) in
    let spelled : AreSpelled (fields_after_type kind) (number_by_field kind ns) cells = λ k f e d.
    let c = n.numbers (suc (suc k)) (omega arith) f e d in
    record {
      value = c.number;
      known =
          one_number xs kind (suc (suc k)) (number_by_field kind ns k) (Some c.number) s
          (ap symbol_kind (sym n.symbol) ∙ symbol_kind-of r) (comes_any limits xs s n.may_come)
          (number_next xs kind (suc (suc k))) c.belongs;
      text = sym (cell_after h kind k known) ∙ c.spelled;
    } in
    let good : AreGood (fields_after_type kind) ns cells =
    good_all (fields_after_type kind) ns (number_by_field kind ns) cells many (numbers_agree (open_type xs) (counts_of xs) kind)
    (carried_after h r n.carried n.in_order) spelled in
    let v =
    good_line_is_row ns kind line no_lf (sym cut.kind ∙ known) (sym cut.excess ∙ n.excess)
    (subst (λ (cs : List (List ℕ)). AreGood (fields_after_type kind) ns (drop 1 cs)) cut.cells good) in
    let row = line_is_cut (row_of ns v.value) line (IsRow-row_of ns v.value v.in_order) v.is_line in
    let same : Some v.value ≡ Some r =
    ap Some (sym (record_of-row_of ns v.value v.in_order))
    ∙ ap (λ (cs : List (List ℕ)). carried_by (Some v.value.kind) cs) (sym (cut.cells ∙ row.cells))
    ∙ ap (λ (o : Option Kind). carried_by o (held_cells h)) (ap Some v.of_kind ∙ sym known) ∙ n.carried in
    let value : v.value ≡ r = cc same in
    subst (λ (x : RecordValue). IsLineOf (row_of ns x) line) value v.is_line

-- the line of the row of a record that may come next is that record's
pub line_is_next : (limits : LimitValues) (xs : List Symbol) (h : HeldLine) (line : List ℕ) (r : RecordValue) → IsHeld h
    → HoldsLine h line → IsRecord r → MayCome limits xs (symbol_of r)
    → IsLineOf (row_of (numbers_next xs r.kind) r) line → IsNext limits xs h (symbol_of r) r
line_is_next limits xs h line r held holds in_order may_come is_line =
    let cut = held_line_is_cut h line held holds in
    let ns : List ℕ = numbers_next xs r.kind in
    let g = line_is_good ns r line in_order is_line in
    let row = line_is_cut (row_of ns r) line (IsRow-row_of ns r in_order) is_line in
    let known : held_kind h ≡ Some r.kind = cut.kind ∙ g.kind_is in
    let good : AreGood (fields_after_type r.kind) ns (drop 1 (held_cells h)) =
    subst (λ (cs : List (List ℕ)). AreGood (fields_after_type r.kind) ns (drop 1 cs)) (sym cut.cells) g.good in
    record {
      carried =
          ap (λ (o : Option Kind). carried_by o (held_cells h)) known
          ∙ ap (λ (cs : List (List ℕ)). carried_by (Some r.kind) cs) (cut.cells ∙ row.cells)
          ∙ ap Some (record_of-row_of ns r in_order);
      in_order = in_order;
      symbol = refl;
      may_come = may_come;
      numbers =
          each known (all_spelled (fields_after_type r.kind) ns (number_by_field r.kind ns) (drop 1 (held_cells h))
          (numbers_agree (open_type xs) (counts_of xs) r.kind) good);
      excess = cut.excess ∙ g.excess;
    }
  where
    each : held_kind h ≡ Some r.kind
        → AreSpelled (fields_after_type r.kind) (number_by_field r.kind (numbers_next xs r.kind)) (drop 1 (held_cells h))
        → HasNumbers xs h r.kind
    each known spelled zero from = absurd (omega arith)
    each known spelled (suc zero) from = absurd (omega arith)
    each known spelled (suc (suc k)) from = λ f e d.
        let c = spelled k f e d in
        record {
          number = c.value;
          belongs = subst (λ (o : Option ℕ). IsNumberAt xs r.kind (suc (suc k)) o) c.known (number_next xs r.kind (suc (suc k)));
          spelled = cell_after h r.kind k known ∙ c.text;
        }

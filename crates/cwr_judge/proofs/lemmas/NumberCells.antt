-- The derived cells of a line that was cut, and the record that it carries.
use Rattle.std.proofs.Common.{◌≡◌, ℕ, zero, suc, true, false, List, [], ◌∷◌, ◌++◌, length, take, drop, option_map, slice_get}
use Rattle.std.proofs.Common.{refl, sym, ap, ap₂, subst, ◌∙◌, arith, append_assoc, true≢false}
use Rattle.std.specs.Prelude.{Option, Some, None, IsTrue, IsSomeAnd}
use Rattle.std.specs.List.{list_any}
use Rattle.std.proofs.lemmas.Bool.{or_parts}
use Rattle.std.proofs.lemmas.List.{length-drop, length-take-le}
use Rattle.cwr_fields.specs.Format.Bytes.{digits}
use Rattle.cwr_fields.specs.Format.Cells.{type_width}
use Rattle.cwr_fields.specs.declared.kinds.Kind.{Kind}
use Rattle.cwr_fields.specs.declared.kinds.Kind.TheVariants as kinds
use Rattle.cwr_fields.specs.declared.layouts.Field.{Field}
use Rattle.cwr_fields.specs.Format.Kinds.{is_in_transaction}
use Rattle.cwr_fields.specs.Format.Layouts.{FieldLayout, layout, field_at, field_with_start}
use Rattle.cwr_fields.specs.Steps.Views.{field_view}
use Rattle.cwr_lines.specs.Format.Records.{RecordValue}
use Rattle.cwr_lines.specs.Steps.Held.{HeldLine, held_kind, held_cell, held_cells, held_record, carried_by}
use Rattle.cwr_fields.proofs.lemmas.FieldStarts.{field_at-start}
use Rattle.cwr_lines.proofs.lemmas.HeldLaws.{length-held_cell}
use Rattle.cwr_fields.proofs.lemmas.TypeWidths.{type_width-field}
use Rattle.cwr_shape.specs.declared.symbols.Symbol.{Symbol}
use Rattle.cwr_shape.specs.declared.tallies.Bar.{Bar}
use Rattle.cwr_shape.specs.Format.Ranges.{LimitValues}
use Rattle.cwr_shape.specs.Format.Outlines.{Continues}
use Rattle.cwr_shape.specs.Format.AnyTransmission.{Any}
use Rattle.cwr_shape.specs.Format.Numbers.{symbol_kind, IsNumberAt}
use Rattle.cwr_shape.specs.Format.NextSymbols.{MayCome, IsBarred}
use Rattle.cwr_shape.proofs.lemmas.WhatMayCome.{comes_any, comes_unbarred}
use Rattle.cwr_values.specs.Format.Values.{symbol_of, symbol_by}
use Rattle.cwr_judge.specs.Steps.Judged.{HasNumberAt, HasNumbers, Lacks, IsNext}

-- where some record of the kind may come, one number belongs in its field
pub one_number : (xs : List Symbol) (kind : Kind) (j : ℕ) (m n : Option ℕ) (s : Symbol) → symbol_kind s ≡ kind
    → Continues Any (xs ++ s ∷ []) → IsNumberAt xs kind j m → IsNumberAt xs kind j n → m ≡ n
one_number xs kind j m n s k (groups, h, any, (rest, e)) a b =
    let split = e ∙ append_assoc xs (s ∷ []) rest in
    a groups s rest h split k ∙ sym (b groups s rest h split k)

-- ---- the field and its cell, as the tables and the line give them

field_of : (kind : Kind) (j : ℕ) (place : Field) (f : FieldLayout) → Some (field_view place) ≡ field_with_start kind j
    → field_at kind j ≡ Some f → (field_view place).1 ≡ f
field_of kind j place f p e =
    let same : Some (field_view place).1 ≡ Some f =
    ap (option_map (λ (q : ℕ × FieldLayout). q.1)) p ∙ field_at-start kind j ∙ e in
    cc same

pub found_in_layout : (kind : Kind) (j : ℕ) (place : Field) → Some (field_view place) ≡ field_with_start kind j
    → field_at kind j ≡ Some (field_view place).1
found_in_layout kind j place p = sym (field_at-start kind j) ∙ ap (option_map (λ (q : ℕ × FieldLayout). q.1)) (sym p)

-- no field holds no number
pub no_field_no_number : (xs : List Symbol) (h : HeldLine) (kind : Kind) (j : ℕ) → field_with_start kind j ≡ None
    → HasNumberAt xs h kind j
no_field_no_number xs h kind j p f e d =
    let no : None ≡ Some f = ap (option_map (λ (q : ℕ × FieldLayout). q.1)) (sym p) ∙ field_at-start kind j ∙ e in
    absurd (cc no)

-- nor does a carried one
pub carried_field : (xs : List Symbol) (h : HeldLine) (kind : Kind) (j : ℕ) (place : Field)
    → Some (field_view place) ≡ field_with_start kind j → place.derived ≡ false → HasNumberAt xs h kind j
carried_field xs h kind j place p c f e d =
    absurd (true≢false (sym d ∙ sym (ap (λ (g : FieldLayout). g.derived) (field_of kind j place f p e)) ∙ c))

-- a derived field in which no number belongs, or of which the line has no cell
pub none_belongs : (xs : List Symbol) (h : HeldLine) (kind : Kind) (j : ℕ) (place : Field)
    → Some (field_view place) ≡ field_with_start kind j → place.derived ≡ true → IsNumberAt xs kind j None
    → Lacks xs kind (HasNumberAt xs h kind j)
none_belongs xs h kind j place p d n s k g has =
    let c = has (field_view place).1 (found_in_layout kind j place p) d in
    let no : None ≡ Some c.number = one_number xs kind j None (Some c.number) s k g n c.belongs in
    absurd (cc no)

pub no_cell_no_number : (xs : List Symbol) (h : HeldLine) (kind : Kind) (j : ℕ) (place : Field)
    → Some (field_view place) ≡ field_with_start kind j → place.derived ≡ true → None ≡ held_cell h j
    → Lacks xs kind (HasNumberAt xs h kind j)
no_cell_no_number xs h kind j place p d none s k g has =
    let c = has (field_view place).1 (found_in_layout kind j place p) d in
    let no : None ≡ Some (digits place.width c.number) = none ∙ c.spelled in
    absurd (cc no)

-- a derived field whose cell is the number, or isn't
pub number_cell : (xs : List Symbol) (h : HeldLine) (kind : Kind) (j number : ℕ) (place : Field) (cell : List ℕ)
    → held_kind h ≡ Some kind → Some (field_view place) ≡ field_with_start kind j
    → Some cell ≡ held_cell h j → IsNumberAt xs kind j (Some number) → cell ≡ digits (length cell) number
    → HasNumberAt xs h kind j
number_cell xs h kind j number place cell known p there n spelled f e d = record {
  number = number;
  belongs = n;
  spelled =
      sym there ∙ ap Some (spelled ∙ ap (λ (w : ℕ). digits w number) (length-held_cell h kind j f cell known e (sym there)));
}

pub other_cell : (xs : List Symbol) (h : HeldLine) (kind : Kind) (j number : ℕ) (place : Field) (cell : List ℕ)
    → held_kind h ≡ Some kind → Some (field_view place) ≡ field_with_start kind j
    → place.derived ≡ true → Some cell ≡ held_cell h j → IsNumberAt xs kind j (Some number)
    → ¬ (cell ≡ digits (length cell) number) → Lacks xs kind (HasNumberAt xs h kind j)
other_cell xs h kind j number place cell known p d there n other s k g has =
    let at = found_in_layout kind j place p in
    let c = has (field_view place).1 at d in
    let one : Some c.number ≡ Some number = one_number xs kind j (Some c.number) (Some number) s k g c.belongs n in
    let same : c.number ≡ number = cc one in
    let text : Some cell ≡ Some (digits place.width c.number) = there ∙ c.spelled in
    let equal : cell ≡ digits place.width c.number = cc text in
    other (equal ∙ ap₂ digits (sym (length-held_cell h kind j (field_view place).1 cell known at (sym there))) same)

-- the cell of a field of a type that has a width is so wide
pub wide_as_type : (h : HeldLine) (kind : Kind) (j : ℕ) (place : Field) (cell : List ℕ) → held_kind h ≡ Some kind
    → Some (field_view place) ≡ field_with_start kind j → Some cell ≡ held_cell h j
    → (w : ℕ) → type_width place.ty ≡ Some w → length cell ≡ w
wide_as_type h kind j place cell known p there w e =
    let at = found_in_layout kind j place p in
    length-held_cell h kind j (field_view place).1 cell known at (sym there) ∙ type_width-field kind j (field_view place).1 w at e

-- ---- all derived fields

none_in : (fields : List FieldLayout) (i : ℕ) (f : FieldLayout) → list_any (λ g. g.derived) fields ≡ false
    → slice_get fields i ≡ Some f → f.derived ≡ false
none_in [] i f h e = absurd (cc e)
none_in (g ∷ fields) zero f h e =
    let same : g ≡ f =
    cc e in ap (λ (x : FieldLayout). x.derived) (sym same) ∙ (or_parts g.derived (list_any (λ x. x.derived) fields) h).0
none_in (g ∷ fields) (suc i) f h e = none_in fields i f (or_parts g.derived (list_any (λ x. x.derived) fields) h).1 e

none_after : (fields : List FieldLayout) (i : ℕ) (f : FieldLayout) → list_any (λ g. g.derived) (drop 4 fields) ≡ false
    → slice_get fields (suc (suc (suc (suc i)))) ≡ Some f → f.derived ≡ false
none_after [] i f h e = absurd (cc e)
none_after (a ∷ []) i f h e = absurd (cc e)
none_after (a ∷ b ∷ []) i f h e = absurd (cc e)
none_after (a ∷ b ∷ c ∷ []) i f h e = absurd (cc e)
none_after (a ∷ b ∷ c ∷ d ∷ fields) i f h e = none_in fields i f h e

-- no field after the fourth is derived
four_first : (kind : Kind) → list_any (λ g. g.derived) (drop 4 (layout kind)) ≡ false
four_first kinds.Hdr = refl
four_first kinds.Grh = refl
four_first kind = refl

pub all_numbers : (xs : List Symbol) (h : HeldLine) (kind : Kind) → HasNumberAt xs h kind 2 → HasNumberAt xs h kind 3
    → HasNumberAt xs h kind 4 → HasNumbers xs h kind
all_numbers xs h kind two three four zero from = absurd (omega arith)
all_numbers xs h kind two three four (suc zero) from = absurd (omega arith)
all_numbers xs h kind two three four (suc (suc zero)) from = two
all_numbers xs h kind two three four (suc (suc (suc zero))) from = three
all_numbers xs h kind two three four (suc (suc (suc (suc zero)))) from = four
all_numbers xs h kind two three four (suc (suc (suc (suc (suc i))))) from =
    λ f e d. absurd (true≢false (sym d ∙ none_after (layout kind) i f (four_first kind) e))

-- ---- the sequences of a line inside a transaction

none_from_fourth : (fields : List FieldLayout) (i : ℕ) (f : FieldLayout) → list_any (λ g. g.derived) (drop 3 fields) ≡ false
    → slice_get fields (suc (suc (suc i))) ≡ Some f → f.derived ≡ false
none_from_fourth [] i f h e = absurd (cc e)
none_from_fourth (a ∷ []) i f h e = absurd (cc e)
none_from_fourth (a ∷ b ∷ []) i f h e = absurd (cc e)
none_from_fourth (a ∷ b ∷ c ∷ fields) i f h e = none_in fields i f h e

-- no field of such a line after them is derived
three_first : (kind : Kind) → is_in_transaction kind ≡ true → list_any (λ g. g.derived) (drop 3 (layout kind)) ≡ false
three_first kinds.Hdr h = refl
three_first kinds.Grh h = absurd (true≢false (sym h))
three_first kinds.Grt h = absurd (true≢false (sym h))
three_first kinds.Trl h = absurd (true≢false (sym h))
three_first kind h = refl

-- a cell of eight digits is its number
sequence_cell : (xs : List Symbol) (h : HeldLine) (kind : Kind) (j number : ℕ) (cell : List ℕ) → held_kind h ≡ Some kind
    → held_cell h j ≡ Some cell → IsNumberAt xs kind j (Some number)
    → cell ≡ digits (length cell) number → HasNumberAt xs h kind j
sequence_cell xs h kind j number cell known there n spelled f e d = record {
  number = number;
  belongs = n;
  spelled = there ∙ ap Some (spelled ∙ ap (λ (w : ℕ). digits w number) (length-held_cell h kind j f cell known e there));
}

pub both_sequences : (xs : List Symbol) (h : HeldLine) (kind : Kind) (m n : ℕ) (cells : List ℕ) → held_kind h ≡ Some kind
    → IsSomeAnd (held_kind h) (λ k. IsTrue (is_in_transaction k))
    → held_cell h 2 ≡ Some (take 8 cells) → held_cell h 3 ≡ Some (drop 8 cells) → length cells ≡ 16
    → IsNumberAt xs kind 2 (Some m) → IsNumberAt xs kind 3 (Some n)
    → (take 8 cells ≡ digits 8 m) × (drop 8 cells ≡ digits 8 n) → HasNumbers xs h kind
both_sequences xs h kind m n cells known inside second third wide a b p =
    let stands : is_in_transaction kind ≡ true =
    subst (λ (o : Option Kind). IsSomeAnd o (λ k. IsTrue (is_in_transaction k))) known inside in
    let front : length (take 8 cells) ≡ 8 = length-take-le 8 cells (omega (arith, wide)) in
    let back : length (drop 8 cells) ≡ 8 = omega (arith, length-drop 8 cells, wide) in
    all_numbers xs h kind
    (sequence_cell xs h kind 2 m (take 8 cells) known second a (p.0 ∙ ap (λ (w : ℕ). digits w m) (sym front)))
    (sequence_cell xs h kind 3 n (drop 8 cells) known third b (p.1 ∙ ap (λ (w : ℕ). digits w n) (sym back)))
    (λ f e d. absurd (true≢false (sym d ∙ none_from_fourth (layout kind) 0 f (three_first kind stands) e)))

-- ---- the record of a line

-- a line that carries a record is of its kind
pub known_of : (h : HeldLine) (r : RecordValue) → held_record h ≡ Some r → held_kind h ≡ Some r.kind
known_of h r e = by (held_kind h) refl
  where
    by : (o : Option Kind) → held_kind h ≡ o → o ≡ Some r.kind
    by None k =
        let no : None ≡ Some r = ap (λ (o : Option Kind). carried_by o (held_cells h)) (sym k) ∙ e in
        absurd (cc no)
    by (Some kind) k =
        let some : carried_by (Some kind) (held_cells h) ≡ Some r =
        ap (λ (o : Option Kind). carried_by o (held_cells h)) (sym k) ∙ e in
        ap (option_map (λ (x : RecordValue). x.kind)) some

pub symbol_kind-of : (r : RecordValue) → symbol_kind (symbol_of r) ≡ r.kind
symbol_kind-of r = by r.kind
  where
    by : (kind : Kind) → symbol_kind (symbol_by kind r) ≡ kind
    by kinds.Ipa = refl
    by kinds.Grh = refl
    by kind = refl

one_record : (h : HeldLine) (q r : RecordValue) → held_record h ≡ Some q → held_record h ≡ Some r → q ≡ r
one_record h q r a b = let same : Some q ≡ Some r = sym a ∙ b in cc same

-- a line whose numbers are wrong is that of no record that may come next
pub lacking : (limits : LimitValues) (xs : List Symbol) (h : HeldLine) (q r : RecordValue) (s : Symbol) → held_record h ≡ Some q
    → Lacks xs q.kind (HasNumbers xs h q.kind) → ¬ IsNext limits xs h s r
lacking limits xs h q r s e bad n =
    let same : q ≡ r = one_record h q r e n.carried in
    bad s (ap symbol_kind (sym n.symbol) ∙ symbol_kind-of r ∙ ap (λ (x : RecordValue). x.kind) (sym same))
    (comes_any limits xs s n.may_come) (subst (λ (x : RecordValue). HasNumbers xs h x.kind) (sym same) n.numbers)

-- what is barred may not come
pub barred_not : (limits : LimitValues) (xs : List Symbol) (s : Symbol) (bar : Bar) → IsBarred limits xs s bar
    → ¬ MayCome limits xs s
barred_not limits xs s bar b m = comes_unbarred limits xs s bar b m

-- nor is a line whose record is barred that of one that may
pub barred : (limits : LimitValues) (xs : List Symbol) (h : HeldLine) (q r : RecordValue) (s : Symbol) (bar : Bar)
    → held_record h ≡ Some q → IsBarred limits xs (symbol_of q) bar → ¬ IsNext limits xs h s r
barred limits xs h q r s bar e b n =
    let same : symbol_of q ≡ s = ap symbol_of (one_record h q r e n.carried) ∙ n.symbol in
    barred_not limits xs s bar (subst (λ (t : Symbol). IsBarred limits xs t bar) same b) n.may_come

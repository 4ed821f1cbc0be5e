-- The cell that a line has in a field is good, or has a fault, by what the judge knows of it.
use Rattle.std.proofs.Common.{◌≡◌, ◌≢◌, ℕ, zero, suc, ◌+◌, ◌≤◌, ◌<◌, Bool, true, false, cond, List, [], ◌∷◌, length, option_map}
use Rattle.std.proofs.Common.{refl, sym, ap, ap₂, subst, ◌∙◌, arith, true≢false, eqb}
use Rattle.std.specs.Prelude.{Option, Some, None, IsSomeAnd, find}
use Rattle.std.specs.List.{IsAmong}
use Rattle.std.specs.Str.{bytes_eq}
use Rattle.std.proofs.lemmas.Option.{slice_get-get_or}
use Rattle.std.proofs.lemmas.Bool.{eqb-true, eq-eqb}
use Rattle.std.proofs.lemmas.Slice.Eq.{bytes_eq-Decides}
use Rattle.cwr_fields.specs.declared.cell_types.CellType.{CellType}
use Rattle.cwr_fields.specs.declared.cell_types.CellType.TheVariants as types
use Rattle.cwr_fields.specs.declared.tables.Table.TheVariants as tables
use Rattle.cwr_fields.specs.declared.codes.Role.{Role}
use Rattle.cwr_fields.specs.declared.codes.Role.TheVariants.{Assignor, Acquirer}
use Rattle.cwr_fields.specs.declared.codes.TransactionType.{TransactionType}
use Rattle.cwr_fields.specs.declared.codes.TransactionType.TheVariants.{Agreement, NewWork, RevisedWork, Acknowledgement}
use Rattle.cwr_fields.specs.Format.Codes.{role_code, type_code}
use Rattle.cwr_fields.specs.Format.Cells.{Allows}
use Rattle.cwr_fields.proofs.lemmas.CellTests.{holds_test, holds_sound}
use Rattle.cwr_fields.specs.declared.kinds.Kind.{Kind}
use Rattle.cwr_fields.specs.declared.kinds.Kind.TheVariants as kinds
use Rattle.cwr_fields.specs.declared.layouts.Field.{Field}
use Rattle.cwr_fields.specs.Format.Layouts.{FieldLayout, layout, field_at, field_with_start}
use Rattle.cwr_fields.specs.Steps.Views.{field_view}
use Rattle.cwr_lines.specs.Steps.Held.{HeldLine, held_kind, held_cell}
use Rattle.cwr_fields.proofs.lemmas.FieldStarts.{field_at-start}
use Rattle.cwr_lines.proofs.lemmas.HeldLaws.{held_cell_there}
use Rattle.cwr_shape.specs.declared.symbols.Symbol.{Symbol}
use Rattle.cwr_shape.specs.declared.symbols.Symbol.TheVariants.{Ipa, Grh}
use Rattle.cwr_shape.specs.declared.reasons.Reason.{Reason}
use Rattle.cwr_shape.specs.declared.tallies.Bar.{Bar}
use Rattle.cwr_shape.specs.declared.tallies.Bar.TheVariants as bars
use Rattle.cwr_shape.specs.Format.Ranges.{LimitValues}
use Rattle.cwr_shape.specs.Format.Numbers.{symbol_kind, number_in, IsNumberAt}
use Rattle.cwr_shape.specs.Format.Candidates.{candidates, role_in, type_in}
use Rattle.cwr_shape.specs.Format.NextSymbols.{IsBarred, IsBarredAmong}
use Rattle.cwr_shape.proofs.lemmas.WhatMayCome.{comes_any}
use Rattle.cwr_judge.specs.Steps.Judged.{named_symbol, bar_reason, IsTextFault, IsGoodNextCell, IsFaultBy, IsGoodAt, HasReasonAt}
use Rattle.cwr_judge.specs.Steps.Judged.{MayComeOf, IsWrongAt, barred, IsFirstWrong, IsFirstBy, IsFirstFault}
use Rattle.cwr_judge.proofs.lemmas.NumberCells.{one_number, found_in_layout}
use Rattle.cwr_judge.proofs.lemmas.NextLines.{numbers_next, number_next, some_number}

-- ---- symbols

find_true : {X : Type 0} (p : X → Bool) (xs : List X) (x : X) → find p xs ≡ Some x → p x ≡ true
find_true p [] x e = absurd (cc e)
find_true p (y ∷ xs) x e = by (find_true p xs x) (p y) refl e
  where
    by : (find p xs ≡ Some x → p x ≡ true) → (b : Bool) → p y ≡ b → cond b (Some y) (find p xs) ≡ Some x → p x ≡ true
    by after_it true h f = let same : y ≡ x = cc f in ap p (sym same) ∙ h
    by after_it false h f = after_it f

held_type : (ty : TransactionType) → (length (type_code ty) ≡ 3) × Allows (types.Code tables.TransactionType) (type_code ty)
unfolding holds_test
held_type Agreement = (refl, holds_sound (types.Code tables.TransactionType) (type_code Agreement) refl)
held_type NewWork = (refl, holds_sound (types.Code tables.TransactionType) (type_code NewWork) refl)
held_type RevisedWork = (refl, holds_sound (types.Code tables.TransactionType) (type_code RevisedWork) refl)
held_type Acknowledgement = (refl, holds_sound (types.Code tables.TransactionType) (type_code Acknowledgement) refl)

held_role : (role : Role) → (length (role_code role) ≡ 2) × Allows (types.Code tables.Role) (role_code role)
unfolding holds_test
held_role Assignor = (refl, holds_sound (types.Code tables.Role) (role_code Assignor) refl)
held_role Acquirer = (refl, holds_sound (types.Code tables.Role) (role_code Acquirer) refl)

pub no_type : (kind : Kind) (j : ℕ) (cell : List ℕ) → kind ≡ kinds.Grh → j ≡ 2
    → ¬ ((length cell ≡ 3) × Allows (types.Code tables.TransactionType) cell) → None ≡ named_symbol kind j cell
no_type kind j cell k t other =
    sym (ap₂ (λ (i : Kind) (n : ℕ). named_symbol i n cell) k t ∙ ap (option_map Grh) (by (type_in cell) refl))
  where
    by : (o : Option TransactionType) → type_in cell ≡ o → type_in cell ≡ None
    by None e = e
    by (Some ty) e =
        let text : type_code ty ≡ cell =
        (bytes_eq-Decides (type_code ty) cell).0 (find_true (λ (u : TransactionType). bytes_eq (type_code u) cell)
        (Agreement ∷ NewWork ∷ RevisedWork ∷ Acknowledgement ∷ []) ty e) in
        absurd (other (subst (λ (x : List ℕ). (length x ≡ 3) × Allows (types.Code tables.TransactionType) x) text (held_type ty)))

pub no_role : (kind : Kind) (j : ℕ) (cell : List ℕ) → kind ≡ kinds.Ipa → j ≡ 4
    → ¬ ((length cell ≡ 2) × Allows (types.Code tables.Role) cell) → None ≡ named_symbol kind j cell
no_role kind j cell k t other =
    sym (ap₂ (λ (i : Kind) (n : ℕ). named_symbol i n cell) k t ∙ ap (option_map Ipa) (by (role_in cell) refl))
  where
    by : (o : Option Role) → role_in cell ≡ o → role_in cell ≡ None
    by None e = e
    by (Some role) e =
        let text : role_code role ≡ cell =
        (bytes_eq-Decides (role_code role) cell).0
        (find_true (λ (u : Role). bytes_eq (role_code u) cell) (Assignor ∷ Acquirer ∷ []) role e) in
        absurd (other (subst (λ (x : List ℕ). (length x ≡ 2) × Allows (types.Code tables.Role) x) text (held_role role)))

pub candidate_kind : (kind : Kind) (s : Symbol) → IsAmong (candidates (Some kind) []) s → symbol_kind s ≡ kind
candidate_kind kinds.Ipa s (zero, (h, e)) = ap symbol_kind e
candidate_kind kinds.Ipa s (suc zero, (h, e)) = ap symbol_kind e
candidate_kind kinds.Ipa s (suc (suc i), (h, e)) = absurd (omega arith)
candidate_kind kinds.Grh s (zero, (h, e)) = ap symbol_kind e
candidate_kind kinds.Grh s (suc zero, (h, e)) = ap symbol_kind e
candidate_kind kinds.Grh s (suc (suc zero), (h, e)) = ap symbol_kind e
candidate_kind kinds.Grh s (suc (suc (suc zero)), (h, e)) = ap symbol_kind e
candidate_kind kinds.Grh s (suc (suc (suc (suc i))), (h, e)) = absurd (omega arith)
candidate_kind kind s (zero, (h, e)) = ap symbol_kind e
candidate_kind kind s (suc i, (h, e)) = absurd (omega arith)

-- a carried cell whose symbol is barred
pub text_barred : (limits : LimitValues) (xs : List Symbol) (kind : Kind) (j : ℕ) (ty : CellType) (cell : List ℕ) (s : Symbol)
    (bar : Bar) (reason : Reason) → Allows ty cell
    → Some s ≡ named_symbol kind j cell → IsBarred limits xs s bar → reason ≡ bar_reason bar
    → IsTextFault limits xs kind j ty cell reason
text_barred limits xs kind j ty cell s bar reason holds named b e =
    subst (IsTextFault limits xs kind j ty cell) (sym e) (by bar b)
  where
    by : (x : Bar) → IsBarred limits xs s x → IsTextFault limits xs kind j ty cell (bar_reason x)
    by bars.Misplaced q = (holds, subst (λ (o : Option Symbol). IsSomeAnd o (λ t. IsBarred limits xs t bars.Misplaced)) named q)
    by (bars.Limit limit) q =
        (holds, subst (λ (o : Option Symbol). IsSomeAnd o (λ t. IsBarred limits xs t (bars.Limit limit))) named q)

-- ---- fields

-- each field in the layout is found, and so is its cell
pub no_field : (kind : Kind) (j : ℕ) → 2 ≤ j → j ≤ length (layout kind) → field_with_start kind j ≡ None → ⊥
no_field kind zero from to e = omega arith
no_field kind (suc i) from to e =
    let d : FieldLayout = record { name = []; width = 0; ty = types.Text; derived = false } in
    let no =
    sym (sym (field_at-start kind (suc i)) ∙ ap (option_map (λ (p : ℕ × FieldLayout). p.1)) e)
    ∙ slice_get-get_or (layout kind) i d (omega arith) in
    cc no

pub no_cell : (h : HeldLine) (kind : Kind) (j : ℕ) (place : Field) → held_kind h ≡ Some kind
    → Some (field_view place) ≡ field_with_start kind j → held_cell h j ≡ None → ⊥
no_cell h kind j place known p none =
    let c = held_cell_there h kind j (field_view place) known (sym p) in
    let no : None ≡ Some c.cell = sym none ∙ c.found in
    cc no

-- what is known of the cell in a field
at_field : (h : HeldLine) (kind : Kind) (j : ℕ) (place : Field) (cell : List ℕ) (P : FieldLayout → List ℕ → Type 0)
    → Some (field_view place) ≡ field_with_start kind j → Some cell ≡ held_cell h j
    → P (field_view place).1 cell → IsSomeAnd (field_at kind j) (λ f. IsSomeAnd (held_cell h j) (P f))
at_field h kind j place cell P p there q =
    subst (λ (o : Option FieldLayout). IsSomeAnd o (λ f. IsSomeAnd (held_cell h j) (P f))) (sym (found_in_layout kind j place p))
    (subst (λ (o : Option (List ℕ)). IsSomeAnd o (P (field_view place).1)) there q)

pub good_at : (limits : LimitValues) (xs : List Symbol) (h : HeldLine) (kind : Kind) (j : ℕ) (place : Field) (cell : List ℕ)
    (b : Bool) → Some (field_view place) ≡ field_with_start kind j → Some cell ≡ held_cell h j
    → place.derived ≡ b → IsGoodNextCell b limits xs kind j (field_view place).1 cell → IsGoodAt limits xs h kind j
good_at limits xs h kind j place cell b p there d g =
    at_field h kind j place cell (λ f. IsGoodNextCell f.derived limits xs kind j f) p there
    (subst (λ (x : Bool). IsGoodNextCell x limits xs kind j (field_view place).1 cell) (sym d) g)

pub fault_at : (limits : LimitValues) (xs : List Symbol) (h : HeldLine) (kind : Kind) (j : ℕ) (place : Field) (cell : List ℕ)
    (b : Bool) (reason : Reason) → Some (field_view place) ≡ field_with_start kind j
    → Some cell ≡ held_cell h j → place.derived ≡ b → IsFaultBy b limits xs kind j (field_view place).1 cell reason
    → HasReasonAt limits xs h kind j reason
fault_at limits xs h kind j place cell b reason p there d g =
    at_field h kind j place cell (λ f c. IsFaultBy f.derived limits xs kind j f c reason) p there
    (subst (λ (x : Bool). IsFaultBy x limits xs kind j (field_view place).1 cell reason) (sym d) g)

-- where one of the kind may come, a number belongs in each derived field
pub no_number : (limits : LimitValues) (xs : List Symbol) (kind : Kind) (j : ℕ) (place : Field) → 2 ≤ j
    → Some (field_view place) ≡ field_with_start kind j → place.derived ≡ true → MayComeOf limits xs kind
    → IsNumberAt xs kind j None → ⊥
no_number limits xs kind j place from p d (s, among, may) none =
    let some = some_number xs kind j (field_view place).1 from (found_in_layout kind j place p) d in
    let no : None ≡ Some some.0 =
    one_number xs kind j None (number_in kind j (numbers_next xs kind)) s (candidate_kind kind s among)
    (comes_any limits xs s may) none (number_next xs kind j) ∙ some.1 in
    cc no

-- ---- the first fault

pub first_of : (limits : LimitValues) (xs : List Symbol) (h : HeldLine) (kind : Kind) (field : ℕ) (reason : Reason)
    → held_kind h ≡ Some kind → IsFirstWrong limits xs h kind field reason
    → IsFirstFault limits xs h field reason
first_of limits xs h kind field reason known w = subst (λ (o : Option Kind). IsFirstBy o limits xs h field reason) (sym known) w

pub first_barred : (limits : LimitValues) (xs : List Symbol) (h : HeldLine) (kind : Kind) (bar : Bar) (reason : Reason)
    → held_kind h ≡ Some kind → IsBarredAmong limits xs (candidates (Some kind) []) bar
    → reason ≡ bar_reason bar → IsFirstFault limits xs h 1 reason
first_barred limits xs h kind bar reason known b e =
    first_of limits xs h kind 1 reason known (record {
      here =
          subst (λ (x : Reason). IsWrongAt limits xs h kind 1 x) (sym e) (barred bar b);
      before =
          λ i from to. absurd (omega arith);
    })

-- what holds from 2 on below a number, and at it, holds below the next
pub one_more : (P : ℕ → Type 0) (j : ℕ) → ((i : ℕ) → 2 ≤ i → i < j → P i) → P j → (i : ℕ) → 2 ≤ i → i < j + 1 → P i
one_more P j below here i from to = by (eqb i j) refl
  where
    by : (b : Bool) → eqb i j ≡ b → P i
    by true e = subst P (sym (eqb-true i j e)) here
    by false e = below i from (let other : i ≢ j = λ same. true≢false (sym (eq-eqb i j same) ∙ e) in omega arith)

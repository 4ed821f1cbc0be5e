-- A line of which each cell is good, and the excess too, is that of a record that may come next.
use Rattle.std.proofs.Common.{◌≡◌, ℕ, zero, suc, ◌+◌, ◌≤◌, ◌<◌, Bool, true, false, not, cond, List, [], ◌∷◌, length, map, filter}
use Rattle.std.proofs.Common.{slice_get, refl, sym, ap, subst, ◌∙◌, arith, true≢false}
use Rattle.std.specs.Prelude.{Option, Some, None, IfSome, IsSomeAnd, option_map, unwrap_or}
use Rattle.std.specs.List.{AllZip, zip}
use Rattle.cwr_fields.specs.Format.Bytes.{digits, filled}
use Rattle.cwr_fields.specs.declared.cell_types.CellType.TheVariants as types
use Rattle.cwr_fields.specs.declared.tables.Table.TheVariants as tables
use Rattle.cwr_fields.specs.declared.codes.Role.{Role}
use Rattle.cwr_fields.specs.declared.codes.Role.TheVariants.{Assignor, Acquirer}
use Rattle.cwr_fields.specs.declared.codes.TransactionType.{TransactionType}
use Rattle.cwr_fields.specs.declared.codes.TransactionType.TheVariants.{Agreement, NewWork, RevisedWork, Acknowledgement}
use Rattle.cwr_fields.specs.Format.Cells.{Allows}
use Rattle.cwr_fields.specs.declared.kinds.Kind.{Kind}
use Rattle.cwr_fields.specs.declared.kinds.Kind.TheVariants as kinds
use Rattle.cwr_fields.specs.Format.Layouts.{FieldLayout, layout, field_at, record_type}
use Rattle.cwr_lines.specs.Format.Records.{RecordValue, IsCellOf, IsRecord}
use Rattle.cwr_lines.specs.Steps.Held.{HeldLine, held_kind, held_cell, held_cells, held_excess, carried_by}
use Rattle.cwr_lines.proofs.lemmas.CarriedCells.{carried_in-at}
use Rattle.cwr_lines.proofs.lemmas.HeldLaws.{held_cell-at, length-held_cell, length-held_cells}
use Rattle.cwr_lines.proofs.lemmas.GoodLinesAreRows.{carried_in}
use Rattle.cwr_shape.specs.declared.symbols.Symbol.{Symbol}
use Rattle.cwr_shape.specs.declared.symbols.Symbol.TheVariants.{Ipa, Grh}
use Rattle.cwr_shape.specs.Format.Ranges.{LimitValues}
use Rattle.cwr_shape.specs.Format.Candidates.{role_in, type_in}
use Rattle.cwr_shape.specs.Format.NextSymbols.{MayCome}
use Rattle.cwr_values.specs.Format.Values.{symbol_of, symbol_by}
use Rattle.cwr_judge.specs.Steps.Judged.{IsNext, IsOfNone, IsGoodNextCell, IsGoodAt, IsNumberCell, HasNumbers, MayComeOf}
use Rattle.cwr_judge.specs.Steps.Judged.{named_symbol}

-- ---- the carried cells

cells_by : (b : Bool) (f : FieldLayout) (fields : List FieldLayout) (c : List ℕ) (rest : List (FieldLayout × List ℕ))
    → (b ≡ false → IsCellOf f c)
    → AllZip IsCellOf (filter (λ g. not g.derived) fields) (map (λ p. p.1) rest)
    → AllZip IsCellOf (cond (not b) (f ∷ filter (λ g. not g.derived) fields) (filter (λ g. not g.derived) fields))
    (map (λ p. p.1) (cond (not b) ((f, c) ∷ rest) rest))
cells_by true f fields c rest here h = h
cells_by false f fields c rest here h = (here refl, h)

all_cells : (fields : List FieldLayout) (cells : List (List ℕ)) → length cells ≡ length fields
    → ((k : ℕ) (f : FieldLayout) (c : List ℕ) → slice_get fields k ≡ Some f → slice_get cells k ≡ Some c → f.derived ≡ false
    → IsCellOf f c)
    → AllZip IsCellOf (filter (λ g. not g.derived) fields) (carried_in fields cells)
all_cells [] [] l each = tt
all_cells [] (c ∷ cells) l each = absurd (omega (arith, l))
all_cells (f ∷ fields) [] l each = absurd (omega (arith, l))
all_cells (f ∷ fields) (c ∷ cells) l each =
    cells_by f.derived f fields c (filter (λ p. not p.0.derived) (zip fields cells)) (λ d. each 0 f c refl refl d)
    (all_cells fields cells (omega (arith, l)) (λ k g t e q d. each (suc k) g t e q d))

pub place_in_list : {X : Type 0} (xs : List X) (i : ℕ) (x : X) → slice_get xs i ≡ Some x → i < length xs
place_in_list [] i x e = absurd (cc e)
place_in_list (y ∷ xs) zero x e = omega arith
place_in_list (y ∷ xs) (suc i) x e = let h : i < length xs = place_in_list xs i x e in omega (arith, h)

-- each cell after the record type is good
abbrev pub AllGood : LimitValues → List Symbol → HeldLine → Kind → Type 0
AllGood limits xs h kind = (i : ℕ) → 2 ≤ i → i < length (layout kind) + 1 → IsGoodAt limits xs h kind i

-- the record that the line's cells carry
abbrev carried_record : HeldLine → Kind → RecordValue
carried_record h kind = record { kind = kind; cells = carried_in (layout kind) (held_cells h) }

pub good_here : (limits : LimitValues) (xs : List Symbol) (h : HeldLine) (kind : Kind) (i : ℕ) (f : FieldLayout) (c : List ℕ)
    → slice_get (layout kind) i ≡ Some f → held_cell h (suc i) ≡ Some c
    → IsGoodAt limits xs h kind (suc i) → IsGoodNextCell f.derived limits xs kind (suc i) f c
good_here limits xs h kind i f c e q g =
    subst (λ (o : Option (List ℕ)). IsSomeAnd o (IsGoodNextCell f.derived limits xs kind (suc i) f)) q
    (subst (λ (o : Option FieldLayout). IsSomeAnd o
    (λ l. IsSomeAnd (held_cell h (suc i)) (IsGoodNextCell l.derived limits xs kind (suc i) l))) e g)

carried_cell : (limits : LimitValues) (xs : List Symbol) (h : HeldLine) (kind : Kind) → held_kind h ≡ Some kind
    → AllGood limits xs h kind
    → (k : ℕ) (f : FieldLayout) (c : List ℕ) → slice_get (layout kind) k ≡ Some f → slice_get (held_cells h) k ≡ Some c
    → f.derived ≡ false → IsCellOf f c
carried_cell limits xs h kind known good zero f c e q d =
    let same : Some record_type ≡ Some f = e in
    let first : record_type ≡ f = cc same in
    absurd (true≢false (ap (λ (l : FieldLayout). l.derived) first ∙ d))
carried_cell limits xs h kind known good (suc k) f c e q d =
    let there : held_cell h (suc (suc k)) ≡ Some c = held_cell-at h kind (suc k) known ∙ q in
    let inside : suc k < length (layout kind) = place_in_list (layout kind) (suc k) f e in
    let g = good_here limits xs h kind (suc k) f c e there (good (suc (suc k)) (omega arith) (omega (arith, inside))) in (
      length-held_cell h kind (suc (suc k)) f c known e there,
      (subst (λ (b : Bool). IsGoodNextCell b limits xs kind (suc (suc k)) f c) d g).0,
    )

in_order : (limits : LimitValues) (xs : List Symbol) (h : HeldLine) (kind : Kind) → held_kind h ≡ Some kind
    → AllGood limits xs h kind → IsRecord (carried_record h kind)
in_order limits xs h kind known good =
    all_cells (layout kind) (held_cells h) (length-held_cells h kind known) (carried_cell limits xs h kind known good)

-- ---- the numbers

number_in : (limits : LimitValues) (xs : List Symbol) (h : HeldLine) (kind : Kind) (j : ℕ) (f : FieldLayout) (o : Option (List ℕ))
    → held_kind h ≡ Some kind → field_at kind j ≡ Some f → held_cell h j ≡ o
    → IsSomeAnd o (IsGoodNextCell true limits xs kind j f) → IsNumberCell xs kind j f.width (held_cell h j)
number_in limits xs h kind j f None known e q g = absurd g
number_in limits xs h kind j f (Some c) known e q g = record {
  number = g.0;
  belongs = g.1;
  spelled = q ∙ ap Some (g.2 ∙ ap (λ (w : ℕ). digits w g.0) (length-held_cell h kind j f c known e q));
}

numbers : (limits : LimitValues) (xs : List Symbol) (h : HeldLine) (kind : Kind) → held_kind h ≡ Some kind
    → AllGood limits xs h kind → HasNumbers xs h kind
numbers limits xs h kind known good zero from = absurd (omega (arith, from))
numbers limits xs h kind known good (suc i) from = λ f e d.
    let inside : i < length (layout kind) = place_in_list (layout kind) i f e in
    let g =
    subst (λ (o : Option FieldLayout). IsSomeAnd o
    (λ l. IsSomeAnd (held_cell h (suc i)) (IsGoodNextCell l.derived limits xs kind (suc i) l))) e (good (suc i) from
    (omega (arith, inside))) in
    number_in limits xs h kind (suc i) f (held_cell h (suc i)) known e refl
    (subst (λ (b : Bool). IsSomeAnd (held_cell h (suc i)) (IsGoodNextCell b limits xs kind (suc i) f)) d g)

-- ---- the symbol

role_held : (c : List ℕ) → Allows (types.Code tables.Role) c → (role : Role) × (role_in c ≡ Some role)
role_held c (code, (zero, (h, e)), f) = (Assignor, ap role_in (f ∙ ap (filled 2) e))
role_held c (code, (suc zero, (h, e)), f) = (Acquirer, ap role_in (f ∙ ap (filled 2) e))
role_held c (code, (suc (suc i), (h, e)), f) = absurd (omega (arith, h))

type_held : (c : List ℕ) → Allows (types.Code tables.TransactionType) c → (ty : TransactionType) × (type_in c ≡ Some ty)
type_held c (code, (zero, (h, e)), f) = (Agreement, ap type_in (f ∙ ap (filled 3) e))
type_held c (code, (suc zero, (h, e)), f) = (NewWork, ap type_in (f ∙ ap (filled 3) e))
type_held c (code, (suc (suc zero), (h, e)), f) = (RevisedWork, ap type_in (f ∙ ap (filled 3) e))
type_held c (code, (suc (suc (suc zero)), (h, e)), f) = (Acknowledgement, ap type_in (f ∙ ap (filled 3) e))
type_held c (code, (suc (suc (suc (suc i))), (h, e)), f) = absurd (omega (arith, h))

party_comes : (limits : LimitValues) (xs : List Symbol) (o : Option (List ℕ))
    → IsSomeAnd o (λ c. Allows (types.Code tables.Role) c × IfSome (named_symbol kinds.Ipa 4 c) (MayCome limits xs))
    → MayCome limits xs (Ipa (unwrap_or (role_in (unwrap_or o [])) Assignor))
party_comes limits xs None g = absurd g
party_comes limits xs (Some c) g =
    let r = role_held c g.0 in
    subst (λ (q : Option Role). MayCome limits xs (Ipa (unwrap_or q Assignor))) (sym r.1)
    (subst (λ (q : Option Role). IfSome (option_map Ipa q) (MayCome limits xs)) r.1 g.1)

group_comes : (limits : LimitValues) (xs : List Symbol) (o : Option (List ℕ))
    → IsSomeAnd o (λ c. Allows (types.Code tables.TransactionType) c × IfSome (named_symbol kinds.Grh 2 c) (MayCome limits xs))
    → MayCome limits xs (Grh (unwrap_or (type_in (unwrap_or o [])) Acknowledgement))
group_comes limits xs None g = absurd g
group_comes limits xs (Some c) g =
    let r = type_held c g.0 in
    subst (λ (q : Option TransactionType). MayCome limits xs (Grh (unwrap_or q Acknowledgement))) (sym r.1)
    (subst (λ (q : Option TransactionType). IfSome (option_map Grh q) (MayCome limits xs)) r.1 g.1)

comes : (limits : LimitValues) (xs : List Symbol) (h : HeldLine) (kind : Kind) → held_kind h ≡ Some kind
    → MayComeOf limits xs kind → AllGood limits xs h kind → MayCome limits xs (symbol_by kind (carried_record h kind))
comes limits xs h kinds.Ipa known may good =
    subst (λ (o : Option (List ℕ)). MayCome limits xs (Ipa (unwrap_or (role_in (unwrap_or o [])) Assignor)))
    (held_cell-at h kinds.Ipa 3 known ∙ sym (carried_in-at (layout kinds.Ipa) (held_cells h) 3 _ refl refl))
    (party_comes limits xs (held_cell h 4) (good 4 (omega arith)
    (let inside : 3 < length (layout kinds.Ipa) = place_in_list (layout kinds.Ipa) 3 _ refl in omega (arith, inside))))
comes limits xs h kinds.Grh known may good =
    subst (λ (o : Option (List ℕ)). MayCome limits xs (Grh (unwrap_or (type_in (unwrap_or o [])) Acknowledgement)))
    (held_cell-at h kinds.Grh 1 known ∙ sym (carried_in-at (layout kinds.Grh) (held_cells h) 1 _ refl refl))
    (group_comes limits xs (held_cell h 2) (good 2 (omega arith)
    (let inside : 1 < length (layout kinds.Grh) = place_in_list (layout kinds.Grh) 1 _ refl in omega (arith, inside))))
comes limits xs h kind known (s, (zero, (k, e)), m) good = subst (MayCome limits xs) e m
comes limits xs h kind known (s, (suc i, (k, e)), m) good = absurd (omega (arith, k))

-- ---- the line

is_next : (limits : LimitValues) (xs : List Symbol) (h : HeldLine) (kind : Kind) → held_kind h ≡ Some kind
    → MayComeOf limits xs kind → AllGood limits xs h kind → held_excess h ≡ false
    → IsNext limits xs h (symbol_of (carried_record h kind)) (carried_record h kind)
is_next limits xs h kind known may good excess = record {
  carried = ap (λ (o : Option Kind). carried_by o (held_cells h)) known;
  in_order = in_order limits xs h kind known good;
  symbol = refl;
  may_come = comes limits xs h kind known may good;
  numbers = numbers limits xs h kind known good;
  excess = excess;
}

-- so where none may, though each cell is good, the excess is bad
pub excess_left : (limits : LimitValues) (xs : List Symbol) (h : HeldLine) (kind : Kind) → held_kind h ≡ Some kind
    → MayComeOf limits xs kind → AllGood limits xs h kind → IsOfNone limits xs h → held_excess h ≡ true
excess_left limits xs h kind known may good none = by (held_excess h) refl
  where
    by : (b : Bool) → held_excess h ≡ b → held_excess h ≡ true
    by true e = e
    by false e =
        absurd (none (symbol_of (carried_record h kind)) (carried_record h kind) (is_next limits xs h kind known may good e))

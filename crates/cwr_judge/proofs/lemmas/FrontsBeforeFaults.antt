-- Before the first field that is wrong some transmission within the limits continues from the line.
use Rattle.std.proofs.Common.{◌≡◌, ℕ, zero, suc, ◌+◌, ◌<◌, ◌≤◌, Bool, true, false, List, [], ◌∷◌, length, take, drop, option_map}
use Rattle.std.proofs.Common.{refl, sym, ap, subst, ◌∙◌, arith, ltb-true, ltb-false}
use Rattle.std.specs.Prelude.{Option, Some, None, IfSome, IsSomeAnd, slice_get, slice_index, nat_lt, option_and_then}
use Rattle.std.specs.List.{IsAmong}
use Rattle.cwr_fields.specs.declared.cell_types.CellType.TheVariants as types
use Rattle.cwr_fields.specs.declared.tables.Table.TheVariants as tables
use Rattle.cwr_fields.specs.declared.codes.Role.{Role}
use Rattle.cwr_fields.specs.declared.codes.TransactionType.{TransactionType}
use Rattle.cwr_fields.specs.Format.Bytes.{digits}
use Rattle.cwr_fields.specs.Format.Cells.{Allows}
use Rattle.cwr_fields.specs.declared.kinds.Kind.{Kind}
use Rattle.cwr_fields.specs.declared.kinds.Kind.TheVariants as kinds
use Rattle.cwr_fields.specs.Format.Layouts.{FieldLayout, layout, fields_after_type}
use Rattle.cwr_lines.specs.Format.Records.{IsGoodCell, rest_if}
use Rattle.cwr_lines.specs.Format.GoodCells.{AreGood}
use Rattle.cwr_lines.specs.Steps.Held.{HeldLine, IsCutAs, held_kind, held_cell, held_cells}
use Rattle.cwr_lines.proofs.lemmas.HeldLaws.{held_cell-at, length-held_cell, length-held_cells}
use Rattle.cwr_shape.specs.declared.symbols.Symbol.{Symbol}
use Rattle.cwr_shape.specs.declared.symbols.Symbol.TheVariants.{Ipa, Grh}
use Rattle.cwr_shape.specs.declared.reasons.Reason.{Reason}
use Rattle.cwr_shape.specs.Format.Ranges.{LimitValues}
use Rattle.cwr_shape.specs.Format.Candidates.{candidates, role_in, type_in, parties_of, groups_of}
use Rattle.cwr_shape.specs.Format.NextSymbols.{open_type, counts_of, MayCome}
use Rattle.cwr_shape.proofs.lemmas.WhatMayCome.{comes_any}
use Rattle.cwr_values.specs.Format.Begins.{numbers_after}
use Rattle.cwr_judge.specs.Format.GoodFronts.{HasGoodFront}
use Rattle.cwr_judge.specs.Steps.Judged as judged
use Rattle.cwr_judge.specs.Steps.Judged.{IsGoodAt, MayComeOf, IsWrongAt, IsFirstWrong, named_symbol, barred, cell, past_last}
use Rattle.std.proofs.lemmas.List.{length-drop}
use Rattle.cwr_judge.proofs.lemmas.FirstFaults.{candidate_kind}
use Rattle.cwr_judge.proofs.lemmas.GoodLines.{good_here}
use Rattle.cwr_judge.proofs.lemmas.FrontCells.{among_itself}
use Rattle.cwr_judge.proofs.lemmas.NextLines.{agree_by, Agree, number_by_field, numbers_agree, number_next, cell_after}
use Rattle.cwr_judge.proofs.lemmas.NumberCells.{one_number}
use Rattle.cwr_judge.proofs.lemmas.MixedCells.{taken_at, taken_none}
use Rattle.cwr_judge.proofs.lemmas.GoodFrontsContinue.{role_held, type_held}

-- ---- the cells

-- a cell is the number of its field, or one of its type
abbrev pub GoodIn : Bool → FieldLayout → Option ℕ → List ℕ → Type 0
GoodIn true f number c = (n : ℕ) × (number ≡ Some n) × (c ≡ digits f.width n)
GoodIn false f number c = Allows f.ty c

good_one : (b : Bool) (f : FieldLayout) (number : Option ℕ) (n : ℕ) (c : List ℕ) → agree_by b number n → GoodIn b f number c
    → IsGoodCell b f n c
good_one true f number n c a g =
    let there : Some g.0 ≡ Some n = sym g.1 ∙ a in
    let same : g.0 ≡ n = cc there in
    g.2 ∙ ap (digits f.width) same
good_one false f number n c a g = g

all_in : (m : ℕ) (fields : List FieldLayout) (ns : List ℕ) (number : ℕ → Option ℕ) (cells : List (List ℕ))
    → length cells ≡ length fields → Agree fields ns number
    → ((k : ℕ) (f : FieldLayout) (c : List ℕ) → k < m → slice_get fields k ≡ Some f → slice_get cells k ≡ Some c
    → GoodIn f.derived f (number k) c) → AreGood (take m fields) ns (take m cells)
all_in zero fields ns number cells l a each = tt
all_in (suc m) [] ns number cells l a each = tt
all_in (suc m) (f ∷ fields) ns number [] l a each = absurd (omega (arith, l))
all_in (suc m) (f ∷ fields) ns number (c ∷ cells) l a each = (
  good_one f.derived f (number 0) (slice_index ns 0) c a.0 (each 0 f c (omega arith) refl refl),
  all_in m fields (rest_if f.derived ns) (λ k. number (suc k)) cells (omega (arith, l)) a.1
      (λ k g d h e q. each (suc k) g d (omega (arith, h)) e q),
)

-- each cell before a field is good
abbrev pub GoodBelow : LimitValues → List Symbol → HeldLine → Kind → ℕ → Type 0
GoodBelow limits xs h kind field = (i : ℕ) → 2 ≤ i → i < field → IsGoodAt limits xs h kind i

cell_in : (b : Bool) (limits : LimitValues) (xs : List Symbol) (kind : Kind) (k : ℕ) (f : FieldLayout) (c : List ℕ)
    (m : MayComeOf limits xs kind) → length c ≡ f.width
    → judged.IsGoodNextCell b limits xs kind (suc (suc k)) f c → GoodIn b f (number_by_field kind (numbers_after xs kind) k) c
cell_in true limits xs kind k f c (s, among, may) wide g = (
  g.0,
  one_number xs kind (suc (suc k)) (number_by_field kind (numbers_after xs kind) k) (Some g.0) s (candidate_kind kind s among)
      (comes_any limits xs s may) (number_next xs kind (suc (suc k))) g.1,
  g.2 ∙ ap (λ (w : ℕ). digits w g.0) wide,
)
cell_in false limits xs kind k f c m wide g = g.0

cells_below : (limits : LimitValues) (xs : List Symbol) (h : HeldLine) (kind : Kind) (m : ℕ) → held_kind h ≡ Some kind
    → MayComeOf limits xs kind → GoodBelow limits xs h kind (suc (suc m))
    → AreGood (take m (fields_after_type kind)) (numbers_after xs kind) (take m (drop 1 (held_cells h)))
cells_below limits xs h kind m known may good =
    all_in m (fields_after_type kind) (numbers_after xs kind) (number_by_field kind (numbers_after xs kind))
    (drop 1 (held_cells h))
    (omega (arith, length-held_cells h kind known, length-drop 1 (held_cells h)))
    (numbers_agree (open_type xs) (counts_of xs) kind) each
  where
    each : (k : ℕ) (f : FieldLayout) (c : List ℕ) → k < m → slice_get (fields_after_type kind) k ≡ Some f
        → slice_get (drop 1 (held_cells h)) k ≡ Some c → GoodIn f.derived f (number_by_field kind (numbers_after xs kind) k) c
    each k f c inside e q =
        let there : held_cell h (suc (suc k)) ≡ Some c = cell_after h kind k known ∙ q in
        cell_in f.derived limits xs kind k f c may (length-held_cell h kind (suc (suc k)) f c known e there)
        (good_here limits xs h kind (suc k) f c e there (good (suc (suc k)) (omega arith) (omega (arith, inside))))

-- ---- the symbol

-- a symbol among those that the first cells name may come
pub record HasComing (limits : LimitValues) (xs set : List Symbol) : Type 0 where
  pub symbol : Symbol
  pub among : IsAmong set symbol
  pub may_come : MayCome limits xs symbol

party_comes : (limits : LimitValues) (xs : List Symbol) (o : Option (List ℕ))
    → IsSomeAnd o (λ c. Allows (types.Code tables.Role) c × IfSome (named_symbol kinds.Ipa 4 c) (MayCome limits xs))
    → HasComing limits xs (parties_of (option_and_then role_in o))
party_comes limits xs None g = absurd g
party_comes limits xs (Some c) g =
    let r = role_held c g.0 in
    record {
      symbol = Ipa r.0;
      among = subst (λ (q : Option Role). IsAmong (parties_of q) (Ipa r.0)) (sym r.1) (among_itself (Ipa r.0));
      may_come = subst (λ (q : Option Role). IfSome (option_map Ipa q) (MayCome limits xs)) r.1 g.1;
    }

group_comes : (limits : LimitValues) (xs : List Symbol) (o : Option (List ℕ))
    → IsSomeAnd o (λ c. Allows (types.Code tables.TransactionType) c × IfSome (named_symbol kinds.Grh 2 c) (MayCome limits xs))
    → HasComing limits xs (groups_of (option_and_then type_in o))
group_comes limits xs None g = absurd g
group_comes limits xs (Some c) g =
    let r = type_held c g.0 in
    record {
      symbol = Grh r.0;
      among = subst (λ (q : Option TransactionType). IsAmong (groups_of q) (Grh r.0)) (sym r.1) (among_itself (Grh r.0));
      may_come = subst (λ (q : Option TransactionType). IfSome (option_map Grh q) (MayCome limits xs)) r.1 g.1;
    }

pub symbol_below : (limits : LimitValues) (xs : List Symbol) (h : HeldLine) (kind : Kind) (m : ℕ) → held_kind h ≡ Some kind
    → MayComeOf limits xs kind → GoodBelow limits xs h kind (suc (suc m))
    → HasComing limits xs (candidates (Some kind) (take (suc m) (held_cells h)))
symbol_below limits xs h kinds.Ipa m known may good = by (nat_lt 3 (suc m)) refl
  where
    by : (b : Bool) → nat_lt 3 (suc m) ≡ b
        → HasComing limits xs (parties_of (option_and_then role_in (slice_get (take (suc m) (held_cells h)) 3)))
    by true e =
        let inside : 3 < suc m = ltb-true 3 (suc m) e in
        subst (λ (o : Option (List ℕ)). HasComing limits xs (parties_of (option_and_then role_in o)))
        (held_cell-at h kinds.Ipa 3 known ∙ sym (taken_at (suc m) 3 (held_cells h) inside))
        (party_comes limits xs (held_cell h 4) (good 4 (omega arith) (omega (arith, inside))))
    by false e =
        subst (λ (o : Option (List ℕ)). HasComing limits xs (parties_of (option_and_then role_in o)))
        (sym (taken_none (suc m) 3 (held_cells h) (ltb-false 3 (suc m) e)))
        (record { symbol = may.0; among = may.1; may_come = may.2 })
symbol_below limits xs h kinds.Grh m known may good = by (nat_lt 1 (suc m)) refl
  where
    by : (b : Bool) → nat_lt 1 (suc m) ≡ b
        → HasComing limits xs (groups_of (option_and_then type_in (slice_get (take (suc m) (held_cells h)) 1)))
    by true e =
        let inside : 1 < suc m = ltb-true 1 (suc m) e in
        subst (λ (o : Option (List ℕ)). HasComing limits xs (groups_of (option_and_then type_in o)))
        (held_cell-at h kinds.Grh 1 known ∙ sym (taken_at (suc m) 1 (held_cells h) inside))
        (group_comes limits xs (held_cell h 2) (good 2 (omega arith) (omega (arith, inside))))
    by false e =
        subst (λ (o : Option (List ℕ)). HasComing limits xs (groups_of (option_and_then type_in o)))
        (sym (taken_none (suc m) 1 (held_cells h) (ltb-false 1 (suc m) e)))
        (record { symbol = may.0; among = may.1; may_come = may.2 })
symbol_below limits xs h kind m known may good = record { symbol = may.0; among = may.1; may_come = may.2 }

-- ---- the line

-- good cells of a line of a kind of which some record may come give a good front, up to after the last field
front_below : (limits : LimitValues) (xs : List Symbol) (h : HeldLine) (line : List ℕ) (kind : Kind) (m : ℕ) → IsCutAs h line
    → held_kind h ≡ Some kind → MayComeOf limits xs kind → GoodBelow limits xs h kind (suc (suc m))
    → suc m ≤ length (layout kind) → HasGoodFront limits xs line m
front_below limits xs h line kind m cut known may good short =
    let c = symbol_below limits xs h kind m known may good in
    record {
      kind = kind;
      known = sym cut.kind ∙ known;
      good =
          subst (λ (cs : List (List ℕ)). AreGood (take m (fields_after_type kind)) (numbers_after xs kind) (take m (drop 1 cs)))
          cut.cells (cells_below limits xs h kind m known may good);
      excess = λ far. absurd (omega (arith, far, short));
      symbol = c.symbol;
      among = subst (λ (cs : List (List ℕ)). IsAmong (candidates (Some kind) (take (suc m) cs)) c.symbol) cut.cells c.among;
      continues = c.may_come;
    }

some_within : (fields : List FieldLayout) (P : FieldLayout → Type 0) (i : ℕ) → IsSomeAnd (slice_get fields i) P
    → i < length fields
some_within [] P i s = absurd s
some_within (f ∷ fields) P zero s = omega arith
some_within (f ∷ fields) P (suc i) s = let h : i < length fields = some_within fields P i s in omega (arith, h)

-- where a field is wrong that isn't the first, some record of the kind may come, and the field is at most the one after the last
pub record Wrong (limits : LimitValues) (xs : List Symbol) (kind : Kind) (field : ℕ) : Type 0 where
  pub comes : 1 < field → MayComeOf limits xs kind
  pub from : 0 < field
  pub to : field ≤ length (layout kind) + 1

pub wrong_field : (limits : LimitValues) (xs : List Symbol) (h : HeldLine) (kind : Kind) (field : ℕ) (reason : Reason)
    → IsWrongAt limits xs h kind field reason → Wrong limits xs kind field
wrong_field limits xs h kind field reason (barred bar b) =
    record { comes = λ late. absurd (omega (arith, late)); from = omega arith; to = omega arith }
wrong_field limits xs h kind field reason (cell zero r from may fault) = absurd (omega (arith, from))
wrong_field limits xs h kind field reason (cell (suc i) r from may fault) =
    let inside : i < length (layout kind) =
    some_within (layout kind)
    (λ f. IsSomeAnd (held_cell h (suc i)) (λ c. judged.IsFaultBy f.derived limits xs kind (suc i) f c r)) i fault in
    record { comes = λ late. may; from = omega arith; to = omega (arith, inside) }
wrong_field limits xs h kind field reason (past_last may excess) =
    record { comes = λ late. may; from = omega arith; to = omega arith }

-- before the first field that is wrong the front is good
pub front_before : (limits : LimitValues) (xs : List Symbol) (h : HeldLine) (line : List ℕ) (kind : Kind) (field : ℕ)
    (reason : Reason) (m : ℕ) → IsCutAs h line → held_kind h ≡ Some kind
    → IsFirstWrong limits xs h kind field reason → suc m < field → HasGoodFront limits xs line m
front_before limits xs h line kind field reason m cut known w before =
    let here = wrong_field limits xs h kind field reason w.here in
    front_below limits xs h line kind m cut known (here.comes (omega (arith, before)))
    (λ i from to. w.before i from (omega (arith, to, before))) (omega (arith, before, here.to))

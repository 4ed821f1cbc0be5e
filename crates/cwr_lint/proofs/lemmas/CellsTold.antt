-- Which faults are told of a line.
use Rattle.std.proofs.Common.{◌≡◌, ◌≢◌, ℕ, zero, suc, ◌+◌, ◌-◌, ◌<◌, ◌≤◌, Bool, true, false, true≢false, List, [], ◌∷◌, length}
use Rattle.std.proofs.Common.{Option, Some, None, refl, sym, ap, subst, ◌∙◌, arith, inl, inr, slice_get}
use Rattle.std.specs.Prelude.{◌⊎◌}
use Rattle.std.specs.List.{Contains}
use Rattle.std.proofs.lemmas.List.Elements.{Contains-append_cases, Contains-append_left, Contains-append_right}
use Rattle.cwr_fields.specs.declared.cell_types.CellType.{CellType}
use Rattle.cwr_fields.specs.declared.cell_types.CellFault.{CellFault}
use Rattle.cwr_fields.specs.Format.Cells.{HasFault}
use Rattle.cwr_fields.specs.declared.kinds.Kind.{Kind}
use Rattle.cwr_fields.specs.Format.Layouts.{FieldLayout, field_at, layout}
use Rattle.cwr_shape.specs.declared.reasons.Reason.{Reason}
use Rattle.cwr_shape.specs.declared.reasons.Reason.TheVariants.{Misplaced, Cell, Excess}
use Rattle.cwr_judge.specs.declared.refusals.Refusal.{Refusal}
use Rattle.cwr_lint_lines.specs.Format.FaultsAtFields.{IsToldAt, IsToldOfCell, IsToldOfField, JudgedLine, fault_in, fields_end}
use Rattle.cwr_lint_lines.specs.Format.FaultsAtFields.{number_in, number_reason, reason_if, tells_cells}
use Rattle.cwr_lint.specs.Format.FaultsOfLines.{Asking, Tells, TellsMore}
use Rattle.cwr_lint.specs.Format.Laws.{CellsAreTold, IsToldWith}
use Rattle.cwr_lint_lines.proofs.lemmas.JudgedLines.{no_field_past}

-- the only element
one_only : (x y : Refusal) → Contains (x ∷ []) y → y ≡ x
one_only x y (zero, h, e) = sym e
one_only x y (suc k, h, e) = absurd (omega (arith, h))

one_there : (x : Refusal) → Contains (x ∷ []) x
one_there x = (0, omega arith, refl)

-- what was told by one field more
told_last : (asked : Asking) (found : Option Refusal) (before told : List Refusal) (earlier text : List ℕ) (f : Refusal)
    → TellsMore asked found before earlier told text → Contains told f → Contains before f ⊎ (found ≡ Some f)
told_last asked None before told earlier text f m c = inl (subst (λ (l : List Refusal). Contains l f) m.0 c)
told_last asked (Some fault) before told earlier text f m c =
    by (Contains-append_cases before (fault ∷ []) f (subst (λ (l : List Refusal). Contains l f) m.0 c))
  where
    by : Contains before f ⊎ Contains (fault ∷ []) f → Contains before f ⊎ (Some fault ≡ Some f)
    by (inl h) = inl h
    by (inr h) = inr (ap (λ (x : Refusal). Some x) (sym (one_only fault f h)))

told_on : (asked : Asking) (found : Option Refusal) (before told : List Refusal) (earlier text : List ℕ) (f : Refusal)
    → TellsMore asked found before earlier told text → Contains before f ⊎ (found ≡ Some f) → Contains told f
told_on asked None before told earlier text f m (inl h) = subst (λ (l : List Refusal). Contains l f) (sym m.0) h
told_on asked None before told earlier text f m (inr e) = absurd (cc e)
told_on asked (Some fault) before told earlier text f m (inl h) =
    subst (λ (l : List Refusal). Contains l f) (sym m.0) (Contains-append_left before (fault ∷ []) f h)
told_on asked (Some fault) before told earlier text f m (inr e) =
    let same : fault ≡ f = cc e in
    subst (λ (l : List Refusal). Contains l f) (sym m.0)
    (Contains-append_right before (fault ∷ []) f (subst (Contains (fault ∷ [])) same (one_there fault)))

-- each fault that is told is that at some field
pub record IsOfField (l : JudgedLine) (from upto : ℕ) (f : Refusal) : Type 0 where
  pub field : ℕ
  pub first : from ≤ field
  pub last : field < upto
  pub reason : Reason
  pub told : IsToldAt l field (Some reason)
  pub is_field : f.field ≡ field
  pub is_reason : f.reason ≡ reason

is_of : (l : JudgedLine) (j : ℕ) (reason : Option Reason) (f : Refusal) → fault_in l j reason ≡ Some f
    → (r : Reason) × (reason ≡ Some r) × (f.field ≡ j) × (f.reason ≡ r)
is_of l j None f e = absurd (cc e)
is_of l j (Some r) f e =
    let same : _ ≡ f =
    some_same e in (r, refl, ap (λ (x : Refusal). x.field) (sym same), ap (λ (x : Refusal). x.reason) (sym same))
  where
    some_same : {x y : Refusal} → Some x ≡ Some y → x ≡ y
    some_same e = cc e

pub told_only : (asked : Asking) (l : JudgedLine) (from upto : ℕ) (told : List Refusal) (text : List ℕ) (f : Refusal)
    → Tells asked l from upto told text → Contains told f → IsOfField l from upto f
told_only asked l from zero told text f t c = absurd (none_there (subst (λ (x : List Refusal). Contains x f) t.0 c))
  where
    none_there : Contains [] f → ⊥
    none_there (k, h, e) = omega (arith, h)
told_only asked l from (suc j) told text f (reason, is, silent, before, earlier, t, m) c =
    by (λ h. told_only asked l from j before earlier f t h) (told_last asked (fault_in l j reason) before told earlier text f m c)
  where
    early : (from ≤ j) ⊎ (j < from) → (r : Reason) → reason ≡ Some r → from ≤ j
    early (inl h) r e = h
    early (inr h) r e = let no : None ≡ Some r = sym (silent h) ∙ e in absurd (cc no)

    compared : (a b : ℕ) → (a ≤ b) ⊎ (b < a)
    compared zero b = inl (omega arith)
    compared (suc a) zero = inr (omega arith)
    compared (suc a) (suc b) = step (compared a b)
      where
        step : (a ≤ b) ⊎ (b < a) → (suc a ≤ suc b) ⊎ (suc b < suc a)
        step (inl h) = inl (omega (arith, h))
        step (inr h) = inr (omega (arith, h))

    by : (Contains before f → IsOfField l from j f) → Contains before f ⊎ (fault_in l j reason ≡ Some f)
        → IsOfField l from (suc j) f
    by go (inl h) = let o = go h in record {
      field = o.field;
      first = o.first;
      last = omega (arith, o.last);
      reason = o.reason;
      told = o.told;
      is_field = o.is_field;
      is_reason = o.is_reason;
    }
    by go (inr e) = let o = is_of l j reason f e in record {
      field = j;
      first = early (compared from j) o.0 o.1;
      last = omega arith;
      reason = o.0;
      told = subst (IsToldAt l j) o.1 (is (early (compared from j) o.0 o.1));
      is_field = o.2;
      is_reason = o.3;
    }

-- what is told at a field is among them
pub told_each : (asked : Asking) (l : JudgedLine) (from upto j : ℕ) (told : List Refusal) (text : List ℕ)
    → Tells asked l from upto told text → from ≤ j → j < upto
    → (reason : Option Reason) × IsToldAt l j reason × ((f : Refusal) → fault_in l j reason ≡ Some f → Contains told f)
told_each asked l from zero j told text t first last = absurd (omega (arith, last))
told_each asked l from (suc i) j told text (reason, is, silent, before, earlier, t, m) first last =
    by (λ h. told_each asked l from i j before earlier t first h) (same_or j i last)
  where
    same_or : (j i : ℕ) → j < suc i → (j ≡ i) ⊎ (j < i)
    same_or zero zero h = inl refl
    same_or zero (suc i) h = inr (omega arith)
    same_or (suc j) zero h = absurd (omega (arith, h))
    same_or (suc j) (suc i) h = step (same_or j i (omega (arith, h)))
      where
        step : (j ≡ i) ⊎ (j < i) → (suc j ≡ suc i) ⊎ (suc j < suc i)
        step (inl e) = inl (ap suc e)
        step (inr h) = inr (omega (arith, h))

    by : (j < i
        → (other : Option Reason) × IsToldAt l j other × ((f : Refusal) → fault_in l j other ≡ Some f → Contains before f))
        → (j ≡ i) ⊎ (j < i)
        → (other : Option Reason) × IsToldAt l j other × ((f : Refusal) → fault_in l j other ≡ Some f → Contains told f)
    by go (inl e) = (
      reason,
      subst (λ (k : ℕ). IsToldAt l k reason) (sym e) (is (omega (arith, first, e))),
      λ f h. told_on asked (fault_in l i reason) before told earlier text f m
          (inr (subst (λ (k : ℕ). fault_in l k reason ≡ Some f) e h)),
    )
    by go (inr h) = let o = go h in
        (o.0, o.1, λ f e. told_on asked (fault_in l i reason) before told earlier text f m (inl (o.2 f e)))

-- the fault with a reason that is told
with_reason : (l : JudgedLine) (j : ℕ) (told : List Refusal) (reason : Option Reason) (r : Reason) → reason ≡ Some r
    → ((f : Refusal) → fault_in l j reason ≡ Some f → Contains told f) → IsToldWith told j r
with_reason l j told reason r e h = (_, h _ (ap (fault_in l j) e), refl, refl)

-- ---- a cell

no_cell : (number : Option ℕ) (fault : CellFault) → Some (Cell fault) ≢ number_reason number
no_cell None fault e = cc e
no_cell (Some n) fault e = absurd (cc e)

cell_of : (ty : CellType) (cell : List ℕ) (number : Option ℕ) (fault : CellFault)
    → IsToldOfCell ty cell number (Some (Cell fault)) → HasFault ty cell fault
cell_of ty cell number fault (inl (holds, e)) = absurd (no_cell number fault e)
cell_of ty cell number fault (inr (other, has, e)) = let same : other ≡ fault = cc e in subst (HasFault ty cell) same has

cell_told : (ty : CellType) (cell : List ℕ) (number : Option ℕ) (fault : CellFault) (found : Option Reason)
    → IsToldOfCell ty cell number found → HasFault ty cell fault → found ≡ Some (Cell fault)
cell_told ty cell number fault found (inl (holds, e)) has = absurd (has.0 holds)
cell_told ty cell number fault found (inr (other, is, e)) has = e ∙ ap (λ (x : CellFault). Some (Cell x)) (is.1 ∙ sym has.1)

told_of : (b : Bool) (ty : CellType) (cell : List ℕ) (number : Option ℕ) (found : Option Reason) → b ≡ true
    → IsToldOfField b ty cell number found → IsToldOfCell ty cell number found
told_of true ty cell number found e h = h
told_of false ty cell number found e h = absurd (true≢false (sym e))

within : (kind : Kind) (k : ℕ) (f : FieldLayout) → field_at kind k ≡ Some f → k ≤ length (layout kind)
within kind k f at = by (compared k (length (layout kind)))
  where
    compared : (a b : ℕ) → (a ≤ b) ⊎ (b < a)
    compared zero b = inl (omega arith)
    compared (suc a) zero = inr (omega arith)
    compared (suc a) (suc b) = step (compared a b)
      where
        step : (a ≤ b) ⊎ (b < a) → (suc a ≤ suc b) ⊎ (suc b < suc a)
        step (inl h) = inl (omega (arith, h))
        step (inr h) = inr (omega (arith, h))

    by : (k ≤ length (layout kind)) ⊎ (length (layout kind) < k) → k ≤ length (layout kind)
    by (inl h) = h
    by (inr h) = let no : None ≡ Some f = sym (no_field_past kind k h) ∙ at in absurd (cc no)

if_true : (b : Bool) (r : Reason) → Some r ≡ reason_if b r → b ≡ true
if_true true r e = refl
if_true false r e = absurd (cc e)

pub cells_are_told : CellsAreTold
cells_are_told asked l kind told text known t = record {
  cells = λ f cell k fault two at there cells. (
    λ h. cell_here f cell k fault two at there cells h,
    λ has. let o =
        told_each asked l 1 (fields_end l.cut.kind) k told text t (omega (arith, two)) (omega (arith, within kind k f at, end)) in
        with_reason l k told o.0 (Cell fault) (cell_told f.ty cell (number_in l k) fault o.0
        (told_of (tells_cells l) f.ty cell (number_in l k) o.0 cells (o.1.cell kind f cell known two at there)) has) o.2,
  );
  excess = (
    λ h. excess_here h,
    λ e. let o =
        told_each asked l 1 (fields_end l.cut.kind) (length (layout kind) + 1) told text t (omega arith) (omega (arith, end)) in
        with_reason l (length (layout kind) + 1) told o.0 Excess
        (o.1.excess kind known (omega (arith, some_fields)) (omega arith) ∙ ap (λ (b : Bool). reason_if b Excess) e) o.2,
  );
  order = (
    λ h. order_here h,
    λ e. let o = told_each asked l 1 (fields_end l.cut.kind) 1 told text t (omega arith) (omega (arith, end)) in
        with_reason l 1 told o.0 Misplaced (o.1.order kind known refl ∙ ap (λ (b : Bool). reason_if b Misplaced) e) o.2,
  );
} where
  end : fields_end l.cut.kind ≡ length (layout kind) + 2
  end = ap fields_end known

  some_fields : 1 ≤ length (layout kind)
  some_fields = omega arith

  cell_here : (f : FieldLayout) (cell : List ℕ) (k : ℕ) (fault : CellFault) → 2 ≤ k → field_at kind k ≡ Some f
      → slice_get l.cut.cells (k - 1) ≡ Some cell → tells_cells l ≡ true → IsToldWith told k (Cell fault)
      → HasFault f.ty cell fault
  cell_here f cell k fault two at there cells (r, c, is_k, is_reason) =
      let o = told_only asked l 1 (fields_end l.cut.kind) told text r t c in
      let here : IsToldAt l k (Some (Cell fault)) =
      subst (λ (x : Reason). IsToldAt l k (Some x)) (sym o.is_reason ∙ is_reason)
      (subst (λ (j : ℕ). IsToldAt l j (Some o.reason)) (sym o.is_field ∙ is_k) o.told) in
      cell_of f.ty cell (number_in l k) fault
      (told_of (tells_cells l) f.ty cell (number_in l k) (Some (Cell fault)) cells (here.cell kind f cell known two at there))

  excess_here : IsToldWith told (length (layout kind) + 1) Excess → l.cut.excess ≡ true
  excess_here (r, c, is_k, is_reason) =
      let o = told_only asked l 1 (fields_end l.cut.kind) told text r t c in
      let here : IsToldAt l (length (layout kind) + 1) (Some Excess) =
      subst (λ (x : Reason). IsToldAt l (length (layout kind) + 1) (Some x)) (sym o.is_reason ∙ is_reason)
      (subst (λ (j : ℕ). IsToldAt l j (Some o.reason)) (sym o.is_field ∙ is_k) o.told) in
      if_true l.cut.excess Excess (here.excess kind known (omega (arith, some_fields)) (omega arith))

  order_here : IsToldWith told 1 Misplaced → l.misplaced ≡ true
  order_here (r, c, is_k, is_reason) =
      let o = told_only asked l 1 (fields_end l.cut.kind) told text r t c in
      let here : IsToldAt l 1 (Some Misplaced) =
      subst (λ (x : Reason). IsToldAt l 1 (Some x)) (sym o.is_reason ∙ is_reason)
      (subst (λ (j : ℕ). IsToldAt l j (Some o.reason)) (sym o.is_field ∙ is_k) o.told) in
      if_true l.misplaced Misplaced (here.order kind known refl)

-- A text has one end at most: it is accepted, or refused at one place for one reason, or truncated with one number of lines.
use Rattle.std.proofs.Common.{◌≡◌, ℕ, ◌≤◌, Bool, true, false, List, [], ◌∷◌, ◌++◌, length, refl, sym, ap, ap₂, subst, ◌∙◌, arith}
use Rattle.std.proofs.Common.{Option, Some, None, nat_eq, true≢false, inl, inr, lit≤}
use Rattle.std.specs.Prelude.{option_and_then, ◌⊎◌}
use Rattle.std.proofs.lemmas.Bool.{eqb-true, eq-eqb}
use Rattle.cwr_fields.specs.declared.cell_types.CellFault.{CellFault}
use Rattle.cwr_fields.specs.Format.Cells.{fault_of}
use Rattle.cwr_fields.specs.declared.kinds.Kind.{Kind}
use Rattle.cwr_fields.specs.Format.Layouts.{FieldLayout, field_at}
use Rattle.cwr_lines.specs.Format.Lines.{line_kind}
use Rattle.cwr_shape.specs.declared.limits.Limits.{Limits}
use Rattle.cwr_shape.specs.declared.limits.LimitKind.{LimitKind}
use Rattle.cwr_shape.specs.declared.limits.LimitKind.TheVariants as limit_kinds
use Rattle.cwr_shape.specs.declared.reasons.Reason.{Reason}
use Rattle.cwr_shape.specs.declared.reasons.Reason.TheVariants.{UnknownKind, Misplaced, Cell, Number, Limit, Excess}
use Rattle.cwr_shape.specs.Format.Candidates.{ContinuesAmong}
use Rattle.cwr_shape.specs.Format.Levels.{level_of, scope_after_kind}
use Rattle.cwr_judge.specs.declared.refusals.Refusal.{Refusal}
use Rattle.cwr_judge.specs.Format.Reasons.{Applies, IsReason, IsNumber, cell_of, line_candidates, rank}
use Rattle.cwr_judge.specs.Format.Ends.{IsRefused, IsTruncated, last_kind}
use Rattle.cwr_judge.proofs.lemmas.Accepted.{one_place}

-- the line after as many others is the same
pub same_line : (xs ys : List (List ℕ)) (a b : List ℕ) (us vs : List (List ℕ)) → length xs ≡ length ys
    → xs ++ a ∷ us ≡ ys ++ b ∷ vs → (xs ≡ ys) × (a ≡ b)
same_line [] [] a b us vs l e = (refl, cc)
same_line [] (y ∷ ys) a b us vs l e = absurd (omega arith)
same_line (x ∷ xs) [] a b us vs l e = absurd (omega arith)
same_line (x ∷ xs) (y ∷ ys) a b us vs l e =
    let first : x ≡ y = cc in
    let rest = same_line xs ys a b us vs (omega arith) (cc) in
    (ap₂ (λ (z : List ℕ) (zs : List (List ℕ)). z ∷ zs) first rest.0, rest.1)

no_value : {A : Type 0} (a : A) → None ≡ Some a → ⊥
no_value a e = cc

one_some : {A : Type 0} (a b : A) → Some a ≡ Some b → a ≡ b
one_some a b e = cc

known_kind : (kind : Option Kind) (k : ℕ) (f : FieldLayout) → option_and_then (λ known. field_at known k) kind ≡ Some f
    → (known : Kind) × (kind ≡ Some known)
known_kind None k f e = absurd (no_value f e)
known_kind (Some kind) k f e = (kind, refl)

one_number : (before : List (List ℕ)) (line : List ℕ) (k m n : ℕ) (kind : Kind) → IsNumber before line k m
    → IsNumber before line k n → line_kind line ≡ Some kind
    → ¬ (¬ ContinuesAmong (λ groups. Unit {0}) (line_candidates before line k)) → m ≡ n
one_number before line k m n kind h j at continues = by (nat_eq m n) refl
  where
    by : (b : Bool) → nat_eq m n ≡ b → m ≡ n
    by true e = eqb-true m n e
    by false e =
        absurd (continues
        (λ g. true≢false (sym (eq-eqb m n (one_some m n (sym (h g.0 kind g.1 g.3 at) ∙ j g.0 kind g.1 g.3 at))) ∙ e)))

same_limit : (k l : LimitKind) → rank (Limit k) ≡ rank (Limit l) → k ≡ l
same_limit limit_kinds.Records limit_kinds.Records e = refl
same_limit limit_kinds.Groups limit_kinds.Groups e = refl
same_limit limit_kinds.Transaction limit_kinds.Transaction e = refl
same_limit k l e = absurd (omega arith)

-- the ranks of limits are 5 to 7
no_limit : (k : LimitKind) (r : ℕ) → rank (Limit k) ≡ r → (r ≤ 4) ⊎ (8 ≤ r) → ⊥
no_limit limit_kinds.Records r e h = omega arith
no_limit limit_kinds.Groups r e h = omega arith
no_limit limit_kinds.Transaction r e h = omega arith

late : (r : ℕ) → r ≡ 4 → r ≤ 2 → ⊥
late r e s = omega arith

-- reasons of one rank are one, but for what they carry
same_reason : (a b : Reason) → rank a ≡ rank b → ((x y : CellFault) → a ≡ Cell x → b ≡ Cell y → x ≡ y)
    → ((m n : ℕ) → a ≡ Number m → b ≡ Number n → m ≡ n) → a ≡ b
same_reason UnknownKind UnknownKind e f g = refl
same_reason Misplaced Misplaced e f g = refl
same_reason (Cell x) (Cell y) e f g = ap Cell (f x y refl refl)
same_reason (Number m) (Number n) e f g = ap Number (g m n refl refl)
same_reason (Limit k) (Limit l) e f g = ap Limit (same_limit k l e)
same_reason (Limit k) UnknownKind e f g = absurd (no_limit k 1 e (inl (lit≤ tt)))
same_reason (Limit k) Misplaced e f g = absurd (no_limit k 2 e (inl (lit≤ tt)))
same_reason (Limit k) (Cell y) e f g = absurd (no_limit k 3 e (inl (lit≤ tt)))
same_reason (Limit k) (Number n) e f g = absurd (no_limit k 4 e (inl (lit≤ tt)))
same_reason (Limit k) Excess e f g = absurd (no_limit k 8 e (inr (lit≤ tt)))
same_reason UnknownKind (Limit l) e f g = absurd (no_limit l 1 (sym e) (inl (lit≤ tt)))
same_reason Misplaced (Limit l) e f g = absurd (no_limit l 2 (sym e) (inl (lit≤ tt)))
same_reason (Cell x) (Limit l) e f g = absurd (no_limit l 3 (sym e) (inl (lit≤ tt)))
same_reason (Number m) (Limit l) e f g = absurd (no_limit l 4 (sym e) (inl (lit≤ tt)))
same_reason Excess (Limit l) e f g = absurd (no_limit l 8 (sym e) (inr (lit≤ tt)))
same_reason Excess Excess e f g = refl
same_reason a b e f g = absurd (omega arith)

one_reason : (limits : Limits) (before : List (List ℕ)) (line : List ℕ) (k : ℕ) (a b : Reason) → IsReason limits before line k a
    → IsReason limits before line k b → a ≡ b
one_reason limits before line k a b h j =
    let first = h.1 b j.0 in
    let second = j.1 a h.0 in
    same_reason a b (omega arith) faults numbers
  where
    faults : (x y : CellFault) → a ≡ Cell x → b ≡ Cell y → x ≡ y
    faults x y p q =
        let one = subst (Applies limits before line k) p h.0 in
        let two = subst (Applies limits before line k) q j.0 in
        let same : one.0 ≡ two.0 = one_some one.0 two.0 (sym one.1 ∙ two.1) in
        one.2.1 ∙ ap (λ (f : FieldLayout). fault_of f.ty (cell_of line k)) same ∙ sym two.2.1

    numbers : (m n : ℕ) → a ≡ Number m → b ≡ Number n → m ≡ n
    numbers m n p q =
        let one = subst (Applies limits before line k) p h.0 in
        let two = subst (Applies limits before line k) q j.0 in
        let kind = known_kind (line_kind line) k one.0 one.1 in
        let placed : ¬ (¬ ContinuesAmong (λ groups. Unit {0}) (line_candidates before line k)) =
        λ misplaced. absurd (late (rank a) (ap rank p) (h.1 Misplaced misplaced)) in
        one_number before line k m n kind.0 one.3 two.3 kind.1 placed

-- a text is refused in one way at most
pub refused_once : (limits : Limits) (text : List ℕ) (a b : Refusal) → IsRefused limits text a → IsRefused limits text b → a ≡ b
refused_once limits text a b h j =
    let place = one_place limits text a.rec b.rec a.field b.field h.first j.first in
    let many : length h.before ≡ length j.before = omega (arith, h.at, j.at, place.0) in
    let line = same_line h.before j.before h.line j.line h.after j.after many (sym h.lines ∙ j.lines) in
    let other : IsReason limits h.before h.line a.field b.reason =
    subst (λ (xs : List (List ℕ)). IsReason limits xs h.line a.field b.reason) (sym line.0)
    (subst (λ (l : List ℕ). IsReason limits j.before l a.field b.reason) (sym line.1)
    (subst (λ (k : ℕ). IsReason limits j.before j.line k b.reason) (sym place.1) j.reason)) in
    let reason : a.reason ≡ b.reason = one_reason limits h.before h.line a.field a.reason b.reason h.reason other in
    let level : a.level ≡ b.level =
    h.level
    ∙ ap₂ (λ (l : List ℕ) (k : ℕ). level_of (line_kind l) k a.reason (scope_after_kind (last_kind h.before))) line.1 place.1
    ∙ ap₂ (λ (r : Reason) (xs : List (List ℕ)). level_of (line_kind j.line) b.field r (scope_after_kind (last_kind xs))) reason
    line.0 ∙ sym j.level in
    λ i. record { rec = place.0 i; field = place.1 i; level = level i; reason = reason i }

-- a text that is refused isn't truncated
pub refused_or_truncated : (limits : Limits) (text : List ℕ) (refusal : Refusal) (records : ℕ) → IsRefused limits text refusal
    → IsTruncated limits text records → ⊥
refused_or_truncated limits text refusal records h j = j.nowhere refusal.rec refusal.field h.first.0

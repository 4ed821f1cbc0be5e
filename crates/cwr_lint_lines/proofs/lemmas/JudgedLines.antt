-- What is told of a line that was judged.
use Rattle.std.proofs.Common.{◌≡◌, ◌≢◌, ℕ, zero, suc, ◌+◌, ◌-◌, ◌<◌, ◌≤◌, min, Bool, true, false, List, length, Option, Some}
use Rattle.std.proofs.Common.{None, refl, sym, ap, subst, ◌∙◌, arith, inl, inr, slice_get}
use Rattle.std.specs.Prelude.{◌^◌, not, ◌||◌}
use Rattle.std.proofs.lemmas.Option.{slice_get_past}
use Rattle.cwr_fields.specs.declared.kinds.Kind.{Kind}
use Rattle.cwr_fields.specs.Format.Layouts.{FieldLayout, field_at, layout}
use Rattle.cwr_lines.specs.Steps.Held.{HeldLine, held_cell, held_cells, held_excess, held_kind}
use Rattle.cwr_fields.proofs.lemmas.AllKinds.{few_fields}
use Rattle.cwr_lines.proofs.lemmas.HeldLaws.{held_cell-at}
use Rattle.cwr_shape.specs.declared.tallies.Scope.{Scope}
use Rattle.cwr_shape.specs.declared.reasons.Reason.{Reason}
use Rattle.cwr_shape.specs.declared.reasons.Reason.TheVariants.{UnknownKind, Misplaced, Excess}
use Rattle.cwr_lint_lines.specs.declared.judged_lines.Known.{Known}
use Rattle.cwr_lint_lines.specs.declared.judged_lines.Judged.TheVariants.{Unknown, Known as Of}
use Rattle.cwr_lint_lines.specs.Format.FaultsAtFields.{IsToldAt, IsToldOfField, fields_end, number_reason, reason_if}
use Rattle.cwr_lint_lines.specs.Steps.JudgedLines.{IsKnown, IsReasonIf, IsReasonOfCell, judged_at, number_reason_in}

same_kind : (h : HeldLine) (k kind : Kind) → held_kind h ≡ Some k → held_kind h ≡ Some kind → k ≡ kind
same_kind h k kind p q = cc (sym p ∙ q)

-- a line of unknown kind
pub told_unknown : (n : ℕ) (scope : Scope) (h : HeldLine) (j : ℕ) → held_kind h ≡ None
    → IsToldAt (judged_at n scope h Unknown) j (Some UnknownKind)
told_unknown n scope h j none = record {
  unknown = λ _. refl;
  order = λ kind k one. absurd (cc (sym none ∙ k));
  excess = λ kind k two past. absurd (cc (sym none ∙ k));
  cell = λ kind f cell k two at there. absurd (cc (sym none ∙ k));
}

-- the first field
pub told_order : (n : ℕ) (scope : Scope) (h : HeldLine) (known : Known) (j : ℕ) (found : Option Reason) → IsKnown h known → j ≡ 1
    → found ≡ reason_if known.misplaced Misplaced → IsToldAt (judged_at n scope h (Of known)) j found
told_order n scope h known j found is one e = record {
  unknown = λ none. absurd (cc (sym none ∙ is.kind));
  order = λ kind k _. e;
  excess = λ kind k two past. absurd (omega (arith, one, two));
  cell = λ kind f cell k two at there. absurd (omega (arith, one, two));
}

pub no_field_past : (kind : Kind) (j : ℕ) → length (layout kind) < j → field_at kind j ≡ None
no_field_past kind zero past = refl
no_field_past kind (suc i) past = slice_get_past (layout kind) i (omega (arith, past))

-- what stands after the last one
pub told_excess : (n : ℕ) (scope : Scope) (h : HeldLine) (known : Known) (j : ℕ) (found : Option Reason) → IsKnown h known → j ≢ 1
    → length (layout known.kind) < j → found ≡ reason_if known.has_excess Excess
    → IsToldAt (judged_at n scope h (Of known)) j found
told_excess n scope h known j found is other past e = record {
  unknown = λ none. absurd (cc (sym none ∙ is.kind));
  order = λ kind k one. absurd (other one);
  excess = λ kind k two more. e ∙ ap (λ (b : Bool). reason_if b Excess) is.excess;
  cell = λ kind f cell k two at there. absurd (none_there kind f (same_kind h known.kind kind is.kind k) at);
} where
  none_there : (kind : Kind) (f : FieldLayout) → known.kind ≡ kind → field_at kind j ≡ Some f → ⊥
  none_there kind f same at =
      let gone : None ≡ Some f = sym (no_field_past known.kind j past) ∙ ap (λ (k : Kind). field_at k j) same ∙ at in
      cc gone

told_field : (b : Bool) (h : HeldLine) (kind : Kind) (f : FieldLayout) (cell : List ℕ) (j : ℕ) (number : Option ℕ)
    (found : Option Reason) → held_kind h ≡ Some kind → field_at kind j ≡ Some f → held_cell h j ≡ Some cell
    → IsReasonIf b h j (number_reason number) found → IsToldOfField b f.ty cell number found
told_field true h kind f cell j number found k at there (None, is, e) = inl (is kind f cell k at there, e)
told_field true h kind f cell j number found k at there (Some fault, is, e) = inr (fault, is kind f cell k at there, e)
told_field false h kind f cell j number found k at there e = e

-- the cells between them
pub told_cell : (n : ℕ) (scope : Scope) (h : HeldLine) (known : Known) (j : ℕ) (found : Option Reason) → IsKnown h known → j ≢ 1
    → j ≤ length (layout known.kind) → IsReasonOfCell known h j found → IsToldAt (judged_at n scope h (Of known)) j found
told_cell n scope h known j found is other within reason = record {
  unknown = λ none. absurd (cc (sym none ∙ is.kind));
  order = λ kind k one. absurd (other one);
  excess =
      λ kind k two more. absurd
      (omega (arith, within, more, ap (λ (x : Kind). length (layout x)) (same_kind h known.kind kind is.kind k)));
  cell = λ kind f cell k two at there.
      told_field (not known.misplaced || not (held_excess h)) h kind f cell j _ found k at (cell_there kind cell j k two there)
      (subst (λ (b : Bool). IsReasonIf (not known.misplaced || not b) h j (number_reason_in known j) found) is.excess reason);
} where
  cell_there : (kind : Kind) (cell : List ℕ) (j : ℕ) → held_kind h ≡ Some kind → 2 ≤ j
      → slice_get (held_cells h) (j - 1) ≡ Some cell → held_cell h j ≡ Some cell
  cell_there kind cell zero k two there = absurd (omega (arith, two))
  cell_there kind cell (suc i) k two there =
      let before : i ≡ suc i - 1 = omega arith in
      held_cell-at h kind i k ∙ ap (slice_get (held_cells h)) before ∙ there

-- how many fields there are
pub end_known : (h : HeldLine) (known : Known) (count end : ℕ) → IsKnown h known → count ≡ length (layout known.kind)
    → end ≡ min (count + 2) (2 ^ 8 - 1) → end ≡ fields_end (held_kind h)
end_known h known count end is e f = omega (arith, e, f, few_fields known.kind) ∙ ap fields_end (sym is.kind)

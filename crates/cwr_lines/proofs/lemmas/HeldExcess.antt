-- What stands after the last field of a line is what stands there in its filled text.
use Rattle.std.proofs.Common.{◌≡◌, ℕ, zero, suc, ◌-◌, Bool, false, not, ◌||◌, List, [], ◌∷◌, ◌++◌, length, drop, replicate, refl}
use Rattle.std.proofs.Common.{sym, ap, ◌∙◌, arith, append-nil}
use Rattle.std.specs.Prelude.{Option, Some}
use Rattle.std.proofs.lemmas.List.{drop_all, length-replicate}
use Rattle.cwr_fields.specs.Format.Bytes.{filled, is_spaces}
use Rattle.cwr_fields.specs.declared.kinds.Kind.{Kind}
use Rattle.cwr_lines.specs.declared.lines.LineEnd.{LineEnd}
use Rattle.cwr_lines.specs.declared.lines.LineEnd.TheVariants.{Open, Line, Over}
use Rattle.cwr_fields.specs.Format.Layouts.{line_width}
use Rattle.cwr_lines.specs.Format.Lines.{excess_as}
use Rattle.cwr_lines.specs.Steps.Held.{HeldLine, IsFilled, ended_too_long, held_body, held_excess}

drop_filled : (width : ℕ) (text : List ℕ) → drop width (filled width text) ≡ drop width text
drop_filled zero text =
    let none : 0 - length text ≡ 0 = omega arith in
    ap (λ (n : ℕ). text ++ replicate n 32) none ∙ append-nil text
drop_filled (suc width) [] =
    drop_all (suc width) (replicate (suc width - 0) 32) (omega (arith, length-replicate {A = ℕ} (suc width - 0) 32))
drop_filled (suc width) (b ∷ text) =
    let fewer : suc width - suc (length text) ≡ width - length text = omega arith in
    ap (λ (n : ℕ). drop width (text ++ replicate n 32)) fewer ∙ drop_filled width text

not_over : (ended : LineEnd) → (ended ≡ Over → ⊥) → ended_too_long ended ≡ false
not_over Open h = refl
not_over Line h = refl
not_over Over h = absurd (h refl)

pub excess_found : (text : List ℕ) (kind : Kind) (h : HeldLine) → IsFilled text (Some kind) h → (h.ended ≡ Over → ⊥)
    → not (is_spaces (drop (line_width kind) text)) ≡ held_excess h
excess_found text kind h k whole =
    let width : ℕ = line_width kind in
    ap (λ (t : List ℕ). not (is_spaces (drop width t))) k.parts
    ∙ ap (λ (t : List ℕ). not (is_spaces t)) (drop_filled width (held_body h))
    ∙ sym (ap (λ (o : Option Kind). excess_as o (ended_too_long h.ended) (held_body h)) (sym k.known)
    ∙ ap (λ (b : Bool). b || not (is_spaces (drop width (held_body h)))) (not_over h.ended whole))

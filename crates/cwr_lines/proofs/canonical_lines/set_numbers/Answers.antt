use Rattle.std.proofs.Common.{◌≡◌, ◌∙◌, ◌++◌, ap, sym, take, drop, refl, inl, inr, arith, List, ℕ}
use Rattle.std.specs.Prelude.{◌⊎◌, slice_index}
use Rattle.cwr_fields.specs.Format.Bytes.{digits}
use Rattle.cwr_fields.specs.declared.kinds.Kind.{Kind}
use Rattle.cwr_fields.specs.declared.kinds.Kind.TheVariants.{Grt, Trl}
use Rattle.cwr_fields.specs.Format.Layouts.{line_width}
use Rattle.cwr_lines.specs.Steps.Numbered.{numbered_part}
use Rattle.cwr_lines.proofs.lemmas.NumberedLines.{set_at_ends, set_in_group_head, set_inside}
use Rattle.cwr_lines.proofs.lemmas.NumbersOfKinds.{line_width_least}
use Rattle.cwr_lines.proofs.canonical_lines.set_numbers.Goals as goal

pub returns-in-Grh : goal.returns-in-Grh
returns-in-Grh c =
    set_in_group_head c.args.numbers.now c.args.line.now _ _ c.number.result (c.requires ∙ ap line_width c.in-Grh.is)
    c.number.ensures refl c.set_digits.ensures
    ∙ ap (λ (k : Kind). take 3 c.args.line.now ++ numbered_part k c.args.numbers.now c.args.line.now) (sym c.in-Grh.is)

-- GRT and TRL have the same numbers
at_ends : (kind : Kind) (ns line text : List ℕ) → (kind ≡ Grt) ⊎ (kind ≡ Trl)
    → text ≡ take 3 line
    ++ (digits 5 (slice_index ns 0) ++ (digits 8 (slice_index ns 1) ++ (digits 8 (slice_index ns 2) ++ drop 24 line))) → text
    ≡ take 3 line ++ numbered_part kind ns line
at_ends kind ns line text (inl e) h = h ∙ ap (λ (k : Kind). take 3 line ++ numbered_part k ns line) (sym e)
at_ends kind ns line text (inr e) h = h ∙ ap (λ (k : Kind). take 3 line ++ numbered_part k ns line) (sym e)

pub returns-in-Grt : goal.returns-in-Grt
returns-in-Grt c =
    at_ends c.args.kind c.args.numbers.now c.args.line.now _ c.in-Grt.is
    (set_at_ends c.args.numbers.now c.args.line.now _ _ _ c.number-in-Grt.result c.number-in-Grt-2.result c.number-in-Grt-3.result
    (omega (arith, c.requires, line_width_least c.args.kind))
    c.number-in-Grt.ensures c.number-in-Grt-2.ensures c.number-in-Grt-3.ensures c.set_digits-in-Grt.ensures
    c.set_digits-in-Grt-2.ensures c.set_digits-in-Grt-3.ensures)

pub returns-in_default : goal.returns-in_default
returns-in_default c =
    set_inside c.args.kind c.args.numbers.now c.args.line.now _ _ c.number-in_default.result c.number-in_default-2.result
    c.in_default.not-Hdr c.in_default.not-Grh c.in_default.not-Grt c.in_default.not-Trl
    c.requires c.number-in_default.ensures c.number-in_default-2.ensures c.set_digits-in_default.ensures
    c.set_digits-in_default-2.ensures

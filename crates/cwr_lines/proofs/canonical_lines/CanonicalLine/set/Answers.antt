use Rattle.std.proofs.Common.{◌∙◌, ◌++◌, List, ℕ, ap, ap₂, length, refl, take}
use Rattle.cwr_fields.specs.declared.kinds.Kind.{Kind}
use Rattle.cwr_fields.specs.Format.Kinds.{letters}
use Rattle.cwr_lines.specs.Steps.Numbered.{numbered_part}
use Rattle.cwr_lines.proofs.lemmas.NumberedLines.{copied, line_set}
use Rattle.cwr_lines.proofs.canonical_lines.CanonicalLine.set.Goals as goal

pub returns : goal.returns
returns c =
    let line : List ℕ = c.whole_line-line.result.now in
    let cells = copied line c.copy_from_slice.new.self _ c.copy_from_slice.ensures.after in
    line_set c.args.shown.now c.args.numbers.now line c.set_numbers.new.line c.copy_from_slice-2.new.self
    c.copy_from_slice-3.new.self _ _ _ _ _ (length line) refl
    c.whole_line-line.ensures.whole c.whole_line-line.ensures.carries (c.set_numbers.auto.line ∙ ap length cells)
    (c.set_numbers.ensures
    ∙ ap₂ (λ (k : Kind) (z : List ℕ). take 3 z ++ numbered_part k c.args.numbers.now z) c.kind-kind.ensures.value cells)
    (c.copy_from_slice-2.ensures.after ∙ c.letters.ensures ∙ ap letters c.kind-kind.ensures.value)
    c.copy_from_slice-3.ensures.after refl refl refl

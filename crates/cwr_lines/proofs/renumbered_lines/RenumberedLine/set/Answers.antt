use Rattle.std.proofs.Common.{◌≡◌, ◌∙◌, ◌++◌, ℕ, List, ap, ap₂, length, refl, sym}
use Rattle.cwr_fields.specs.declared.kinds.Kind.{Kind}
use Rattle.std.specs.Prelude.{Option}
use Rattle.cwr_lines.specs.Steps.Numbered.{line_end, numbered_as}
use Rattle.cwr_lines.proofs.lemmas.NumberedLines.{copied}
use Rattle.cwr_lines.proofs.lemmas.RenumberedLines.{end_set, room_left}
use Rattle.cwr_lines.proofs.renumbered_lines.RenumberedLine.set.Goals as goal

pub returns : goal.returns
returns c =
    let line : List ℕ = c.set_text-cells.result.now in
    let cells = copied line c.copy_from_slice.new.self _ c.copy_from_slice.ensures.after in
    let long : length c.set_all.new.line ≡ length line = c.set_all.auto.line ∙ ap length cells in
    let text =
    c.set_all.ensures ∙ ap₂ (λ (o : Option Kind) (z : List ℕ). numbered_as o c.args.numbers.now z) c.kind.ensures
    (cells ∙ c.set_text-cells.ensures.value) in
    end_set c.set_all.new.line _ (length line) _ _ (sym long) (room_left (length line) c.self.inside.text
    c.copy_from_slice.new.self _ c.copy_from_slice.ensures.len c.set_text-cells.ensures.short c.self.ranges.0.1.0.1 refl)
    ∙ ap₂ (λ (x b : List ℕ). x ++ b) text (c.line_end-first.ensures ∙ ap line_end c.is_too_long.ensures)

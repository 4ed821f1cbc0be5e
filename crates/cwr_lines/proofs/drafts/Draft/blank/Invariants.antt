use Rattle.std.proofs.Common.{◌≡◌, take}
use Rattle.cwr_fields.specs.Format.Layouts.{layout}
use Rattle.cwr_lines.proofs.lemmas.BlankCells.{blank_text}
use Rattle.cwr_lines.proofs.drafts.Draft.blank.Given as goal

abbrev pub invariant-loop-place : goal.invariant-loop-place
invariant-loop-place l = l.text.items ≡ blank_text (take l.place-index (layout l.kind))

use Rattle.std.proofs.Common.{◌≤◌}
use Rattle.cwr_fields.specs.Format.Layouts.{layout}
use Rattle.cwr_findings.specs.Format.Fields.{index_of_name}
use Rattle.cwr_notes.proofs.note_lines.number_of_field.Given as goal

abbrev pub invariant-loop-before : goal.invariant-loop-before
invariant-loop-before l = l.before ≤ index_of_name l.name (layout l.kind)

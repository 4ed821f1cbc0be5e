use Rattle.std.proofs.Common.{◌≡◌}
use Rattle.std.specs.Prelude.{option_map}
use Rattle.cwr_fields.specs.Steps.Views.{field_view}
use Rattle.cwr_causes.specs.Format.LongLines.{run_start}
use Rattle.cwr_causes.proofs.long_lines.right_from.Given as goal

abbrev pub invariant-loop-before : goal.invariant-loop-before
invariant-loop-before l = option_map field_view l.first ≡ run_start l.kind l.text l.before

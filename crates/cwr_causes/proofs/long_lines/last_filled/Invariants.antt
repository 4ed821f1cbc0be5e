use Rattle.std.proofs.Common.{◌≡◌}
use Rattle.std.specs.Prelude.{option_map}
use Rattle.cwr_fields.specs.Steps.Views.{field_view}
use Rattle.cwr_causes.specs.Format.LongLines.{filled_in}
use Rattle.cwr_causes.proofs.long_lines.last_filled.Given as goal

abbrev pub invariant-loop-before : goal.invariant-loop-before
invariant-loop-before l = option_map field_view l.last ≡ filled_in l.kind l.line l.end l.before

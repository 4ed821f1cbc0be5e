use Rattle.std.proofs.Common.{◌≡◌, drop}
use Rattle.cwr_write.specs.Format.Imports.{is_blank_line}
use Rattle.cwr_write.proofs.input_lines.is_blank.Given as goal

abbrev pub invariant-loop-b : goal.invariant-loop-b
invariant-loop-b l = is_blank_line l.line ≡ is_blank_line (drop l.b-index l.line)

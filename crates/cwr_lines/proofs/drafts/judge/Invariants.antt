use Rattle.std.proofs.Common.{ℕ, ◌+◌, ◌<◌}
use Rattle.cwr_lines.specs.Format.Carried.{FitsAt}
use Rattle.cwr_lines.specs.Steps.Carried.{record_in}
use Rattle.cwr_lines.proofs.drafts.judge.Given as goal

abbrev pub invariant-loop-before : goal.invariant-loop-before
invariant-loop-before l = (i : ℕ) → i < l.before + 1 → FitsAt (record_in l.kind l.line) i

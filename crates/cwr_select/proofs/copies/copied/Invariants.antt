use Rattle.std.proofs.Common.{◌≡◌}
use Rattle.cwr_select.proofs.lemmas.CopiedCells.{copied_to}
use Rattle.cwr_select.proofs.copies.copied.Given as goal

abbrev pub invariant-loop-before : goal.invariant-loop-before
invariant-loop-before l = l.draft ≡ copied_to l.fn.kind l.before l.shown

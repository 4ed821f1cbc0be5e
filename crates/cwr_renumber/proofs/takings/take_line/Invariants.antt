use Rattle.std.proofs.Common.{◌≡◌, ◌-◌, ◌++◌, length}
use Rattle.std.specs.Prelude.{IfSome, IsSomeAnd}
use Rattle.cwr_lines.specs.declared.lines.LineEnd.TheVariants.{Open}
use Rattle.cwr_renumber.proofs.takings.take_line.Given as goal

abbrev pub invariant-loop-piece : goal.invariant-loop-piece
invariant-loop-piece g l = record {
  begun : l.line.ended ≡ Open;
  text : IfSome (g.R.Source.remaining l.initial.inner)
      (λ left. IsSomeAnd (g.R.Source.remaining l.inner) (λ rest. l.line.bytes ++ rest ≡ l.initial.line.bytes ++ left));
  failures : g.R.Source.failures l.inner ≡ g.R.Source.failures l.initial.inner;
}

abbrev pub decreases-loop-piece : goal.decreases-loop-piece
decreases-loop-piece g l = 1024 - length l.line.bytes

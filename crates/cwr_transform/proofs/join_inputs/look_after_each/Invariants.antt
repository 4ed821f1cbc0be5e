use Rattle.std.proofs.Common.{◌≡◌, ◌≤◌, ℕ, length, take, get_or}
use Rattle.cwr_transform.specs.Steps.Joins.{LooksAfter}
use Rattle.cwr_transform.proofs.join_inputs.look_after_each.Given as goal

abbrev pub invariant-loop-i : goal.invariant-loop-i
invariant-loop-i g l = record {
  many : length l.readers ≡ length l.initial.readers;
  others : (j : ℕ) (d : _) → l.i ≤ j → get_or l.readers j d ≡ get_or l.initial.readers j d;
  looks : LooksAfter g.R.Source.remaining g.R.Source.failures (take l.i l.initial.readers) (take l.i l.readers) l.seen;
}

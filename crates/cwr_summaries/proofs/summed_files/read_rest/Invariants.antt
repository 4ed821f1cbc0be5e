use Rattle.std.proofs.Common.{◌≡◌, ℕ, ◌-◌, ◌^◌, List, length}
use Rattle.std.specs.Prelude.{min}
use Rattle.std.specs.Io.KnownBytes.{Consumes}
use Rattle.cwr_summaries.proofs.summed_files.read_rest.Given as goal

abbrev pub invariant-loop-piece : goal.invariant-loop-piece
invariant-loop-piece g l =
    ((taken : List ℕ) × Consumes (g.R.Source.remaining l.initial.reader) (g.R.Source.remaining l.reader) taken
    × (l.bytes ≡ min (length taken) (2 ^ 64 - 1)))
    × (g.R.Source.failures l.reader ≡ g.R.Source.failures l.initial.reader)

use Rattle.std.proofs.Common.{◌≡◌, ◌==◌, ℕ, List, [], Some, length}
use Rattle.std.specs.List.{flat_map, slice_split}
use Rattle.std.specs.Str.{bytes_eq}
use Rattle.cwr_transform.specs.Format.Lists.{all_read, entries_in, number_in}
use Rattle.cwr_transform.specs.Format.Told.{firsts_after}
use Rattle.cwr_transform.specs.Steps.Sought.{AreNoted, CanPlace, SameFound}
use Rattle.cwr_transform.specs.Steps.TellingLists.{AreIn, AreLines, TellsTo}
use Rattle.cwr_transform.proofs.select_notes.add_numbers.Given as goal

abbrev pub invariant-lines : goal.invariant-lines
invariant-lines g l = record {
  same : SameFound l.initial.sought l.sought;
  tells : (values : List (List ℕ)) (lines : List ℕ → List ℕ) → all_read number_in (entries_in l.fn.text) ≡ Some values
      → AreIn bytes_eq l.initial.sought.listed.now values → CanPlace l.initial.sought → AreLines lines l.initial.sought
      → AreNoted bytes_eq l.initial.sought.listed.now l.initial.sought.told.items []
      → TellsTo g.W.Target.contents g.W.Target.failures number_in bytes_eq lines l.initial.sought.listed.now l.sought.told.items []
      (flat_map lines (firsts_after bytes_eq [] values)) (slice_split (λ b. b == 10) l.rest) l.initial.pen l.pen;
}

abbrev pub decreases-lines : goal.decreases-lines
decreases-lines g l = length l.rest

use Rattle.std.proofs.Common.{◌≡◌, ◌==◌, ℕ, List, [], Some, length}
use Rattle.std.specs.List.{flat_map, slice_split}
use Rattle.cwr_transform.specs.Format.Lists.{all_read, entries_in, place_in}
use Rattle.cwr_transform.specs.Format.Missing.{same_place}
use Rattle.cwr_transform.specs.Format.Told.{firsts_after, place_lines}
use Rattle.cwr_transform.specs.Steps.Sought.{AreNoted}
use Rattle.cwr_transform.specs.Steps.TellingLists.{AreIn, TellsTo}
use Rattle.cwr_transform.proofs.select_notes.add_places.Given as goal

abbrev pub invariant-lines : goal.invariant-lines
invariant-lines g l = record {
  same : l.sought.listed ≡ l.initial.sought.listed;
  tells : (values found : List (ℕ × ℕ)) → all_read place_in (entries_in l.fn.text) ≡ Some values
      → AreIn same_place l.initial.sought.listed.now values
      → AreNoted same_place l.initial.sought.listed.now l.initial.sought.found.items found
      → TellsTo g.W.Target.contents g.W.Target.failures place_in same_place (λ p. place_lines p found) l.initial.sought.listed.now
      l.sought.found.items found (flat_map (λ p. place_lines p found) (firsts_after same_place [] values))
      (slice_split (λ b. b == 10) l.rest) l.initial.pen l.pen;
}

abbrev pub decreases-lines : goal.decreases-lines
decreases-lines g l = length l.rest

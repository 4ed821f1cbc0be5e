use Rattle.std.proofs.Common.{◌≡◌, ◌==◌, length}
use Rattle.std.specs.List.{slice_split}
use Rattle.cwr_transform.specs.Format.Lists.{all_read, entries_in}
use Rattle.cwr_transform.specs.Steps.Lists.{all_after}
use Rattle.cwr_transform.proofs.lists.values_in.Given as goal

abbrev pub invariant-lines : goal.invariant-lines
invariant-lines g l =
    all_after g.T.Entry.reads l.values.items (slice_split (λ b. b == 10) l.rest) ≡ all_read g.T.Entry.reads (entries_in l.fn.text)

abbrev pub decreases-lines : goal.decreases-lines
decreases-lines g l = length l.rest

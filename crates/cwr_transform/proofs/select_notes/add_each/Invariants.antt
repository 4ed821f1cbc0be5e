use Rattle.std.proofs.Common.{◌≤◌, ◌-◌, length, take}
use Rattle.std.specs.List.{flat_map}
use Rattle.cwr_devices.specs.Steps.Pens.{Adds}
use Rattle.cwr_transform.specs.Format.Told.{twice_line}
use Rattle.cwr_transform.specs.Steps.Found.{place_at}
use Rattle.cwr_transform.specs.Steps.Sought.{CanPlace}
use Rattle.cwr_transform.proofs.select_notes.add_each.Given as goal

abbrev pub invariant-loop-it : goal.invariant-loop-it
invariant-loop-it g l = record {
  within : l.i ≤ length l.further;
  adds : CanPlace l.sought → Adds g.W.Target.contents g.W.Target.failures
      (flat_map (λ f. twice_line l.number (place_at l.sought.starts.items f.count)) (take l.i l.further)) l.initial.pen l.pen;
}

abbrev pub decreases-loop-it : goal.decreases-loop-it
decreases-loop-it g l = length l.further - l.i

use Rattle.std.proofs.Common.{ap₂, Bool, ◌||◌}
use Rattle.cwr_fields.proofs.lemmas.Covers.{is_found}
use Rattle.cwr_fields.specs.Steps.Lanes.{is_low, is_marked}
use Rattle.cwr_fields.proofs.lanes.SeenLanes.has_control.Goals as goal

pub returns : goal.returns
returns c =
    ap₂ (λ (a b : Bool). a || b) (is_found is_low c.args.self.least c.has_low.result c.has_low.ensures)
    (is_found is_marked c.args.self.deleted c.has_mark.result c.has_mark.ensures)

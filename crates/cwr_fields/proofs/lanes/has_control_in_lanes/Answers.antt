use Rattle.std.proofs.Common.{take, drop, ◌||◌, eqb}
use Rattle.std.proofs.Math.Dec.{ltb}
use Rattle.cwr_fields.proofs.lemmas.ClearLanes.{both}
use Rattle.cwr_fields.proofs.lemmas.Covers.{is_found}
use Rattle.cwr_fields.proofs.lanes.has_control_in_lanes.Goals as goal

pub returns : goal.returns
returns c =
    is_found (λ b. ltb b 32 || eqb b 127) (take 32 (drop c.args.at c.args.text.now)) (c.has_low.result || c.has_deleted.result)
    (both (λ b. ltb b 32) (λ b. eqb b 127) _ _ _ c.has_low.ensures c.has_deleted.ensures)

use Rattle.std.proofs.Common.{w8, lit≤}
use Rattle.std.proofs.Math.Dec.{ltb}
use Rattle.std.proofs.lemmas.Simd.{bitmask_splat}
use Rattle.cwr_fields.proofs.lemmas.ClearLanes.{clears}
use Rattle.cwr_fields.proofs.lanes.has_low.Goals as goal

pub returns : goal.returns
returns c = clears (λ b. ltb b 32) c.args.lanes _ (bitmask_splat w8 ltb c.args.lanes 32 32 c.fits-lanes.0 (lit≤ tt))

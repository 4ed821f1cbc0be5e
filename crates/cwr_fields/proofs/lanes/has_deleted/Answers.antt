use Rattle.std.proofs.Common.{w8, eqb, lit≤}
use Rattle.std.proofs.lemmas.Simd.{bitmask_splat}
use Rattle.cwr_fields.proofs.lemmas.ClearLanes.{clears}
use Rattle.cwr_fields.proofs.lanes.has_deleted.Goals as goal

pub returns : goal.returns
returns c = clears (λ b. eqb b 127) c.args.lanes _ (bitmask_splat w8 eqb c.args.lanes 32 127 c.fits-lanes.0 (lit≤ tt))

use Rattle.std.proofs.Common.{◌∙◌, sym}
use Rattle.cwr_fields.proofs.lemmas.SeenInLanes.{seen_in_greater}
use Rattle.cwr_fields.proofs.lanes.greater.Goals as goal

pub returns : goal.returns
returns c = seen_in_greater c.args.a c.args.b (c.fits-a.0 ∙ sym c.fits-b.0)

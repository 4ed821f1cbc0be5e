use Rattle.cwr_fields.proofs.lemmas.SeenInLanes.{none_marked}
use Rattle.cwr_fields.proofs.lanes.has_mark.Goals as goal

pub returns : goal.returns
returns c = none_marked c.args.lanes c.fits-lanes.0

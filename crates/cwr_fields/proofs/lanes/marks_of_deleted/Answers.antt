use Rattle.cwr_fields.proofs.lemmas.SeenInLanes.{marked}
use Rattle.cwr_fields.proofs.lanes.marks_of_deleted.Goals as goal

pub returns : goal.returns
returns c = marked c.args.lanes 127 c.fits-lanes.0

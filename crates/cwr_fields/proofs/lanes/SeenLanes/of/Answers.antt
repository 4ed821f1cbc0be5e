use Rattle.std.proofs.Common.{take, drop}
use Rattle.std.specs.List.{list_any}
use Rattle.cwr_fields.specs.Steps.Lanes.{is_marked}
use Rattle.cwr_fields.proofs.lemmas.SeenInLanes.{seen_of}
use Rattle.cwr_fields.proofs.lanes.SeenLanes.of.Goals as goal

pub returns : goal.returns
returns c = seen_of (take 32 (drop c.args.at c.args.text.now)) (list_any is_marked c.marks_of_deleted.result) c.marks_of_deleted.ensures

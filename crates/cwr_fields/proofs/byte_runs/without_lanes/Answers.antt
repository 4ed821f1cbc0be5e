use Rattle.std.proofs.Common.{◌∙◌}
use Rattle.cwr_fields.proofs.lemmas.Trims.{trimmed-many}
use Rattle.cwr_fields.proofs.byte_runs.without_lanes.Goals as goal

pub loop-front-preserved : goal.loop-front-preserved
loop-front-preserved c =
    trimmed-many 32 c.loop-front.rest.now c.in-Some.front.now c.in-Some.last.now c.in-Some.ensures.cases.0
    c.in-Some.ensures.cases.1 (c.are_lanes_of_spaces.ensures c.if-not-are_lanes_of_spaces.false)
    ∙ c.loop-front.invariant

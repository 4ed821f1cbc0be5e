use Rattle.std.proofs.lemmas.Bool.{and_parts}
use Rattle.cwr_json.proofs.lemmas.Spelled.{simple_more, simple_none}
use Rattle.cwr_json.proofs.spelling.is_simple.Goals as goal

pub loop-b-init : goal.loop-b-init
loop-b-init c h = simple_none

pub loop-b-preserved : goal.loop-b-preserved
loop-b-preserved c h =
    let p = and_parts _ _ h in
    simple_more c.args.cell.now c.loop-b.b-index c.loop-b-test.true (c.loop-b.invariant p.0) (c.is_simple_byte-simple.ensures p.1)

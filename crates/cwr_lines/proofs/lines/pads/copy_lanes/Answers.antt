use Rattle.std.proofs.Common.{◌≡◌, ◌+◌, length, take, drop, arith}
use Rattle.std.proofs.lemmas.Simd.{length-chunk, take_more_put_chunk}
use Rattle.cwr_lines.proofs.lines.pads.copy_lanes.Goals as goal

pub returns-clause-copied : goal.returns-clause-copied
returns-clause-copied c =
    let v = take 32 (drop c.args.at c.args.piece.now) in
    let long : length v ≡ 32 = length-chunk c.args.at 32 c.args.piece.now c.requires.seen in
    take_more_put_chunk c.args.at c.args.text.now v (c.args.at + 32) (omega (arith, long)) c.requires.room

use Rattle.std.proofs.Common.{◌≡◌, ◌<◌, ◌-◌, get_or, length, arith}
use Rattle.cwr_fields.proofs.lemmas.Weights.{weight-more, weight_at_most}
use Rattle.cwr_fields.proofs.iswc.weighted_sum.Goals as goal

pub loop-at-preserved : goal.loop-at-preserved
loop-at-preserved c =
    let inside : c.loop-at.at < length c.args.digits.now = omega arith in
    let few : c.loop-at.at < 10 = omega arith in
    let step = weight-more c.loop-at.at c.args.digits.now few inside in
    let most = weight_at_most c.loop-at.at c.args.digits.now c.requires.digits few inside in
    let value : c.from.result ≡ get_or c.args.digits.now c.loop-at.at 0 - 48 = c.from.ensures in
    rw value (record { few = omega arith; weighted_sum = omega (arith, step); small = omega (arith, most) })

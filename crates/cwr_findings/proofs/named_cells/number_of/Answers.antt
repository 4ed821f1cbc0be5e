use Rattle.std.proofs.Common.{◌≤◌, ◌^◌, ◌<◌, arith, lit<}
use Rattle.std.proofs.Math.Nat.{pow-le-pow_right}
use Rattle.cwr_findings.proofs.named_cells.number_of.Goals as goal

pub returns-clause-small : goal.returns-clause-small
returns-clause-small c =
    let few : c.loop-byte.byte-index ≤ 8 = omega arith in
    let ten : 0 < 10 = lit< tt in
    let within : 10 ^ c.loop-byte.byte-index ≤ 10 ^ 8 = pow-le-pow_right ten few in
    omega (arith, within)

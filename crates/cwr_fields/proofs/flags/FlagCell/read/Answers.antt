use Rattle.std.proofs.Common.{rules, ◌≡◌, refl, length, arith}
use Rattle.cwr_fields.proofs.lemmas.DigitsWritten.{one_byte}
use Rattle.cwr_fields.proofs.flags.FlagCell.read.Goals as goal

pub returns-in-U-clause-some : goal.returns-in-U-clause-some
returns-in-U-clause-some c =
    let wide : length c.args.cell.now ≡ 1 = omega arith in
    (λ t. (wide, (2, (omega arith, one_byte c.args.cell.now 85 wide (search rules)))), λ h. refl)

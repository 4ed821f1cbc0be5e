use Rattle.std.proofs.Common.{◌≤◌, ◌-◌, ◌≡◌, length, arith}
use Rattle.cwr_lines.proofs.lemmas.FilledTexts.{filled_already, filled_by_extending}
use Rattle.cwr_lines.proofs.lines.fill_up.Goals as goal

pub returns-then-width-len : goal.returns-then-width-len
returns-then-width-len g c =
    filled_already c.args.width c.args.text.now.items (omega (arith, c.if-width-len.true, c.len.ensures.value))

pub returns : goal.returns
returns g c =
    let len : length c.args.text.now.items ≤ g.row.N = omega (arith, c.len.ensures.value, c.len.ensures.fits) in
    let missing : c.saturating_sub-missing.result ≡ c.args.width - length c.args.text.now.items =
    omega (arith, c.len-2.ensures.value, c.saturating_sub-missing.ensures) in
    filled_by_extending c.try_extend_from_slice-fits.result 1024 g.row.N c.args.width c.saturating_sub-missing.result
    c.args.text.now.items c.try_extend_from_slice-fits.new.self.items
    c.requires.most c.requires.fits len missing c.try_extend_from_slice-fits.ensures.variant.1
    c.try_extend_from_slice-fits.ensures.ok

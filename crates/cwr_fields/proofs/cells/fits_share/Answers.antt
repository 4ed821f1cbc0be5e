use Rattle.std.proofs.Common.{◌≡◌, false, sym, ◌∙◌, inl, arith}
use Rattle.std.proofs.lemmas.Grind.{common_steps}
use Rattle.cwr_fields.specs.Format.Bytes.{is_spaces}
use Rattle.cwr_fields.proofs.lemmas.Blanks.{blank}
use Rattle.cwr_fields.proofs.lemmas.DigitsWritten.{share_or}
use Rattle.cwr_fields.proofs.cells.fits_share.Goals as goal

pub returns-then-is_spaces-clause-ok : goal.returns-then-is_spaces-clause-ok
returns-then-is_spaces-clause-ok c = inl (blank 5 c.args.cell.now c.requires (sym c.is_spaces.ensures ∙ c.if-is_spaces.true))

pub returns-in-None-clause-err : goal.returns-in-None-clause-err
returns-in-None-clause-err c =
    let filled : is_spaces c.args.cell.now ≡ false = sym c.is_spaces.ensures ∙ c.if-is_spaces.false in
    grind (arith, common_steps, share_or c.args.cell.now c.requires filled)

pub returns-in-Some-clause-ok : goal.returns-in-Some-clause-ok
returns-in-Some-clause-ok c =
    let filled : is_spaces c.args.cell.now ≡ false = sym c.is_spaces.ensures ∙ c.if-is_spaces.false in
    grind (arith, common_steps, share_or c.args.cell.now c.requires filled)

pub returns-in-Some-clause-err : goal.returns-in-Some-clause-err
returns-in-Some-clause-err c =
    let filled : is_spaces c.args.cell.now ≡ false = sym c.is_spaces.ensures ∙ c.if-is_spaces.false in
    grind (arith, common_steps, share_or c.args.cell.now c.requires filled)

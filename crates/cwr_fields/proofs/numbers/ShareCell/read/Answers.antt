use Rattle.std.proofs.Common.{◌≡◌, false, sym, ap, ◌∙◌, inl, refl, arith}
use Rattle.std.proofs.lemmas.Grind.{common_steps}
use Rattle.cwr_fields.specs.Format.Bytes.{is_spaces}
use Rattle.cwr_fields.specs.Format.ShareLaws.{share_text}
use Rattle.cwr_fields.proofs.lemmas.Blanks.{blank}
use Rattle.cwr_fields.proofs.lemmas.DigitsWritten.{share_or, number_back}
use Rattle.cwr_fields.proofs.numbers.ShareCell.read.Goals as goal

pub returns-then-is_spaces-clause-some : goal.returns-then-is_spaces-clause-some
returns-then-is_spaces-clause-some c = (
  λ t. (
    c.if-cell-ne5.false,
    inl (blank 5 c.args.cell.now c.if-cell-ne5.false (sym c.is_spaces.ensures ∙ c.if-is_spaces.true)),
  ),
  λ h. refl,
)

pub returns-then-is_spaces-clause-value : goal.returns-then-is_spaces-clause-value
returns-then-is_spaces-clause-value c =
    ap share_text c.blank.ensures
    ∙ sym (blank 5 c.args.cell.now c.if-cell-ne5.false (sym c.is_spaces.ensures ∙ c.if-is_spaces.true))

pub returns-in_err-number_in-clause-some : goal.returns-in_err-number_in-clause-some
returns-in_err-number_in-clause-some c =
    let filled : is_spaces c.args.cell.now ≡ false = sym c.is_spaces.ensures ∙ c.if-is_spaces.false in
    grind (arith, common_steps, share_or c.args.cell.now c.if-cell-ne5.false filled)

pub returns-clause-some : goal.returns-clause-some
returns-clause-some c =
    let filled : is_spaces c.args.cell.now ≡ false = sym c.is_spaces.ensures ∙ c.if-is_spaces.false in
    grind (arith, common_steps, share_or c.args.cell.now c.if-cell-ne5.false filled)

pub returns-clause-value : goal.returns-clause-value
returns-clause-value c = grind (arith, common_steps, number_back 5 c.args.cell.now c.if-cell-ne5.false)

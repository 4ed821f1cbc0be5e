use Rattle.std.proofs.Common.{◌≡◌, false, sym, ◌∙◌, inl, refl, arith}
use Rattle.std.proofs.lemmas.Grind.{common_steps}
use Rattle.cwr_fields.specs.Format.Bytes.{is_spaces}
use Rattle.cwr_fields.proofs.lemmas.Blanks.{blank}
use Rattle.cwr_fields.proofs.lemmas.Spellings.{time_spelled}
use Rattle.cwr_fields.proofs.lemmas.DigitsWritten.{duration_or, three_back}
use Rattle.cwr_fields.proofs.durations.DurationCellCell.read.Goals as goal

pub returns-then-is_spaces-clause-some : goal.returns-then-is_spaces-clause-some
returns-then-is_spaces-clause-some c = (
  λ t. (
    c.if-cell-ne6.false,
    inl (blank 6 c.args.cell.now c.if-cell-ne6.false (sym c.is_spaces.ensures ∙ c.if-is_spaces.true)),
  ),
  λ h. refl,
)

pub returns-then-is_spaces-clause-value : goal.returns-then-is_spaces-clause-value
returns-then-is_spaces-clause-value c =
    sym (blank 6 c.args.cell.now c.if-cell-ne6.false (sym c.is_spaces.ensures ∙ c.if-is_spaces.true))

pub returns-in_err-hours-clause-some : goal.returns-in_err-hours-clause-some
returns-in_err-hours-clause-some c =
    let filled : is_spaces c.args.cell.now ≡ false = sym c.is_spaces.ensures ∙ c.if-is_spaces.false in
    grind (
      arith,
      common_steps,
      duration_or c.args.cell.now filled,
      time_spelled 100 c.args.cell.now (omega arith) c.if-cell-ne6.false,
    )

pub returns-in_err-time-clause-some : goal.returns-in_err-time-clause-some
returns-in_err-time-clause-some c =
    let filled : is_spaces c.args.cell.now ≡ false = sym c.is_spaces.ensures ∙ c.if-is_spaces.false in
    grind (
      arith,
      common_steps,
      duration_or c.args.cell.now filled,
      time_spelled 100 c.args.cell.now (omega arith) c.if-cell-ne6.false,
    )

pub returns-clause-some : goal.returns-clause-some
returns-clause-some c =
    let filled : is_spaces c.args.cell.now ≡ false = sym c.is_spaces.ensures ∙ c.if-is_spaces.false in
    grind (
      arith,
      common_steps,
      duration_or c.args.cell.now filled,
      time_spelled 100 c.args.cell.now (omega arith) c.if-cell-ne6.false,
    )

pub returns-clause-value : goal.returns-clause-value
returns-clause-value c = grind (arith, common_steps, three_back 2 c.args.cell.now c.if-cell-ne6.false)

use Rattle.std.proofs.Common.{sym, ◌∙◌}
use Rattle.cwr_findings.proofs.lemmas.HeaderCells.{no_title, short_title_of_answer, short_title_of_header, title_of_answer}
use Rattle.cwr_findings.proofs.lemmas.HeaderCells.{title_of_header}
use Rattle.cwr_findings.proofs.headers.work_title.Goals as goal

pub returns-then-is_work-clause-value : goal.returns-then-is_work-clause-value
returns-then-is_work-clause-value c =
    title_of_header c.args.head.now c.cell.result.now c.cell.ensures.value c.cell.ensures.fits
    (sym c.is_work.ensures ∙ c.if-is_work.true)

pub returns-then-is_work-clause-short : goal.returns-then-is_work-clause-short
returns-then-is_work-clause-short c =
    short_title_of_header c.args.head.now c.cell.result.now c.cell.ensures.value c.cell.ensures.fits
    (sym c.is_work.ensures ∙ c.if-is_work.true)

pub returns-then-is_of-clause-value : goal.returns-then-is_of-clause-value
returns-then-is_of-clause-value c =
    title_of_answer c.args.head.now c.cell-then-is_of.result.now c.cell-then-is_of.ensures.value c.cell-then-is_of.ensures.fits
    (sym c.is_work.ensures ∙ c.if-is_work.false) (sym c.is_of.ensures ∙ c.if-is_of.true)

pub returns-then-is_of-clause-short : goal.returns-then-is_of-clause-short
returns-then-is_of-clause-short c =
    short_title_of_answer c.args.head.now c.cell-then-is_of.result.now c.cell-then-is_of.ensures.value c.cell-then-is_of.ensures.fits
    (sym c.is_of.ensures ∙ c.if-is_of.true)

pub returns-clause-value : goal.returns-clause-value
returns-clause-value c =
    no_title c.args.head.now (sym c.is_work.ensures ∙ c.if-is_work.false) (sym c.is_of.ensures ∙ c.if-is_of.false)

use Rattle.std.proofs.Common.{◌∙◌}
use Rattle.cwr_findings.proofs.lemmas.HeaderTests.{start_is_short, end_is_short, order_of_dates, order_with_end, order_without_end}
use Rattle.cwr_findings.proofs.finding_questions.ends_before_start.Goals as goal

pub number_of-start-requires : goal.number_of-start-requires
number_of-start-requires c =
    start_is_short c.args.header.now c.cell.result.now c.cell.ensures.value c.requires c.cell.ensures.fits

pub number_of-end-requires : goal.number_of-end-requires
number_of-end-requires c =
    end_is_short c.args.header.now c.cell-2.result.now c.cell-2.ensures.value c.requires c.cell-2.ensures.fits

pub returns-then-end-ne0 : goal.returns-then-end-ne0
returns-then-end-ne0 c = order_with_end c.number_of-start.result c.number_of-end.result c.if-end-ne0.true
    ∙ order_of_dates c.args.header.now c.cell.result.now c.cell-2.result.now c.number_of-start.result c.number_of-end.result
    c.cell.ensures.value c.cell-2.ensures.value c.requires c.cell.ensures.fits c.number_of-start.ensures.value
    c.number_of-end.ensures.value

pub returns-else-end-ne0 : goal.returns-else-end-ne0
returns-else-end-ne0 c = order_without_end c.number_of-start.result c.number_of-end.result c.if-end-ne0.false
    ∙ order_of_dates c.args.header.now c.cell.result.now c.cell-2.result.now c.number_of-start.result c.number_of-end.result
    c.cell.ensures.value c.cell-2.ensures.value c.requires c.cell.ensures.fits c.number_of-start.ensures.value
    c.number_of-end.ensures.value

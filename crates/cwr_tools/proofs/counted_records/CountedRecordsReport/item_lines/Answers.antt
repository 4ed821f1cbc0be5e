use Rattle.std.proofs.Common.{◌+◌, refl, rules}
use Rattle.cwr_judge.specs.Format.Items.{item_records}
use Rattle.cwr_tools.specs.Format.Reports.{has_findings, lines_of_counted}
use Rattle.cwr_notes.specs.Format.RecordTexts.{numbered_records}
use Rattle.cwr_tools.proofs.lemmas.LinesOfItems.{records_from}
use Rattle.cwr_tools.proofs.lemmas.ReportSteps.{memory_refused, next_added, next_lines}
use Rattle.cwr_tools.proofs.counted_records.CountedRecordsReport.item_lines.Goals as goal

pub returns-in_err-count_findings-clause-adds : goal.returns-in_err-count_findings-clause-adds
returns-in_err-count_findings-clause-adds g c = λ of given counted e.
    let before = c.args.counts.now.records in
    let text = numbered_records (before + 1) (item_records c.args.item.now) in
    next_lines g.W.Target.contents g.W.Target.failures of lines_of_counted given c.args.item.now text _ c.args.pen.now
    c.args.pen.now e.0 (records_from c.args.counts.now given c.args.item.now before counted refl)
    (memory_refused g.W.Target.contents g.W.Target.failures (has_findings c.args.item.now) text c.from_residual.result
    c.in_err-count_findings.field-0.0 c.args.pen.now c.args.pen.now c.from_residual.ensures.1
    (c.in_err-count_findings.ensures.memory, refl))

pub returns-clause-adds : goal.returns-clause-adds
returns-clause-adds g c = λ of given counted e.
    next_added of lines_of_counted given c.args.item.now e.0
    (records_from c.args.counts.now given c.args.item.now c.from.result counted (search rules)) c.item_lines.ensures

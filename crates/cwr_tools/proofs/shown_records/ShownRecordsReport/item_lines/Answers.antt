use Rattle.std.proofs.Common.{rules}
use Rattle.cwr_tools.specs.Format.Reports.{lines_of_records}
use Rattle.cwr_tools.proofs.lemmas.LinesOfItems.{records_from}
use Rattle.cwr_tools.proofs.lemmas.ReportSteps.{next_added}
use Rattle.cwr_tools.proofs.shown_records.ShownRecordsReport.item_lines.Goals as goal

pub returns-clause-adds : goal.returns-clause-adds
returns-clause-adds g c = λ of given counted e.
    next_added of lines_of_records given c.args.item.now e
    (records_from c.args.counts.now given c.args.item.now c.from.result counted (search rules)) c.item_lines.ensures

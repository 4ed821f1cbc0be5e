use Rattle.cwr_tools.specs.Format.Reports.{lines_of_data}
use Rattle.cwr_tools.proofs.lemmas.LinesOfItems.{noted_more}
use Rattle.cwr_tools.proofs.lemmas.ReportSteps.{next_added}
use Rattle.cwr_tools.proofs.json_lines.DataLinesReport.item_lines.Goals as goal

pub returns-clause-adds : goal.returns-clause-adds
returns-clause-adds g c = λ of given counted e.
    let self = c.args.self.now in
    next_added of (lines_of_data self.encoding self.noted) given c.args.item.now e
    (noted_more self.encoding self.noted c.args.counts.now given c.args.item.now c.notes_at-notes.result counted
    c.notes_at-notes.ensures) c.item_line.ensures

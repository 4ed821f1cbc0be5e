use Rattle.cwr_tables.specs.Format.TableLines.{lines_of_table}
use Rattle.cwr_tables.proofs.lemmas.RowsOfItems.{table_more}
use Rattle.cwr_tools.proofs.lemmas.ReportSteps.{next_added}
use Rattle.cwr_tables.proofs.table_rows.TableRowsReport.item_lines.Goals as goal

pub returns-clause-adds : goal.returns-clause-adds
returns-clause-adds g c = λ of given counted e.
    let self = c.args.self.now in
    next_added of (lines_of_table self.encoding self.table) given c.args.item.now e
    (table_more self.encoding self.table c.args.counts.now given c.args.item.now counted) c.rows_at.ensures

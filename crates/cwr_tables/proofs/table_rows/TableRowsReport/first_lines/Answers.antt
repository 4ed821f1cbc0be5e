use Rattle.cwr_tables.specs.Format.TableLines.{lines_of_table}
use Rattle.cwr_tables.proofs.lemmas.RowsOfItems.{table_none}
use Rattle.cwr_tools.proofs.lemmas.ReportSteps.{first_lines}
use Rattle.cwr_tables.proofs.table_rows.TableRowsReport.first_lines.Goals as goal

pub returns : goal.returns
returns g c = λ of e.
    let self = c.args.self.now in
    first_lines of (lines_of_table self.encoding self.table) e (table_none self.encoding self.table) c.table_heading.ensures

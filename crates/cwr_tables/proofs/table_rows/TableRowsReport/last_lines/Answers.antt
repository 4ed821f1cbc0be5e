use Rattle.cwr_devices.proofs.lemmas.Adding.{adds_nothing}
use Rattle.cwr_tables.specs.Format.TableLines.{lines_of_table}
use Rattle.cwr_tools.proofs.lemmas.ReportSteps.{last_lines}
use Rattle.cwr_tables.proofs.table_rows.TableRowsReport.last_lines.Goals as goal

pub returns : goal.returns
returns g c =
    λ of given e. last_lines of (lines_of_table c.args.self.now.encoding c.args.self.now.table) given _ e adds_nothing

use Rattle.cwr_tools.specs.Format.Reports.{lines_of_records}
use Rattle.cwr_tools.proofs.checking.show.Goals as goal

pub returns : goal.returns
returns g c = record { runs = c.write_report.ensures.runs lines_of_records c.new-lines.ensures.stands }

use Rattle.cwr_tools.specs.Format.Reports.{lines_of_data}
use Rattle.cwr_json.specs.declared.encodings.Encoding.TheVariants.{Latin1}
use Rattle.cwr_calls.proofs.report_texts.data_report.Goals as goal

pub returns-clause-written : goal.returns-clause-written
returns-clause-written c = c.report_of.ensures.written (lines_of_data Latin1 c.args.noted) c.new-data.ensures.stands

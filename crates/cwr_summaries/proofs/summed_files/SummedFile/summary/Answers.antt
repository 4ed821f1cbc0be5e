use Rattle.cwr_summary.proofs.lemmas.Summed.{summed_up}
use Rattle.cwr_summaries.proofs.summed_files.SummedFile.summary.Goals as goal

pub returns-clause-sums : goal.returns-clause-sums
returns-clause-sums c = λ of given e. summed_up given c.args.self.now.summary.numbers c.args.self.now.summary.whole e.1.0

use Rattle.cwr_summaries.proofs.lemmas.Counted.{at_some, on_ok}
use Rattle.cwr_summaries.proofs.summed_files.SummedFile.advise.Goals as goal

pub returns-clause-stands : goal.returns-clause-stands
returns-clause-stands c = λ given counted h.
    let there = at_some _ c.args.self.now.advice c.in-Some.advice c.in-Some.is h in
    on_ok _ _ c.item_lines.result (λ s. (there.0, s)) (c.item_lines.ensures.stands there.0 given counted there.1)

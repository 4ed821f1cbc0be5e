use Rattle.cwr_transform.proofs.lemmas.FoundNumbers.{found_group}
use Rattle.cwr_transform.proofs.sought.SoughtNumbers.open_group.Goals as goal

pub returns-clause-found : goal.returns-clause-found
returns-clause-found c = λ xs places group place h.
    found_group c.args.self.now.listed.now xs places group place c.args.self.now c.keep_count.new.self c.keep_count.ensures.count
    c.keep_count.ensures.firsts c.keep_count.ensures.further c.keep_count.ensures.memory c.keep_count.ensures.starts h

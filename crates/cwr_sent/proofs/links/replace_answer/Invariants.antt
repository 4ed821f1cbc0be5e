use Rattle.cwr_sent.proofs.lemmas.Linked.{Walked}
use Rattle.cwr_sent.proofs.links.replace_answer.Given as goal

abbrev pub invariant-links : goal.invariant-links
invariant-links l = Walked l.files l.t l.new l.fn.links l.links l.found l.at

abbrev pub decreases-links : goal.decreases-links
decreases-links l = l.at

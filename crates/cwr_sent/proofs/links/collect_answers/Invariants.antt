use Rattle.std.proofs.Common.{◌≡◌, drop}
use Rattle.cwr_sent.specs.Steps.Links.{last_first, shown_links}
use Rattle.cwr_sent.proofs.lemmas.Linked.{IsOwnPlace}
use Rattle.cwr_sent.proofs.links.collect_answers.Given as goal

abbrev pub invariant-links : goal.invariant-links
invariant-links l = record {
  place : IsOwnPlace l.links l.t l.at;
  collected : l.into.items ≡ last_first l.t (shown_links (drop l.at l.links));
}

abbrev pub decreases-links : goal.decreases-links
decreases-links l = l.at

use Rattle.std.proofs.Common.{◌≡◌, ◌+◌, ◌-◌}
use Rattle.cwr_calls.proofs.lemmas.ListedFindings.{IsListing}
use Rattle.cwr_calls.proofs.listing.list_items.Given as goal

abbrev pub invariant-items : goal.invariant-items
invariant-items g l = record {
  listing : IsListing l.fn.limits l.reading.decoder (g.R.Source.remaining l.fn.reader) (g.R.Source.remaining l.reading.reader.now)
      l.numbers l.fn.entries l.entries l.at;
  same : l.reading.reader.ghost_name ≡ l.initial.reading.reader.ghost_name;
}

abbrev pub decreases-items : goal.decreases-items
decreases-items g l = 600000000 - (l.numbers.groups + (l.numbers.transactions + l.numbers.records))

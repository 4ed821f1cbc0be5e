use Rattle.std.proofs.Common.{◌≡◌, ◌+◌, ◌-◌, [], true}
use Rattle.cwr_tools.specs.Format.Reports.{ItemLines}
use Rattle.cwr_tools.proofs.lemmas.LastReported.{HoldsRead}
use Rattle.cwr_tools.proofs.lemmas.ReportsOn.{IsReporting}
use Rattle.cwr_tools.proofs.reporting.put_items.Given as goal

abbrev pub invariant-items : goal.invariant-items
invariant-items g l = record {
  reporting : (of : ItemLines) → g.L.Report.stands l.fn.lines of [] → IsReporting of (g.L.Report.stands l.lines of) l.fn.limits
      l.reading.decoder (g.R.Source.remaining l.fn.reader) (g.R.Source.remaining l.reading.reader.now)
      g.W.Target.contents g.W.Target.failures l.counts l.fn.sink l.sink;
  failures : g.R.Source.failures l.reading.reader.now ≡ g.R.Source.failures l.fn.reader;
  last : l.holds_last ≡ true
      → HoldsRead (g.R.Source.remaining l.fn.reader) (g.R.Source.remaining l.reading.reader.now) l.reading.last;
  same : l.reading.reader.ghost_name ≡ l.initial.reading.reader.ghost_name;
}

abbrev pub decreases-items : goal.decreases-items
decreases-items g l = 600000000 - (l.counts.groups + (l.counts.transactions + l.counts.records))

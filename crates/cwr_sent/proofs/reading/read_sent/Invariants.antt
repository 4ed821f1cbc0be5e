use Rattle.std.proofs.Common.{◌≡◌, ◌-◌, List, length}
use Rattle.cwr_values.specs.declared.items.Item.{Item}
use Rattle.cwr_decode.specs.Steps.Runs.{IsReadingOn}
use Rattle.cwr_sent.specs.Steps.SentTables.{filled_after, filled_in}
use Rattle.cwr_sent.proofs.reading.read_sent.Given as goal

abbrev pub invariant-items : goal.invariant-items
invariant-items g l = record {
  given : List Item;
  reading : IsReadingOn l.fn.limits l.reading.decoder (g.R.Source.remaining l.fn.reader)
      (g.R.Source.remaining l.reading.reader.now) given;
  filled : filled_in l.sent ≡ filled_after given;
  counted : l.items ≡ length given;
  failures : g.R.Source.failures l.reading.reader.now ≡ g.R.Source.failures l.fn.reader;
  same : l.reading.reader.ghost_name ≡ l.initial.reading.reader.ghost_name;
}

abbrev pub decreases-items : goal.decreases-items
decreases-items g l = 200000000 - l.items

use Rattle.std.proofs.Common.{◌≡◌, ◌-◌, length}
use Rattle.std.specs.Prelude.{vec_len, vec_capacity}
use Rattle.cwr_fields.specs.Steps.Growth.{IsRoom}
use Rattle.cwr_decode.specs.Steps.Runs.{IsReadingOn}
use Rattle.cwr_decode.proofs.whole.read_items.Given as goal

abbrev pub invariant-items : goal.invariant-items
invariant-items g l = record {
  reading : IsReadingOn l.fn.limits l.reading.decoder (g.R.Source.remaining l.fn.reader)
      (g.R.Source.remaining l.reading.reader.now) l.items.items;
  failures : g.R.Source.failures l.reading.reader.now ≡ g.R.Source.failures l.fn.reader;
  same : l.reading.reader.ghost_name ≡ l.initial.reading.reader.ghost_name;
  room : IsRoom 16 l.room (vec_len l.items) (vec_capacity l.items);
}

abbrev pub decreases-items : goal.decreases-items
decreases-items g l = 200000000 - length l.items.items

use Rattle.std.proofs.Common.{◌≡◌, ◌-◌}
use Rattle.cwr_tools.specs.Format.Viewing.{SeesItems}
use Rattle.cwr_select.proofs.lemmas.SelectingOn.{IsSelecting}
use Rattle.cwr_select.proofs.selection.select_items.Given as goal

abbrev pub invariant-items : goal.invariant-items
invariant-items g l = record {
  selecting : IsSelecting l.fn.limits l.changes (g.C.Chooses.choice l.choice) l.reading.decoder (g.R.Source.remaining l.fn.reader)
      (g.R.Source.remaining l.reading.reader.now) g.W.Target.contents g.W.Target.failures l.handed_out l.fn.selecting l.selecting;
  seen : (first : g.row.V.Denot) → SeesItems (g.V.SelectViewer.has_seen first) l.fn.viewer l.viewer selecting.given;
  failures : g.R.Source.failures l.reading.reader.now ≡ g.R.Source.failures l.fn.reader;
  same : l.reading.reader.ghost_name ≡ l.initial.reading.reader.ghost_name;
}

abbrev pub decreases-items : goal.decreases-items
decreases-items g l = 200000000 - l.handed_out

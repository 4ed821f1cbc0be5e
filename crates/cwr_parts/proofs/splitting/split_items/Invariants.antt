use Rattle.std.proofs.Common.{◌≡◌, ◌-◌, ℕ, List, Some}
use Rattle.cwr_parts.specs.Steps.SplitOutputs.{told_by}
use Rattle.cwr_parts.specs.Steps.SplitSteps.{KeepsLent}
use Rattle.cwr_parts.specs.Steps.SplitWriters.{BeganOpen}
use Rattle.cwr_parts.proofs.lemmas.SplittingOn.{IsSplitting}
use Rattle.cwr_tools.specs.Format.Viewing.{SeesItems}
use Rattle.cwr_parts.proofs.splitting.split_items.Given as goal

abbrev pub invariant-items : goal.invariant-items
invariant-items g l = record {
  splitting : IsSplitting l.fn.limits l.fn.splitting.size l.reading.decoder (g.R.Source.remaining l.fn.reader)
      (g.R.Source.remaining l.reading.reader.now)
      (told_by g.O.Outputs.texts g.O.Outputs.failures g.O.Outputs.given_up g.O.W.Target.contents g.O.W.Target.failures)
      l.handed_out l.fn.outputs l.splitting l.outputs;
  seen : SeesItems g.V.Viewer.has_seen l.fn.viewer l.viewer splitting.given;
  lent : KeepsLent (g.O.Outputs.lent l.fn.outputs) l.fn.splitting.output (g.O.Outputs.lent l.outputs) l.splitting.output;
  began : (known : List (List ℕ)) → g.O.Outputs.texts l.fn.outputs ≡ Some known
      → BeganOpen g.O.W.Target.contents l.fn.splitting.output → BeganOpen g.O.W.Target.contents l.splitting.output;
  failures : g.R.Source.failures l.reading.reader.now ≡ g.R.Source.failures l.fn.reader;
  same : l.reading.reader.ghost_name ≡ l.initial.reading.reader.ghost_name;
}

abbrev pub decreases-items : goal.decreases-items
decreases-items g l = 200000000 - l.handed_out

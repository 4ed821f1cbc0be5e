use Rattle.std.proofs.Common.{◌≡◌, List, None, map, take}
use Rattle.cwr_reports.specs.Format.Endings.{IsWorstOf}
use Rattle.cwr_reports.specs.Steps.Several.{IsFirst}
use Rattle.cwr_answers.specs.Format.Endings.{wanted_of}
use Rattle.cwr_summaries.specs.Format.Rows.{SummedInput}
use Rattle.cwr_summaries.specs.Steps.Rows.{AreInputs}
use Rattle.cwr_summaries.proofs.summaries.summarize_each.Given as goal

abbrev pub invariant-loop-name : goal.invariant-loop-name
invariant-loop-name g l = record {
  kept : g.S.Store.held l.store ≡ g.S.Store.held l.initial.store;
  first : IsFirst g.I.Read.remaining l.standard (g.I.Read.remaining l.fn.standard);
  worst : IsWorstOf None l.summing.limits (wanted_of l.summing.whole) (g.S.Store.held l.initial.store) (g.I.Read.remaining l.fn.standard)
      (take l.name-index (map (λ n. n.now) l.names)) l.totals.sums.status;
  output : g.W.Target.failures l.lines ≡ g.W.Target.failures l.fn.lines;
  told : (inputs : List SummedInput) × AreInputs l.summing.form l.summing.limits l.summing.digests l.summing.whole l.summing.quiet
      (g.S.Store.held l.initial.store) (g.I.Read.remaining l.fn.standard) (take l.name-index (map (λ n. n.now) l.names))
      g.W.Target.contents l.fn.lines l.lines (g.S.Store.failures l.initial.store) (g.S.Store.failures l.store) l.totals inputs;
}

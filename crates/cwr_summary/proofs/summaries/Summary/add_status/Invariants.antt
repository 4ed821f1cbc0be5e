use Rattle.std.proofs.Common.{◌≡◌, take}
use Rattle.std.specs.Prelude.{flat_map}
use Rattle.cwr_values.specs.declared.items.Item.TheVariants as items
use Rattle.cwr_summary.specs.Format.Summaries.{status_part}
use Rattle.cwr_summary.specs.Steps.Counted.{counted}
use Rattle.cwr_summary.proofs.summaries.Summary.add_status.Given as goal

abbrev pub invariant-loop-status : goal.invariant-loop-status
invariant-loop-status l =
    l.self.numbers
    ≡ counted l.fn.self.numbers (flat_map (λ p. status_part (items.Transaction l.transaction) p.0) (take l.status-index l.status-items))

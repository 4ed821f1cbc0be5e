use Rattle.std.proofs.Common.{◌∙◌, Bool, List, sym, subst}
use Rattle.std.specs.Prelude.{OnOk}
use Rattle.cwr_summaries.specs.Format.Rows.{SummedInput}
use Rattle.cwr_summaries.specs.Steps.Rows.{AreTotals, WritesSums}
use Rattle.cwr_summaries.proofs.summaries.end_rows.Goals as goal

pub returns-then-tells_sums-clause-puts : goal.returns-then-tells_sums-clause-puts
returns-then-tells_sums-clause-puts g c =
    subst (λ (b : Bool). OnOk c.write_sums.result.1 ((inputs : List SummedInput) → AreTotals c.args.totals.now inputs
    → WritesSums g.W.Target.contents c.args.summing.now.form b c.args.files inputs c.args.lines c.write_sums.result.0))
    (sym c.if-tells_sums.true ∙ c.tells_sums.ensures) c.write_sums.ensures.puts

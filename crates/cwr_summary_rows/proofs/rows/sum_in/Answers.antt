use Rattle.std.proofs.Common.{List, ℕ, ap, ◌∙◌, arith}
use Rattle.std.specs.Prelude.{slice_index}
use Rattle.std.proofs.lemmas.List.{take_all}
use Rattle.cwr_summary.specs.declared.columns.Column.{Column}
use Rattle.cwr_summary.specs.Format.Columns.{place}
use Rattle.cwr_summary_rows.specs.Format.Rows.{sum_in}
use Rattle.cwr_summary_rows.proofs.lemmas.Parts.{next_sum}
use Rattle.cwr_summary_rows.proofs.rows.sum_in.Goals as goal

pub loop-i-preserved : goal.loop-i-preserved
loop-i-preserved c =
    let numbers : List ℕ = c.args.summary.now.numbers in
    omega (
      arith,
      c.loop-i.invariant,
      next_sum (λ (column : Column). slice_index numbers (place column)) c.args.columns.now c.loop-i.i _
          c.number.result c.loop-i-test.true c.number.ensures,
    )

pub returns : goal.returns
returns c =
    c.loop-i.invariant
    ∙ ap (λ (l : List Column). sum_in l c.args.summary.now.numbers) (take_all c.loop-i.i c.args.columns.now (omega (arith, c.loop-i-test.false)))

use Rattle.std.proofs.Common.{◌∙◌, ℕ, None, Some, ap, length, List, map, refl}
use Rattle.cwr_summary_rows.specs.Format.Rows.{RowValue, row_text}
use Rattle.cwr_summary_rows.specs.Format.Shown.{cells_of}
use Rattle.cwr_summaries.specs.Format.Rows.{unended, verdict_of}
use Rattle.cwr_summaries.proofs.lemmas.Counted.{on_ok}
use Rattle.cwr_summaries.proofs.lemmas.Totals.{sums_row}
use Rattle.cwr_summaries.proofs.lemmas.Written.{output_out, told_out}
use Rattle.cwr_summaries.proofs.summaries.write_sums.Goals as goal

pub returns-clause-puts : goal.returns-clause-puts
returns-clause-puts g c =
    let totals = c.args.totals.now in
    let row : RowValue = record {
      file = None;
      bytes = Some totals.bytes;
      after = Some totals.after;
      digest = None;
      canonical = None;
      verdict = c.unended.result.now;
      header = cells_of c.none.result;
      numbers = Some totals.summary.numbers;
      advice = c.if-summing.row;
      senders = Some (length c.as_slice.result.now);
    } in
    on_ok _ _ c.write_row.result.1
    (λ h inputs are. (
      row_text c.args.summing.now.form row,
      (
        row,
        sums_row c.args.files totals inputs row are refl refl refl refl refl
            (c.unended.ensures ∙ ap unended (c.as_bytes.ensures.value ∙ c.in-Ok.ensures (map verdict_of inputs) are.sums)) c.none.ensures refl
            (ap (λ (l : List (List ℕ)). Some (length l)) c.as_slice.ensures.value),
        refl,
      ),
      h,
    ))
    (told_out g.W.Target.contents g.W.Target.failures _ c.write_row.result.1 c.args.lines c.write_row.result.0 c.write_row.ensures.puts)

pub returns-clause-output : goal.returns-clause-output
returns-clause-output g c =
    output_out g.W.Target.contents g.W.Target.failures _ c.write_row.result.1 c.args.lines c.write_row.result.0 c.write_row.ensures.stopped
    c.write_row.ensures.puts

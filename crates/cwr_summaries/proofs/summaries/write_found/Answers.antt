use Rattle.std.proofs.Common.{List, ℕ, ap, subst}
use Rattle.std.specs.Io.KnownBytes.{Appends}
use Rattle.cwr_summary_rows.specs.Format.Rows.{row_text}
use Rattle.cwr_summary_rows.specs.Format.Shown.{row_value}
use Rattle.cwr_summaries.proofs.lemmas.Counted.{on_ok, untold}
use Rattle.cwr_summaries.proofs.lemmas.Written.{output_out, told_out}
use Rattle.cwr_summaries.proofs.summaries.write_found.Goals as goal

pub returns-in-Ok-clause-untold : goal.returns-in-Ok-clause-untold
returns-in-Ok-clause-untold g c = untold c.write_row.result.1 c.write_row.ensures.stopped

pub returns-in-Ok-clause-puts : goal.returns-in-Ok-clause-puts
returns-in-Ok-clause-puts g c =
    let form = c.args.summing.now.form in
    on_ok _ _ c.write_row.result.1
    (λ h. (
      c.row_of.result.advice,
      subst (λ (text : List ℕ). Appends (g.W.Target.contents c.args.lines) (g.W.Target.contents c.write_row.result.0) text)
          (ap (row_text form) c.row_of.ensures) h,
    ))
    (told_out g.W.Target.contents g.W.Target.failures (row_text form (row_value c.row_of.result)) c.write_row.result.1 c.args.lines
    c.write_row.result.0 c.write_row.ensures.puts)

pub returns-in-Ok-clause-output : goal.returns-in-Ok-clause-output
returns-in-Ok-clause-output g c =
    output_out g.W.Target.contents g.W.Target.failures (row_text c.args.summing.now.form (row_value c.row_of.result)) c.write_row.result.1
    c.args.lines c.write_row.result.0 c.write_row.ensures.stopped c.write_row.ensures.puts

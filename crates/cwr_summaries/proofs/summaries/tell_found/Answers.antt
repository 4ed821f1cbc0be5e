use Rattle.std.proofs.Common.{◌∙◌, List, ℕ, ap, subst}
use Rattle.std.specs.Io.KnownBytes.{Appends}
use Rattle.cwr_summaries.specs.Format.Rows.{name_in}
use Rattle.cwr_summaries.specs.Steps.Rows.{input_of, row_of}
use Rattle.cwr_summaries.proofs.lemmas.Counted.{on_ok}
use Rattle.cwr_summaries.proofs.lemmas.Written.{one_row}
use Rattle.cwr_summaries.proofs.summaries.tell_found.Goals as goal

pub returns-in-Ok-clause-puts : goal.returns-in-Ok-clause-puts
returns-in-Ok-clause-puts g c =
    let form = c.args.summing.now.form in
    let found = c.args.found.now in
    let name = name_in form c.args.word.now in
    on_ok _ _ c.write_found.result.1
    (λ h. (
      h.0,
      subst (λ (text : List ℕ). Appends (g.W.Target.contents c.args.lines) (g.W.Target.contents c.write_found.result.0) text)
          (one_row form c.args.summing.now.quiet (input_of name h.0 found) (row_of c.as_slice.result.now h.0 found) c.if-summing.false
          (ap (λ (n : List ℕ). row_of n h.0 found) (c.as_slice.ensures.value ∙ c.in-Ok.ensures))) h.1,
    )) c.write_found.ensures.puts

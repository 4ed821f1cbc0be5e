use Rattle.std.proofs.Common.{[], ◌++◌, sym, ap, ◌∙◌}
use Rattle.cwr_lines.specs.Format.Records.{row_of}
use Rattle.cwr_values.specs.Format.Rows.{canonical_line, trailer}
use Rattle.cwr_encode.specs.Steps.GroupTexts.{text_of_groups}
use Rattle.cwr_encode.proofs.lemmas.Numbered.{puts_both, puts_cut, puts_as}
use Rattle.cwr_encode.proofs.lemmas.WholeTexts.{text-parts, last_line}
use Rattle.cwr_encode.proofs.lemmas.WholeWrites.{line_of_three}
use Rattle.cwr_encode.proofs.whole.put_transmission.Goals as goal

pub returns-in_err-put_row-clause-puts : goal.returns-in_err-put_row-clause-puts
returns-in_err-put_row-clause-puts g c =
    puts_as g.W.Target.contents g.W.Target.failures _ _ _ _ _ (sym (text-parts c.args.transmission.now))
    (puts_cut g.W.Target.contents g.W.Target.failures (canonical_line (row_of [] c.args.transmission.now.opening))
    (text_of_groups c.args.transmission.now.groups ++ last_line c.args.transmission.now)
    c.args.sink.now c.put_row.new.sink c.in_err-put_row.field-0.0 c.from_residual.result c.from_residual.ensures.0
    (puts_as g.W.Target.contents g.W.Target.failures _ _ _ _ _
    (ap (λ r. canonical_line (row_of [] r)) (c.view-opening.ensures.value ∙ c.open.ensures.value))
    c.in_err-put_row.ensures.puts))

pub returns-in_err-put_groups-clause-puts : goal.returns-in_err-put_groups-clause-puts
returns-in_err-put_groups-clause-puts g c =
    puts_as g.W.Target.contents g.W.Target.failures _ _ _ _ _ (sym (text-parts c.args.transmission.now))
    (puts_both g.W.Target.contents g.W.Target.failures (canonical_line (row_of [] c.args.transmission.now.opening))
    (text_of_groups c.args.transmission.now.groups ++ last_line c.args.transmission.now)
    c.args.sink.now c.put_row.new.sink c.put_groups.new.sink _ c.from_residual-in_err-put_groups.result
    (puts_as g.W.Target.contents g.W.Target.failures _ _ _ _ _
    (ap (λ r. canonical_line (row_of [] r)) (c.view-opening.ensures.value ∙ c.open.ensures.value))
    c.in_ok-put_row.ensures.puts)
    (puts_cut g.W.Target.contents g.W.Target.failures (text_of_groups c.args.transmission.now.groups)
    (last_line c.args.transmission.now) c.put_row.new.sink c.put_groups.new.sink
    c.in_err-put_groups.field-0.0 c.from_residual-in_err-put_groups.result c.from_residual-in_err-put_groups.ensures.0
    c.in_err-put_groups.ensures.puts))

pub returns-clause-puts : goal.returns-clause-puts
returns-clause-puts g c =
    puts_as g.W.Target.contents g.W.Target.failures _ _ _ _ _ (sym (text-parts c.args.transmission.now))
    (puts_both g.W.Target.contents g.W.Target.failures (canonical_line (row_of [] c.args.transmission.now.opening))
    (text_of_groups c.args.transmission.now.groups ++ last_line c.args.transmission.now)
    c.args.sink.now c.put_row.new.sink c.put_row-2.new.sink _ c.put_row-2.result
    (puts_as g.W.Target.contents g.W.Target.failures _ _ _ _ _
    (ap (λ r. canonical_line (row_of [] r)) (c.view-opening.ensures.value ∙ c.open.ensures.value))
    c.in_ok-put_row.ensures.puts)
    (puts_both g.W.Target.contents g.W.Target.failures (text_of_groups c.args.transmission.now.groups)
    (last_line c.args.transmission.now) c.put_row.new.sink c.put_groups.new.sink c.put_row-2.new.sink _ c.put_row-2.result
    c.in_ok-put_groups.ensures.puts
    (puts_as g.W.Target.contents g.W.Target.failures _ (last_line c.args.transmission.now) _ _ _
    (line_of_three _ _ _ _ _ _ c.view-last.result trailer c.len-groups.ensures.len c.totals-transactions.ensures.transactions
    c.totals-transactions.ensures.records (c.view-last.ensures.value ∙ c.trailer-end.ensures)) c.put_row-2.ensures.puts)))

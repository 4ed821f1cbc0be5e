use Rattle.std.proofs.Common.{[], ◌∷◌, ◌++◌, length, map, ap, ◌∙◌}
use Rattle.cwr_lines.specs.Format.Records.{row_of}
use Rattle.cwr_shape.specs.Format.Numbers.{group_records}
use Rattle.cwr_values.specs.Format.Rows.{canonical_line}
use Rattle.cwr_encode.specs.Steps.GroupTexts.{text_of_transactions}
use Rattle.cwr_encode.proofs.lemmas.Numbered.{puts_both, puts_cut, puts_as}
use Rattle.cwr_encode.proofs.group_rows.put_group.Goals as goal

pub returns-in_err-put_row-clause-puts : goal.returns-in_err-put_row-clause-puts
returns-in_err-put_row-clause-puts g c =
    puts_cut g.W.Target.contents g.W.Target.failures (canonical_line (row_of (c.args.number ∷ []) c.args.group.now.head))
    (text_of_transactions c.args.group.now.transactions ++ canonical_line (row_of
    (c.args.number ∷ length c.args.group.now.transactions ∷ group_records (map length c.args.group.now.transactions) ∷ [])
    c.args.group.now.foot))
    c.args.sink.now c.put_row.new.sink c.in_err-put_row.field-0.0 c.from_residual.result c.from_residual.ensures.0
    (puts_as g.W.Target.contents g.W.Target.failures _ _ _ _ _
    (ap (λ r. canonical_line (row_of (c.args.number ∷ []) r)) (c.view-head.ensures.value ∙ c.head.ensures.value))
    c.in_err-put_row.ensures.puts)

pub returns-in_err-put_transactions-clause-puts : goal.returns-in_err-put_transactions-clause-puts
returns-in_err-put_transactions-clause-puts g c =
    puts_both g.W.Target.contents g.W.Target.failures (canonical_line (row_of (c.args.number ∷ []) c.args.group.now.head)) _
    c.args.sink.now c.put_row.new.sink c.put_transactions.new.sink _ c.from_residual-in_err-put_transactions.result
    (puts_as g.W.Target.contents g.W.Target.failures _ _ _ _ _
    (ap (λ r. canonical_line (row_of (c.args.number ∷ []) r)) (c.view-head.ensures.value ∙ c.head.ensures.value))
    c.in_ok-put_row.ensures.puts)
    (puts_cut g.W.Target.contents g.W.Target.failures (text_of_transactions c.args.group.now.transactions)
    (canonical_line (row_of
    (c.args.number ∷ length c.args.group.now.transactions ∷ group_records (map length c.args.group.now.transactions) ∷ [])
    c.args.group.now.foot))
    c.put_row.new.sink c.put_transactions.new.sink c.in_err-put_transactions.field-0.0
    c.from_residual-in_err-put_transactions.result c.from_residual-in_err-put_transactions.ensures.0
    c.in_err-put_transactions.ensures.puts)

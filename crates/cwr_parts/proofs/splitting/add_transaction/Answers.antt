use Rattle.std.proofs.Common.{ℕ, ◌+◌, sym, ap, ◌∙◌}
use Rattle.cwr_parts.specs.Steps.SplitOutputs.{told_by}
use Rattle.cwr_parts.proofs.lemmas.TransactionsAdded.{filled, may_finish, may_write, went_on}
use Rattle.std.specs.Prelude.{Err, Ok}
use Rattle.cwr_parts.proofs.lemmas.WritersCounted.{open_failed, open_then}
use Rattle.cwr_parts.proofs.splitting.add_transaction.Goals as goal

pub put-requires-clause-may : goal.put-requires-clause-may
put-requires-clause-may g c =
    may_write (told_by g.O.Outputs.texts g.O.Outputs.failures g.O.Outputs.given_up g.O.W.Target.contents g.O.W.Target.failures)
    c.args.transaction.now c.args.splitting.now c.open_output.new.splitting c.args.outputs.now c.open_output.new.outputs
    c.requires.may c.in_ok-open_output.ensures.opens

pub finish_output-requires-clause-may : goal.finish_output-requires-clause-may
finish_output-requires-clause-may g c =
    may_finish (told_by g.O.Outputs.texts g.O.Outputs.failures g.O.Outputs.given_up g.O.W.Target.contents g.O.W.Target.failures)
    c.args.transaction.now c.args.splitting.now c.open_output.new.splitting c.put.new.self c.args.outputs.now
    c.open_output.new.outputs
    c.requires.may c.in_ok-open_output.ensures.opens c.in_ok-put.ensures.writes c.if-is_full.ensures

pub returns-then-is_full-clause-adds : goal.returns-then-is_full-clause-adds
returns-then-is_full-clause-adds g c =
    filled (told_by g.O.Outputs.texts g.O.Outputs.failures g.O.Outputs.given_up g.O.W.Target.contents g.O.W.Target.failures)
    c.args.transaction.now c.args.splitting.now c.open_output.new.splitting c.put.new.self c.finish_output.new.splitting
    c.args.outputs.now
    c.open_output.new.outputs c.finish_output.new.outputs c.finish_output.result c.in_ok-open_output.ensures.opens
    c.in_ok-put.ensures.writes c.if-is_full.ensures c.finish_output.ensures.finishes

pub returns-clause-adds : goal.returns-clause-adds
returns-clause-adds g c =
    went_on (told_by g.O.Outputs.texts g.O.Outputs.failures g.O.Outputs.given_up g.O.W.Target.contents g.O.W.Target.failures)
    c.args.transaction.now c.args.splitting.now c.open_output.new.splitting c.put.new.self c.args.outputs.now
    c.open_output.new.outputs
    c.in_ok-open_output.ensures.opens c.in_ok-put.ensures.writes c.if-is_full.ensures

pub returns-in_err-put-clause-lent : goal.returns-in_err-put-clause-lent
returns-in_err-put-clause-lent g c =
    λ others e. c.in_ok-open_output.ensures.lent others e ∙ ap (λ (k : ℕ). others + k) (sym c.in_err-put.ensures.output)

pub returns-then-is_full-clause-lent : goal.returns-then-is_full-clause-lent
returns-then-is_full-clause-lent g c =
    λ others e. c.finish_output.ensures.lent others
    (c.in_ok-open_output.ensures.lent others e ∙ ap (λ (k : ℕ). others + k) (sym c.in_ok-put.ensures.output))

pub returns-clause-lent : goal.returns-clause-lent
returns-clause-lent g c =
    λ others e. c.in_ok-open_output.ensures.lent others e ∙ ap (λ (k : ℕ). others + k) (sym c.in_ok-put.ensures.output)

pub returns-then-is_full-clause-written : goal.returns-then-is_full-clause-written
returns-then-is_full-clause-written g c = λ known e.
    let contents = g.O.W.Target.contents in
    let had = g.O.Outputs.had c.open_output.new.outputs in
    let put =
    open_then contents tt (Ok tt) c.args.splitting.now.output c.open_output.new.splitting.output c.put.new.self.output had had
    (c.in_ok-open_output.ensures.written known e) (c.in_ok-put.ensures.written had) in
    open_then contents tt c.finish_output.result c.args.splitting.now.output c.put.new.self.output
    c.finish_output.new.splitting.output had (g.O.Outputs.had c.finish_output.new.outputs) put
    (c.finish_output.ensures.written known (c.in_ok-open_output.ensures.opens.quiet.texts ∙ e))

pub returns-clause-written : goal.returns-clause-written
returns-clause-written g c = λ known e.
    let had = g.O.Outputs.had c.open_output.new.outputs in
    open_then g.O.W.Target.contents tt (Ok tt) c.args.splitting.now.output c.open_output.new.splitting.output
    c.put.new.self.output had had (c.in_ok-open_output.ensures.written known e) (c.in_ok-put.ensures.written had)

pub returns-in_err-put-clause-written : goal.returns-in_err-put-clause-written
returns-in_err-put-clause-written g c = λ known e.
    let had = g.O.Outputs.had c.open_output.new.outputs in
    let fault = c.in_err-put.field-0.0 in
    open_failed g.O.W.Target.contents c.args.splitting.now.output c.put.new.self.output had fault
    c.from_residual-in_err-put.result c.from_residual-in_err-put.ensures.1
    (open_then g.O.W.Target.contents tt (Err fault) c.args.splitting.now.output c.open_output.new.splitting.output
    c.put.new.self.output had had (c.in_ok-open_output.ensures.written known e) (c.in_err-put.ensures.written had))

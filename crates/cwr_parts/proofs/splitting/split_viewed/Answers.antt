use Rattle.std.proofs.Common.{rules, ap, arith, sym, subst}
use Rattle.std.specs.Prelude.{Ok, Err}
use Rattle.cwr_parts.specs.declared.splitting.Splitting.{Splitting}
use Rattle.cwr_parts.specs.Steps.SplitSteps.{open_outputs}
use Rattle.cwr_parts.specs.Steps.Splitting.{Splits}
use Rattle.cwr_parts.proofs.lemmas.ToldRuns.{splits_text}
use Rattle.cwr_parts.specs.Steps.SplitWriters.{BeganOpen}
use Rattle.cwr_parts.proofs.lemmas.WritersCounted.{known_is, known_so, known_stopped, told_at_end}
use Rattle.cwr_parts.proofs.splitting.split_viewed.Goals as goal

pub returns-in-Ok-clause-told : goal.returns-in-Ok-clause-told
returns-in-Ok-clause-told g c =
    let splits : Splits c.args.limits c.args.n (g.R.Source.remaining c.args.reader.now)
    (g.R.Source.remaining c.split_items.new.reader) (g.O.Outputs.texts c.args.outputs.now)
    (g.O.Outputs.texts c.split_items.new.outputs) (Ok c.split_items.new.splitting.report)
    = search rules in
    splits_text c.args.limits c.args.n (g.R.Source.remaining c.args.reader.now)
    (g.R.Source.remaining c.split_items.new.reader) (g.O.Outputs.texts c.args.outputs.now)
    (g.O.Outputs.texts c.split_items.new.outputs) (Ok c.split_items.new.splitting.report) splits

pub returns-in-Err-clause-told : goal.returns-in-Err-clause-told
returns-in-Err-clause-told g c =
    let splits : Splits c.args.limits c.args.n (g.R.Source.remaining c.args.reader.now)
    (g.R.Source.remaining c.split_items.new.reader) (g.O.Outputs.texts c.args.outputs.now)
    (g.O.Outputs.texts c.give_up.new.outputs) (Err c.in-Err.fault)
    = search rules in
    splits_text c.args.limits c.args.n (g.R.Source.remaining c.args.reader.now)
    (g.R.Source.remaining c.split_items.new.reader) (g.O.Outputs.texts c.args.outputs.now)
    (g.O.Outputs.texts c.give_up.new.outputs) (Err c.in-Err.fault) splits

pub returns-in-Ok-clause-lent : goal.returns-in-Ok-clause-lent
returns-in-Ok-clause-lent g c =
    let none = ap (λ (s : Splitting g.row.O-W.Denot). open_outputs s.output) c.new-splitting.ensures in
    omega (
      arith,
      c.in-Ok.ensures.lent (g.O.Outputs.lent c.args.outputs.now) (omega (arith, none)),
      ap open_outputs c.in-Ok.ensures.ended,
    )

pub returns-in-Err-clause-lent : goal.returns-in-Err-clause-lent
returns-in-Err-clause-lent g c =
    let none = ap (λ (s : Splitting g.row.O-W.Denot). open_outputs s.output) c.new-splitting.ensures in
    c.give_up.ensures.lent (g.O.Outputs.lent c.args.outputs.now)
    (c.in-Err.ensures.lent (g.O.Outputs.lent c.args.outputs.now) (omega (arith, none)))

pub returns-in-Ok-clause-written : goal.returns-in-Ok-clause-written
returns-in-Ok-clause-written g c = known_so (g.O.Outputs.texts c.args.outputs.now) (λ known e. tt)

pub returns-in-Err-clause-written : goal.returns-in-Err-clause-written
returns-in-Err-clause-written g c = known_so (g.O.Outputs.texts c.args.outputs.now) (λ known e.
    let none : BeganOpen g.O.W.Target.contents c.new-splitting.result.output =
    subst (λ (s : Splitting g.row.O-W.Denot). BeganOpen g.O.W.Target.contents s.output) (sym c.new-splitting.ensures) tt in
    let told = c.in-Err.ensures.written known e none in
    let now =
    known_stopped c.args.limits c.args.n (g.R.Source.remaining c.args.reader.now)
    (g.R.Source.remaining c.split_items.new.reader) (g.O.Outputs.texts c.args.outputs.now)
    (g.O.Outputs.texts c.split_items.new.outputs) known c.in-Err.fault e (search rules) in
    told_at_end g.O.W.Target.contents c.in-Err.fault c.split_items.new.splitting.output
    (g.O.Outputs.had c.split_items.new.outputs) (g.O.Outputs.had c.give_up.new.outputs) told.0 told.1
    (known_is (g.O.Outputs.texts c.split_items.new.outputs) now.0 now.1 c.give_up.ensures.written))

use Rattle.std.proofs.Common.{List, Option, sym, subst}
use Rattle.std.specs.Prelude.{OnOk}
use Rattle.cwr_lines.specs.Format.Records.{RecordValue}
use Rattle.cwr_calls.specs.Steps.Writings.{GoesOn, held_records}
use Rattle.cwr_calls.proofs.writing.end_transaction.Goals as goal

pub returns-in-Some : goal.returns-in-Some
returns-in-Some g c =
    subst (λ (o : Option (List RecordValue)). OnOk c.put_whole.result
    (GoesOn g.W.Target.contents (held_records o) c.args.encoder.now c.put_whole.new.encoder)) (sym
    c.in-Some.is) c.put_whole.ensures

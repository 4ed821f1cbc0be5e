use Rattle.std.proofs.Common.{rules}
use Rattle.cwr_devices.proofs.lemmas.Adding.{puts_added}
use Rattle.cwr_state_rows.proofs.lemmas.PutInTurn.{rows_put}
use Rattle.cwr_state_rows.proofs.putting.put_sent.Goals as goal

pub returns : goal.returns
returns g c =
    rows_put g.W.Target.contents g.W.Target.failures _ c.end.result c.sent_rows-added.result c.put_so.result _ _ c.args.sink.now _
    c.put_so.ensures c.sent_rows-added.ensures (λ it a. puts_added (search rules) (search rules) a (search rules))

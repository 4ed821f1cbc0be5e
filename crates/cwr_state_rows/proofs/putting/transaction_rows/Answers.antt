use Rattle.std.proofs.Common.{[], refl}
use Rattle.cwr_devices.proofs.lemmas.Adding.{adds_nothing}
use Rattle.cwr_state_rows.proofs.lemmas.PutInTurn.{rows_refused}
use Rattle.cwr_state_rows.proofs.putting.transaction_rows.Goals as goal

pub returns-in_err-sort_to : goal.returns-in_err-sort_to
returns-in_err-sort_to g c =
    rows_refused g.W.Target.contents g.W.Target.failures _ c.from_residual.result _ c.args.pen.now c.args.pen.now
    c.from_residual.ensures.1 (record { part = []; rest = _; split = refl; adds = adds_nothing })

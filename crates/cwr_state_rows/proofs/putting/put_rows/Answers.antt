use Rattle.std.specs.Prelude.{map}
use Rattle.cwr_delivery.specs.Steps.Deliveries.{held_in}
use Rattle.cwr_state_rows.specs.Format.RowTexts.{rows_text}
use Rattle.cwr_state_rows.specs.Steps.HeldRows.{held_text}
use Rattle.cwr_state_rows.proofs.lemmas.PutInTurn.{rows_as}
use Rattle.cwr_state_rows.proofs.lemmas.RowsKept.{rows_kept}
use Rattle.cwr_state_rows.proofs.putting.put_rows.Goals as goal

pub returns-clause-told : goal.returns-clause-told
returns-clause-told g c = λ delivered history keeps.
    rows_as g.W.Target.contents g.W.Target.failures
    (held_text c.args.form (map (λ n. n.items) c.args.names.now) (held_in c.args.delivery.now))
    (rows_text c.args.form delivered history.told (map (λ n. n.items) c.args.names.now)) c.args.sink.now
    c.put_delivery.new.sink c.put_delivery.result
    (rows_kept c.args.form (map (λ n. n.items) c.args.names.now) delivered history (held_in c.args.delivery.now) keeps)
    c.put_delivery.ensures

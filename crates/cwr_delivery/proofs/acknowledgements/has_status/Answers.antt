use Rattle.std.proofs.Common.{◌∙◌}
use Rattle.cwr_delivery.specs.Format.Acknowledgements.{is_ack_of}
use Rattle.cwr_delivery.proofs.lemmas.NamedCells.{any_first}
use Rattle.cwr_delivery.proofs.acknowledgements.has_status.Goals as goal

pub returns-in-Some : goal.returns-in-Some
returns-in-Some c =
    c.is_ack_of.ensures ∙ any_first (is_ack_of c.args.status) c.args.transaction.now c.in-Some.head c.in-Some.ensures.value

use Rattle.cwr_delivery.proofs.lemmas.NamedStatus.{names_status, status_named}
use Rattle.cwr_delivery.proofs.acknowledgements.status_of.Goals as goal

pub unreachable-requires : goal.unreachable-requires
unreachable-requires c =
    let h =
    c.in-None.ensures.some.1
    (names_status c.args.shown.now c.cell.result.now c.requires c.cell.ensures.fits c.cell.ensures.value) in cc h

pub returns : goal.returns
returns c =
    status_named c.args.shown.now c.in-Some.status c.cell.result.now c.requires c.cell.ensures.fits c.cell.ensures.value
    c.in-Some.ensures.value

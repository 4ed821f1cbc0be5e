use Rattle.cwr_devices.proofs.lemmas.Adding.{adds_as}
use Rattle.cwr_advise.proofs.lemmas.WorksKept.{told_here}
use Rattle.cwr_advise.proofs.item_advice.work_lines.Goals as goal

pub returns : goal.returns
returns g c =
    adds_as (told_here c.args.limit c.args.counts.now c.args.item.now c.in-Some.header c.after.result c.args.repeated.now
    c.in-Some.ensures c.after.ensures) c.repeated_text.ensures

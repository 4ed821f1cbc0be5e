use Rattle.std.proofs.Common.{ap}
use Rattle.cwr_devices.proofs.lemmas.Adding.{adds_as, adds_both}
use Rattle.cwr_acks.specs.Format.AckLines.{telling_of}
use Rattle.cwr_acks.specs.Steps.AckSteps.{ack_in, after_ack, before_ack}
use Rattle.cwr_acks.proofs.item_lines.opening_in.Goals as goal

pub returns : goal.returns
returns g c =
    let before = before_ack c.args.manner.now.form (telling_of c.args.manner.now).file in adds_both (adds_both (adds_as (ap
    before c.name_of_notes-name.ensures) c.before_ack.ensures) (adds_as (ap (ack_in c.args.manner.now.form c.args.notes.now
    c.args.head.now) c.worst_level.ensures) c.ack_in.ensures)) (adds_as (ap (after_ack c.args.manner.now.form)
    c.name_of_notes-name.ensures) c.after_ack.ensures)

use Rattle.cwr_devices.proofs.lemmas.Adding.{adds_as, adds_both}
use Rattle.cwr_acks.proofs.lemmas.SentValues.{sent_value}
use Rattle.cwr_acks.proofs.line_texts.renumbered_line.Goals as goal

pub returns : goal.returns
returns g c =
    adds_both (adds_both c.marked_text.ensures (adds_as (sent_value c.args.cells c.args.number.now) c.cell_part.ensures))
    c.text.ensures

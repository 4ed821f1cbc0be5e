use Rattle.std.proofs.Common.{◌++◌, ap, codes, decimal}
use Rattle.cwr_fields.specs.Format.Kinds.{letters}
use Rattle.cwr_devices.proofs.lemmas.Adding.{adds_as, adds_both}
use Rattle.cwr_notes.proofs.lemmas.LabelledCells.{labelled_whole}
use Rattle.cwr_notes.proofs.record_texts.record_lines.Goals as goal

pub returns : goal.returns
returns g c =
    adds_as (labelled_whole c.args.number c.args.shown.now)
    (adds_both (adds_both (adds_as (ap (λ kind. decimal c.args.number ++ codes " " ++ letters kind) c.kind-kind.ensures.value) c.head.ensures)
    c.labelled_cells.ensures) c.text.ensures)

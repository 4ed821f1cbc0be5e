use Rattle.std.proofs.Common.{ap}
use Rattle.cwr_notes.specs.Format.FindingNotes.{where_line}
use Rattle.cwr_devices.proofs.lemmas.Adding.{adds_as, adds_both}
use Rattle.cwr_advise.proofs.advice_texts.lines_at_record.Goals as goal

pub returns : goal.returns
returns g c =
    adds_both (adds_both (adds_both (adds_both (adds_both c.advice_line.ensures (adds_as (ap (where_line c.args.number) c.kind.ensures.value) c.where_line.ensures)) (adds_as
    c.as_slice.ensures.value c.text.ensures)) c.cell_line.ensures) c.words_line.ensures) c.gap.ensures

use Rattle.std.proofs.Common.{sym}
use Rattle.cwr_devices.proofs.lemmas.Adding.{adds_as, adds_both, adds_nothing}
use Rattle.cwr_notes.proofs.lemmas.LabelledCells.{blank_cell, shown_cell}
use Rattle.cwr_notes.proofs.record_texts.labelled_cell.Goals as goal

pub returns-then-is_empty : goal.returns-then-is_empty
returns-then-is_empty g c =
    adds_as (sym (blank_cell c.args.label.now c.args.cell.now _ c.is_empty.result c.trimmed-shown.ensures c.is_empty.ensures
    c.if-is_empty.true)) adds_nothing

pub returns : goal.returns
returns g c =
    adds_as (shown_cell c.args.label.now c.args.cell.now c.trimmed-shown.result.now c.is_empty.result c.trimmed-shown.ensures
    c.is_empty.ensures c.if-is_empty.false) (adds_both c.words.ensures c.text.ensures)

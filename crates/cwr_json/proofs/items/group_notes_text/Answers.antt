use Rattle.std.proofs.Common.{sym, ap}
use Rattle.cwr_values.specs.declared.items.Item.{Item}
use Rattle.cwr_devices.proofs.lemmas.Adding.{adds_as, adds_both}
use Rattle.cwr_json.specs.Steps.FormTexts.{group_notes_text}
use Rattle.cwr_json.proofs.items.group_notes_text.Goals as goal

pub returns-in-Transaction : goal.returns-in-Transaction
returns-in-Transaction g c =
    adds_as (ap (λ (item : Item). group_notes_text c.args.notes.now item) (sym c.in-Transaction.is))
    (adds_both c.note_text.ensures c.note_text-in-Transaction.ensures)

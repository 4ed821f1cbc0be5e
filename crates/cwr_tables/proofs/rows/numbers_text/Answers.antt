use Rattle.std.proofs.Common.{sym, ap}
use Rattle.cwr_devices.proofs.lemmas.Adding.{adds_as, adds_both}
use Rattle.cwr_tables.specs.declared.places.RowNumbers.{RowNumbers}
use Rattle.cwr_tables.specs.Steps.RowTexts.{numbers_text}
use Rattle.cwr_tables.proofs.rows.numbers_text.Goals as goal

pub returns-in-InGroup : goal.returns-in-InGroup
returns-in-InGroup g c =
    adds_as (ap (λ (numbers : RowNumbers). numbers_text numbers) (sym c.in-InGroup.is))
    (adds_both c.first_number.ensures c.text-in-InGroup.ensures)

pub returns-in-InTransaction : goal.returns-in-InTransaction
returns-in-InTransaction g c =
    adds_as (ap (λ (numbers : RowNumbers). numbers_text numbers) (sym c.in-InTransaction.is))
    (adds_both (adds_both c.first_number-in-InTransaction.ensures c.next_number.ensures) c.next_number-in-InTransaction.ensures)

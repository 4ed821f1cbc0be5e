use Rattle.std.proofs.Common.{ℕ, List, ap}
use Rattle.cwr_devices.proofs.lemmas.Adding.{adds_as, adds_both}
use Rattle.cwr_tables.specs.Format.RecordTables.{shown_cell}
use Rattle.cwr_tables.specs.Steps.RowTexts.{next_cell}
use Rattle.cwr_tables.proofs.rows.header_text.Goals as goal

pub returns : goal.returns
returns g c =
    let shown : List ℕ → List ℕ = λ cell. next_cell (shown_cell c.args.encoding cell) in
    adds_both (adds_as (ap shown c.work_number.ensures.value) c.next_shown.ensures)
    (adds_as (ap shown c.work_title.ensures.value) c.next_shown-2.ensures)

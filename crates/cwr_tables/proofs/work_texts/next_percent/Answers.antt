use Rattle.std.proofs.Common.{ℕ, List, [], ◌++◌, refl, sym, ap, ◌∙◌}
use Rattle.std.specs.Prelude.{codes, Option}
use Rattle.cwr_devices.proofs.lemmas.Adding.{adds_as, adds_both}
use Rattle.cwr_tables.specs.Format.WorkTables.{percent}
use Rattle.cwr_tables.specs.Steps.RowTexts.{next_cell}
use Rattle.cwr_tables.proofs.lemmas.CellTexts.{cell_plain}
use Rattle.cwr_tables.proofs.work_texts.next_percent.Goals as goal

pub returns-in_default : goal.returns-in_default
returns-in_default g c =
    adds_as (ap (λ (l : List ℕ). codes "," ++ l) (sym (cell_plain [] refl))
    ∙ ap (λ (share : Option ℕ). next_cell (percent share)) (sym c.in_default.is))
    c.text.ensures

pub returns : goal.returns
returns g c =
    adds_as (ap (λ (share : Option ℕ). next_cell (percent share)) (sym c.in-Some.is))
    (adds_both c.text.ensures c.percent.ensures)

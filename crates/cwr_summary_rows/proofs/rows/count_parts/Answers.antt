use Rattle.std.proofs.Common.{List, ap}
use Rattle.std.specs.Prelude.{codes}
use Rattle.cwr_devices.proofs.lemmas.Adding.{adds_as, adds_both}
use Rattle.cwr_summary.specs.declared.columns.Column.{Column}
use Rattle.cwr_summary_rows.specs.Format.Rows.{sum_cell}
use Rattle.cwr_summary_rows.specs.Format.Shown.{numbers_of}
use Rattle.cwr_summary_rows.proofs.rows.count_parts.Goals as goal

pub returns : goal.returns
returns g c =
    adds_both (adds_both (adds_both (adds_both c.sum_cell.ensures c.sum_cell-2.ensures) c.code_cells.ensures)
    (adds_as (ap (λ (l : List Column). sum_cell c.args.form (numbers_of c.args.summary.now) (codes "records") l) c.records.ensures)
    c.sum_cell-3.ensures)) c.kind_cells.ensures

use Rattle.std.proofs.Common.{List, [], ◌∷◌, ◌++◌, ℕ, ap}
use Rattle.std.specs.Prelude.{codes}
use Rattle.cwr_devices.proofs.lemmas.Adding.{adds_as, adds_both}
use Rattle.cwr_summary.specs.declared.columns.Column.TheVariants.{Controlled, Others, WorksWithout, WorksOff}
use Rattle.cwr_summary_rows.specs.Format.Rows.{shares_cell, sum_cell}
use Rattle.cwr_summary_rows.specs.Format.Shown.{numbers_of}
use Rattle.cwr_summary_rows.proofs.rows.right_part.Goals as goal

pub returns : goal.returns
returns g c =
    let numbers = numbers_of c.args.summary.now in
    let form = c.args.form in
    let right = c.args.right in
    adds_both (adds_both (adds_both
    (adds_as (ap (λ (n : List ℕ). shares_cell form numbers (codes "controlled_" ++ n) (Controlled right)) c.right_name-name.ensures)
    c.shares_cell.ensures)
    (adds_as (ap (λ (n : List ℕ). shares_cell form numbers (codes "others_" ++ n) (Others right)) c.right_name-name.ensures)
    c.shares_cell-2.ensures))
    (adds_as (ap (λ (n : List ℕ). sum_cell form numbers (codes "works_without_" ++ n) (WorksWithout right ∷ [])) c.right_name-name.ensures)
    c.sum_cell.ensures))
    (adds_as (ap (λ (n : List ℕ). sum_cell form numbers (codes "works_off_" ++ n) (WorksOff right ∷ [])) c.right_name-name.ensures)
    c.sum_cell-2.ensures)

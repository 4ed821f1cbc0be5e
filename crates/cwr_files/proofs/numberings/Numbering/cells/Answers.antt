use Rattle.std.proofs.Common.{◌-◌, Option, Some, ap, sym, ◌∙◌}
use Rattle.cwr_moments.specs.declared.moments.Moment.{Moment}
use Rattle.cwr_files.specs.Format.Parts.{cells_after}
use Rattle.cwr_files.specs.Format.Stamps.{later_cells}
use Rattle.cwr_files.proofs.lemmas.Stamps.{later_is}
use Rattle.cwr_files.proofs.numberings.Numbering.cells.Goals as goal

pub returns-in-Some-later-clause-cells : goal.returns-in-Some-later-clause-cells
returns-in-Some-later-clause-cells c =
    let first = c.in-Some.created in
    ap Some (c.cells.ensures
    ∙ later_is first c.in-Some-later.moment c.saturating_sub.result c.in-Some-later.ensures.value.0 c.in-Some-later.ensures.value.1
    ∙ ap (later_cells first) c.saturating_sub.ensures)
    ∙ ap (λ (o : Option Moment). cells_after o (c.args.self.now.asked - 1)) (sym c.in-Some.is)

use Rattle.std.proofs.Common.{ap, refl, sym, ◌∙◌}
use Rattle.cwr_findings.proofs.lemmas.AddedShares.{share_is_short}
use Rattle.cwr_findings.proofs.lemmas.NamedCells.{named_cell}
use Rattle.cwr_summary.specs.declared.columns.Right.{Right}
use Rattle.cwr_summary.specs.Steps.Shares.{share_in, share_of_cell}
use Rattle.cwr_summary.proofs.shares.share_from.Goals as goal

pub share_of_cell-requires : goal.share_of_cell-requires
share_of_cell-requires c =
    share_is_short "pr share" c.args.shown.now c.args.first c.cell.result.now c.cell.ensures.value c.requires.there.performing
    c.cell.ensures.fits

pub share_of_cell-requires-in-Mechanical : goal.share_of_cell-requires-in-Mechanical
share_of_cell-requires-in-Mechanical c =
    share_is_short "mr share" c.args.shown.now _ c.cell-in-Mechanical.result.now c.cell-in-Mechanical.ensures.value
    c.requires.there.mechanical c.cell-in-Mechanical.ensures.fits

pub share_of_cell-requires-in-Synchronization : goal.share_of_cell-requires-in-Synchronization
share_of_cell-requires-in-Synchronization c =
    share_is_short "sr share" c.args.shown.now _ c.cell-in-Synchronization.result.now c.cell-in-Synchronization.ensures.value
    c.requires.there.synchronization c.cell-in-Synchronization.ensures.fits

pub returns-in-Performing : goal.returns-in-Performing
returns-in-Performing c =
    c.share_of_cell.ensures
    ∙ ap share_of_cell (c.cell.ensures.value
    ∙ named_cell "pr share" c.args.shown.now.kind c.args.first 5 c.args.shown.now c.requires.there.performing refl c.cell.ensures.fits)
    ∙ ap (λ (right : Right). share_in right c.args.shown.now) (sym c.in-Performing.is)

pub returns-in-Mechanical : goal.returns-in-Mechanical
returns-in-Mechanical c =
    c.share_of_cell-in-Mechanical.ensures
    ∙ ap share_of_cell (c.cell-in-Mechanical.ensures.value
    ∙ named_cell "mr share" c.args.shown.now.kind _ 5 c.args.shown.now c.requires.there.mechanical refl
    c.cell-in-Mechanical.ensures.fits)
    ∙ ap (λ (right : Right). share_in right c.args.shown.now) (sym c.in-Mechanical.is)

pub returns-in-Synchronization : goal.returns-in-Synchronization
returns-in-Synchronization c =
    c.share_of_cell-in-Synchronization.ensures
    ∙ ap share_of_cell (c.cell-in-Synchronization.ensures.value
    ∙ named_cell "sr share" c.args.shown.now.kind _ 5 c.args.shown.now c.requires.there.synchronization refl
    c.cell-in-Synchronization.ensures.fits)
    ∙ ap (λ (right : Right). share_in right c.args.shown.now) (sym c.in-Synchronization.is)

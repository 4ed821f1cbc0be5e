use Rattle.std.proofs.Common.{refl, ap, ◌∙◌}
use Rattle.cwr_fields.specs.Format.Bytes.{number_of}
use Rattle.cwr_lines.specs.Format.Records.{cell_named}
use Rattle.cwr_findings.proofs.lemmas.AddedShares.{share_is_short}
use Rattle.cwr_findings.proofs.lemmas.NamedCells.{named_cell}
use Rattle.cwr_findings.proofs.lemmas.NumberCells.{share_is_number}
use Rattle.cwr_advice.proofs.territory_cells.collection_from.Goals as goal

pub number_of-requires : goal.number_of-requires
number_of-requires c =
    share_is_short "pr collection share" c.args.shown.now c.args.first c.cell.result.now c.cell.ensures.value
    c.requires.there.performing c.cell.ensures.fits

pub number_of-requires-2 : goal.number_of-requires-2
number_of-requires-2 c =
    share_is_short "mr collection share" c.args.shown.now _ c.cell-2.result.now c.cell-2.ensures.value c.requires.there.mechanical
    c.cell-2.ensures.fits

pub number_of-requires-3 : goal.number_of-requires-3
number_of-requires-3 c =
    share_is_short "sr collection share" c.args.shown.now _ c.cell-3.result.now c.cell-3.ensures.value
    c.requires.there.synchronization c.cell-3.ensures.fits

pub returns : goal.returns
returns c = record {
  performing =
      c.number_of.ensures.value ∙ ap number_of (c.cell.ensures.value ∙ named_cell "pr collection share" c.args.shown.now.kind
      c.args.first 5 c.args.shown.now c.requires.there.performing refl c.cell.ensures.fits) ∙ share_is_number (cell_named
      "pr collection share" c.args.shown.now);
  mechanical =
      c.number_of-2.ensures.value ∙ ap number_of (c.cell-2.ensures.value ∙ named_cell "mr collection share" c.args.shown.now.kind
      _ 5 c.args.shown.now c.requires.there.mechanical refl c.cell-2.ensures.fits) ∙ share_is_number (cell_named
      "mr collection share" c.args.shown.now);
  synchronization =
      c.number_of-3.ensures.value ∙ ap number_of (c.cell-3.ensures.value ∙ named_cell "sr collection share" c.args.shown.now.kind
      _ 5 c.args.shown.now c.requires.there.synchronization refl c.cell-3.ensures.fits) ∙ share_is_number (cell_named
      "sr collection share" c.args.shown.now);
}

use Rattle.std.proofs.Common.{refl, ap, ◌∙◌}
use Rattle.std.specs.Prelude.{not}
use Rattle.cwr_fields.specs.Format.Bytes.{is_spaces}
use Rattle.cwr_findings.proofs.lemmas.NamedCells.{named_cell}
use Rattle.cwr_advice.proofs.stated.stated_from.Goals as goal

pub returns : goal.returns
returns c = record {
  performing =
      ap not (c.is_spaces.ensures ∙ ap is_spaces (c.cell.ensures.value
      ∙ named_cell "pr share" c.args.shown.now.kind c.args.first 5 c.args.shown.now c.requires.there.performing refl c.cell.ensures.fits));
  mechanical =
      ap not (c.is_spaces-2.ensures ∙ ap is_spaces (c.cell-2.ensures.value
      ∙ named_cell "mr share" c.args.shown.now.kind _ 5 c.args.shown.now c.requires.there.mechanical refl c.cell-2.ensures.fits));
  synchronization =
      ap not (c.is_spaces-3.ensures ∙ ap is_spaces (c.cell-3.ensures.value
      ∙ named_cell "sr share" c.args.shown.now.kind _ 5 c.args.shown.now c.requires.there.synchronization refl c.cell-3.ensures.fits));
}

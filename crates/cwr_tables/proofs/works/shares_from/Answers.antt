use Rattle.std.proofs.Common.{refl, ◌∙◌}
use Rattle.cwr_findings.proofs.lemmas.AddedShares.{share_is_short}
use Rattle.cwr_findings.proofs.lemmas.NamedCells.{named_cell}
use Rattle.cwr_tables.proofs.lemmas.Owners.{share_in_cell}
use Rattle.cwr_tables.proofs.works.shares_from.Goals as goal

pub share_in-requires : goal.share_in-requires
share_in-requires c =
    share_is_short "pr share" c.args.shown.now c.args.first c.cell.result.now c.cell.ensures.value c.requires.there.performing
    c.cell.ensures.fits

pub share_in-requires-2 : goal.share_in-requires-2
share_in-requires-2 c =
    share_is_short "mr share" c.args.shown.now _ c.cell-2.result.now c.cell-2.ensures.value c.requires.there.mechanical
    c.cell-2.ensures.fits

pub share_in-requires-3 : goal.share_in-requires-3
share_in-requires-3 c =
    share_is_short "sr share" c.args.shown.now _ c.cell-3.result.now c.cell-3.ensures.value c.requires.there.synchronization
    c.cell-3.ensures.fits

pub returns : goal.returns
returns c = record {
  performing = record {
    value =
        share_in_cell "pr share" c.args.shown.now c.share_in.result c.cell.result.now c.share_in.ensures.value
        (c.cell.ensures.value
        ∙ named_cell "pr share" c.args.shown.now.kind c.args.first 5 c.args.shown.now c.requires.there.performing refl
        c.cell.ensures.fits);
    small = c.share_in.ensures.small;
  };
  mechanical = record {
    value =
        share_in_cell "mr share" c.args.shown.now c.share_in-2.result c.cell-2.result.now c.share_in-2.ensures.value
        (c.cell-2.ensures.value
        ∙ named_cell "mr share" c.args.shown.now.kind _ 5 c.args.shown.now c.requires.there.mechanical refl
        c.cell-2.ensures.fits);
    small = c.share_in-2.ensures.small;
  };
  synchronization = record {
    value =
        share_in_cell "sr share" c.args.shown.now c.share_in-3.result c.cell-3.result.now c.share_in-3.ensures.value
        (c.cell-3.ensures.value
        ∙ named_cell "sr share" c.args.shown.now.kind _ 5 c.args.shown.now c.requires.there.synchronization refl
        c.cell-3.ensures.fits);
    small = c.share_in-3.ensures.small;
  };
}

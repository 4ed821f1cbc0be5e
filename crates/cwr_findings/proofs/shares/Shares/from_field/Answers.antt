use Rattle.cwr_findings.proofs.lemmas.AddedShares.{share_is_five, one_share}
use Rattle.cwr_findings.proofs.shares.Shares.from_field.Goals as goal

pub share_of-requires : goal.share_of-requires
share_of-requires c =
    share_is_five "pr share" c.args.shown.now c.args.first c.cell.result.now c.cell.ensures.value c.requires.there.performing
    c.cell.ensures.fits

pub share_of-requires-2 : goal.share_of-requires-2
share_of-requires-2 c =
    share_is_five "mr share" c.args.shown.now _ c.cell-2.result.now c.cell-2.ensures.value c.requires.there.mechanical
    c.cell-2.ensures.fits

pub share_of-requires-3 : goal.share_of-requires-3
share_of-requires-3 c =
    share_is_five "sr share" c.args.shown.now _ c.cell-3.result.now c.cell-3.ensures.value c.requires.there.synchronization
    c.cell-3.ensures.fits

pub returns : goal.returns
returns c = record {
  performing =
      one_share "pr share" c.args.shown.now c.args.first c.cell.result.now c.share_of.result c.cell.ensures.value
      c.requires.there.performing c.cell.ensures.fits c.share_of.ensures.value c.share_of.ensures.small;
  mechanical =
      one_share "mr share" c.args.shown.now _ c.cell-2.result.now c.share_of-2.result c.cell-2.ensures.value
      c.requires.there.mechanical c.cell-2.ensures.fits c.share_of-2.ensures.value c.share_of-2.ensures.small;
  synchronization =
      one_share "sr share" c.args.shown.now _ c.cell-3.result.now c.share_of-3.result c.cell-3.ensures.value
      c.requires.there.synchronization c.cell-3.ensures.fits c.share_of-3.ensures.value c.share_of-3.ensures.small;
}

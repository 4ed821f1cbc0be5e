use Rattle.std.proofs.Common.{ap}
use Rattle.cwr_findings.proofs.lemmas.AddedShares.{share_is_short}
use Rattle.cwr_notes.specs.Format.FindingNotes.{right_of}
use Rattle.cwr_notes.proofs.lemmas.OwnedShares.{read_share, third_right}
use Rattle.cwr_notes.proofs.other_records.share_from.Goals as goal

pub number_of-requires : goal.number_of-requires
number_of-requires c =
    share_is_short "pr share" c.args.shown.now c.args.first c.cell.result.now c.cell.ensures.value c.requires.there.performing
    c.cell.ensures.fits

pub number_of-requires-in-V4 : goal.number_of-requires-in-V4
number_of-requires-in-V4 c =
    share_is_short "mr share" c.args.shown.now _ c.cell-in-V4.result.now c.cell-in-V4.ensures.value c.requires.there.mechanical
    c.cell-in-V4.ensures.fits

pub number_of-requires-in_default : goal.number_of-requires-in_default
number_of-requires-in_default c =
    share_is_short "sr share" c.args.shown.now _ c.cell-in_default.result.now c.cell-in_default.ensures.value
    c.requires.there.synchronization c.cell-in_default.ensures.fits

pub returns-in-V3-clause-value : goal.returns-in-V3-clause-value
returns-in-V3-clause-value c =
    read_share "pr share" c.args.rule c.args.shown.now c.args.first c.cell.result.now _ c.cell.ensures.value
    c.requires.there.performing c.cell.ensures.fits c.number_of.ensures.value (ap right_of c.in-V3.is)

pub returns-in-V4-clause-value : goal.returns-in-V4-clause-value
returns-in-V4-clause-value c =
    read_share "mr share" c.args.rule c.args.shown.now _ c.cell-in-V4.result.now _ c.cell-in-V4.ensures.value
    c.requires.there.mechanical c.cell-in-V4.ensures.fits c.number_of-in-V4.ensures.value (ap right_of c.in-V4.is)

pub returns-in_default : goal.returns-in_default
returns-in_default c = record {
  value =
      read_share "sr share" c.args.rule c.args.shown.now _ c.cell-in_default.result.now _ c.cell-in_default.ensures.value
      c.requires.there.synchronization c.cell-in_default.ensures.fits c.number_of-in_default.ensures.value
      (third_right c.args.rule c.in_default.not-V3 c.in_default.not-V4);
  small = c.number_of-in_default.ensures.small;
}

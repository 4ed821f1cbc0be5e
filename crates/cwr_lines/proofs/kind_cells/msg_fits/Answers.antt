use Rattle.std.proofs.lemmas.Bool.{and_parts}
use Rattle.cwr_fields.specs.declared.kinds.Kind.TheVariants.{Msg}
use Rattle.cwr_lines.proofs.lemmas.JudgedCells.{carries}
use Rattle.cwr_lines.proofs.kind_cells.msg_fits.Goals as goal

pub returns : goal.returns
returns c = λ yes.
    let b4 = and_parts _ _ yes in
    let b3 = and_parts _ _ b4.0 in
    let b2 = and_parts _ _ b3.0 in
    carries Msg c.args.line.now c.requires.whole c.requires.plain
    (tt, (tt, (tt, (c.fits_at.ensures b2.0, (c.fits_at-2.ensures b2.1, (tt, (c.fits_at-3.ensures b3.1, (tt, (c.fits_at-4.ensures b4.1, tt)))))))))

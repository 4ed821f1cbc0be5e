use Rattle.std.proofs.Common.{arith, subst, sym}
use Rattle.cwr_shape.specs.Steps.Numberings.{KeepsNumbering}
use Rattle.cwr_shape.proofs.lemmas.NumberingsKept.{kept_with}
use Rattle.cwr_shape.proofs.numbering.Numbering.count.Goals as goal

pub invariant_of-self-in_default : goal.invariant_of-self-in_default
invariant_of-self-in_default c =
    subst KeepsNumbering (sym c.with-self-inside.ensures) (kept_with c.self.inside.ty c.self.inside.counts c.args.symbol
    c.self.invariant (omega (arith, c.if-self-ge-MOST_RECORDS.false)))

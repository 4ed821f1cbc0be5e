use Rattle.std.proofs.Common.{refl}
use Rattle.cwr_judge.proofs.lemmas.NumberCells.{both_sequences}
use Rattle.cwr_judge.proofs.judging.surely_has_numbers.Goals as goal

pub returns : goal.returns
returns c = λ xs st taken.
    both_sequences xs c.args.line.now c.args.kind c.in-Some-expects.transaction c.in-Some-expects-2.record _ c.requires
    (c.in-Some.ensures.some.0 refl) c.in-Some.ensures.transaction c.in-Some.ensures.record
    c.in-Some.ensures.wide (c.in-Some-expects.ensures xs st) (c.in-Some-expects-2.ensures xs st) (c.are_in.ensures taken)

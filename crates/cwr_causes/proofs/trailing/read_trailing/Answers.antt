use Rattle.std.proofs.Common.{◌∙◌, refl}
use Rattle.cwr_causes.proofs.lemmas.TakenPieces.{taken_all, taken_by, taken_more, taken_none, taken_so_far, takes_both}
use Rattle.cwr_causes.proofs.trailing.read_trailing.Goals as goal

pub loop-pieces-init : goal.loop-pieces-init
loop-pieces-init g c = (
  taken_none _ c.new-found.result c.new-found.ensures.bytes c.new-found.ensures.begins c.new-found.ensures.goes_on
      c.new-found.ensures.filler,
  refl,
)

pub loop-pieces-preserved : goal.loop-pieces-preserved
loop-pieces-preserved g c = (
  taken_more _ _ _ _ _ _ _ c.if-branch.false c.loop-pieces.invariant.0 c.in_ok-take_piece.ensures.ok,
  c.in_ok-take_piece.ensures.failures ∙ c.loop-pieces.invariant.1,
)

pub returns-then-branch-clause-counted : goal.returns-then-branch-clause-counted
returns-then-branch-clause-counted g c =
    taken_all _ _ _ _ _ _ _ c.if-branch.true c.loop-pieces.invariant.0 c.in_ok-take_piece.ensures.ok

pub returns-then-branch-clause-taken : goal.returns-then-branch-clause-taken
returns-then-branch-clause-taken g c =
    taken_by _ _ _ (taken_all _ _ _ _ _ _ _ c.if-branch.true c.loop-pieces.invariant.0 c.in_ok-take_piece.ensures.ok)

pub returns-in_err-take_piece-clause-taken : goal.returns-in_err-take_piece-clause-taken
returns-in_err-take_piece-clause-taken g c =
    takes_both _ _ _ (taken_so_far _ _ _ _ c.loop-pieces.invariant.0) c.in_err-take_piece.ensures.err

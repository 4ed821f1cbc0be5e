use Rattle.std.proofs.Common.{inl, inr, arith}
use Rattle.cwr_causes.proofs.lemmas.WalkedLines.{ahead_so_far, ahead_to_end, taken_piece, taken_walked}
use Rattle.cwr_causes.proofs.lemmas.TakenPieces.{takes_both}
use Rattle.cwr_causes.proofs.ahead.look_ahead.Goals as goal
use Rattle.cwr_causes.proofs.ahead.look_ahead.Goals.{then-at_end-via-then-at_end, then-at_end-via-else-at_end+then-walk}

pub returns-in_err-at_end-clause-taken : goal.returns-in_err-at_end-clause-taken
returns-in_err-at_end-clause-taken g c =
    takes_both _ _ _ (taken_walked _ _ _ _ _ _ c.loop-pieces.invariant.0) c.in_err-at_end.ensures.err

pub returns-then-at_end-clause-finds : goal.returns-then-at_end-clause-finds
returns-then-at_end-clause-finds g c =
    ahead_to_end _ _ _ _ _ _ _ _ c.in_ok-at_end.at_end
    (elim c.then-at_end.branch [
      | then-at_end-via-then-at_end w ↦ inl w.if-at_end.true
      | then-at_end-via-else-at_end+then-walk w ↦ inr w.if-walk.true
    ])
    c.loop-pieces.invariant.0 c.in_ok-at_end.ensures.ok

pub returns-then-at_end-clause-taken : goal.returns-then-at_end-clause-taken
returns-then-at_end-clause-taken g c =
    taken_piece _ _ _ _ _ _ _ _ _ c.loop-pieces.invariant.0 c.in_ok-at_end.ensures.ok

pub returns-clause-finds : goal.returns-clause-finds
returns-clause-finds g c = ahead_so_far _ _ _ _ _ _ (omega arith) c.loop-pieces.invariant.0

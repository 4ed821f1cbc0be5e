use Rattle.cwr_causes.proofs.lemmas.TakenPieces.{takes_piece}
use Rattle.cwr_causes.proofs.trailing.take_piece.Goals as goal

pub returns-clause-ok : goal.returns-clause-ok
returns-clause-ok g c =
    takes_piece _ _ _ c.in_ok-piece.piece.now c.args.found.now c.add.new.self c.fill.follows.holds-at-none.0
    c.in_ok-piece.ensures.front c.in_ok-piece.ensures.end c.consume.ensures.bytes c.add.ensures.bytes
    c.add.ensures.begins c.add.ensures.is_all c.add.ensures.filler

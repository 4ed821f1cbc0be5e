use Rattle.std.proofs.Common.{take}
use Rattle.cwr_causes.specs.Steps.Walks.{WalksOver}
use Rattle.cwr_causes.proofs.ahead.Walk.take_piece.Given as goal

abbrev pub invariant-loop-byte : goal.invariant-loop-byte
invariant-loop-byte l = WalksOver (take l.byte-index l.piece) l.fn.self l.self

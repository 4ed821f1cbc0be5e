use Rattle.std.proofs.Common.{List, ℕ, [], ◌∷◌, ◌++◌, get_or, sym, subst, take, ◌∙◌}
use Rattle.std.proofs.lemmas.List.{take_more}
use Rattle.cwr_causes.specs.Steps.Walks.{WalksOver}
use Rattle.cwr_causes.proofs.lemmas.WalkedLines.{over_byte, over_rest}
use Rattle.cwr_causes.proofs.ahead.Walk.take_piece.Goals as goal
use Rattle.cwr_causes.proofs.ahead.Walk.take_piece.Goals.{then-not-self, else-not-self}

pub loop-byte-preserved : goal.loop-byte-preserved
loop-byte-preserved c =
    let i : ℕ = c.loop-byte.byte-index in
    let piece : List ℕ = c.args.piece.now in
    subst (λ (done : List ℕ). WalksOver done c.args.self.now c.if-not-self.self)
    (sym (take_more piece i 0 c.loop-byte-test.true))
    (elim c.if-not-self.branch [
      | then-not-self w ↦
          over_byte (take i piece) (get_or piece i 0) c.args.self.now c.loop-byte.self c.if-not-self.self c.loop-byte.invariant
          w.if-not-self.true (w.self-is ∙ w.take.ensures)
      | else-not-self w ↦
          subst (WalksOver (take i piece ++ get_or piece i 0 ∷ []) c.args.self.now) (sym w.self-is)
          (over_rest (take i piece) (get_or piece i 0) c.args.self.now c.loop-byte.self c.loop-byte.invariant w.if-not-self.false)
    ])

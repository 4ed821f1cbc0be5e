use Rattle.cwr_causes.proofs.lemmas.WalkedLines.{seen_ahead}
use Rattle.cwr_causes.proofs.ahead.peek_ahead.Goals as goal

pub returns-clause-sees : goal.returns-clause-sees
returns-clause-sees g c =
    seen_ahead c.args.sequence c.args.number (g.R.Source.remaining c.args.reader.now) c.new-walk.result c.take_piece.new.self
    c.in_ok-fill.field-0.now c.new-walk.ensures.sequence c.new-walk.ensures.walks c.take_piece.ensures c.in_ok-fill.ensures.front
    c.in_ok-fill.ensures.end

use Rattle.std.proofs.Common.{sym, ◌∙◌}
use Rattle.cwr_decode.proofs.lemmas.PassedOver.{kept_front}
use Rattle.cwr_decode.proofs.machine.Machine.keep_as.Goals as goal

pub returns-clause-keeps : goal.returns-clause-keeps
returns-clause-keeps g c =
    λ so_far stands. kept_front g.K.Keeper.stands_for g.K.Keeper.are_clean c.keep_line.result c.args.self.now.finished so_far
    c.args.piece.now c.in-Some.used c.args.tally.now c.keep_line.new.tally c.keep_line.new.keeper c.in-Some.cut _
    c.in-Some.ensures.takes c.in-Some.ensures.held (λ e. cc (sym c.in-Some.ensures.ended ∙ e))
    (c.keep_line.ensures.keeps so_far stands)

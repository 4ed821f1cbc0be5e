use Rattle.std.proofs.Common.{◌≡◌, sym, ap, subst, ◌∙◌}
use Rattle.cwr_lines.specs.declared.lines.LineEnd.TheVariants.{Line}
use Rattle.cwr_lines.specs.Steps.Held.{HeldLine, IsHeld, Takes, empty_line}
use Rattle.cwr_decode.proofs.lemmas.PassedOver.{kept_front}
use Rattle.cwr_decode.proofs.machine.Machine.keep_filled.Goals as goal

pub returns-clause-keeps : goal.returns-clause-keeps
returns-clause-keeps g c = λ so_far stands.
    let cut = c.cut_looked_through-cut.result in
    let same = sym c.cut_looked_through-cut.ensures in
    let takes : Takes empty_line c.args.piece.now c.in-Some.used cut
    = subst (λ (h : HeldLine). Takes h c.args.piece.now c.in-Some.used cut) c.clear.ensures
    (subst (Takes c.clear.new.self c.args.piece.now c.in-Some.used) same c.in-Some.ensures.takes) in
    let ended : cut.ended ≡ Line = ap (λ (h : HeldLine). h.ended) (sym same) ∙ c.in-Some.ensures.ended in
    kept_front g.K.Keeper.stands_for g.K.Keeper.are_clean c.keep_line.result c.args.self.now.finished so_far c.args.piece.now
    c.in-Some.used c.args.tally.now c.keep_line.new.tally c.keep_line.new.keeper cut _
    takes (subst IsHeld same c.in-Some.ensures.held) (λ e. cc (sym ended ∙ e)) (c.keep_line.ensures.keeps so_far stands)

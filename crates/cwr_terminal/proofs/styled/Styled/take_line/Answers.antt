use Rattle.std.proofs.Common.{ℕ, List, [], ◌∷◌, take, subst}
use Rattle.cwr_terminal.specs.Steps.Held.{Takes}
use Rattle.cwr_terminal.proofs.lemmas.Taken.{takes_more, up_to}
use Rattle.cwr_terminal.proofs.styled.Styled.take_line.Goals as goal

pub returns-in_ok-end_line-in-Some-clause-takes : goal.returns-in_ok-end_line-in-Some-clause-takes
returns-in_ok-end_line-in-Some-clause-takes g c =
    let text = c.args.text.now in
    let end = c.in-Some.end in
    let found = c.in-Some.ensures in
    subst (λ (l : List ℕ). Takes g.W.Write.contents c.args.self.now c.end_line.new.self l)
    (up_to text end found.0.high found.1)
    (takes_more g.W.Write.contents c.args.self.now c.hold.new.self c.end_line.new.self (take end text) (10 ∷ [])
    c.in_ok-hold-in-Some.ensures c.in_ok-end_line-in-Some.ensures)

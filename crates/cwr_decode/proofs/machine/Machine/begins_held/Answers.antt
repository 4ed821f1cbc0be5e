use Rattle.std.proofs.Common.{◌≡◌, Some, [], ◌∷◌, sym, ap, subst, ◌∙◌, arith}
use Rattle.cwr_lines.specs.declared.lines.LineEnd.TheVariants.{Open}
use Rattle.cwr_decode.specs.declared.machine.State.{State}
use Rattle.cwr_decode.specs.Steps.Machines.{IsReady, Standing}
use Rattle.cwr_decode.specs.Steps.Passing.{BeginsHeld}
use Rattle.cwr_decode.proofs.lemmas.PassedOver.{held_header}
use Rattle.cwr_decode.proofs.machine.Machine.begins_held.Goals as goal

pub returns-in-Some : goal.returns-in-Some
returns-in-Some g c = λ yes.
    let i = c.self.inside in
    let d : Standing = record { line = i.line; tally = i.tally; held = i.held; state = i.state; finished = i.finished } in
    let reading = ap (λ (q : Standing). q.state) c.self.view_is ∙ c.requires.reading in
    let ready : IsReady d.state d.finished d.line =
    subst (λ (q : Standing). IsReady q.state q.finished q.line) (sym c.self.view_is) c.requires.ready in
    let unended : d.line.ended ≡ Open = (subst (λ (s : State). IsReady s d.finished d.line) reading ready).0 in
    let alone : d.held ≡ Some (c.in-Some.header ∷ []) = c.in-Some.ensures in
    subst (λ (q : Standing). BeginsHeld g.K.Keeper.stands_for q c.begin.new.self) c.self.view_is (record {
      header = c.in-Some.header;
      stands = c.begin.ensures yes;
      same = held_header d c.in-Some.header unended (omega (arith, c.if-len-gt0.false, c.len.ensures.len)) alone reading;
    })

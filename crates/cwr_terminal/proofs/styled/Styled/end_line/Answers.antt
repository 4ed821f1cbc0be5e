use Rattle.std.proofs.lemmas.Result.{on_ok_weaker}
use Rattle.std.proofs.Common.{refl}
use Rattle.cwr_terminal.proofs.lemmas.Taken.{takes_end}
use Rattle.cwr_terminal.proofs.styled.Styled.end_line.Goals as goal

pub returns : goal.returns
returns g c =
    let shown = c.in_ok-show.ensures in
    on_ok_weaker c.write_all.result
    (λ wrote. takes_end g.W.Write.contents c.args.style.now c.args.self.now c.show.new.self
    (record {
      output = c.write_all.new.self;
      style = c.show.new.self.style;
      line = c.show.new.self.line;
      passes = c.show.new.self.passes;
    })
    c.requires shown.shows shown.holds shown.style refl (λ text. refl) wrote)
    c.write_all.ensures.bytes

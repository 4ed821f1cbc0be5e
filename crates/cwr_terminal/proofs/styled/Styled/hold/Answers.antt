use Rattle.std.proofs.Common.{◌≡◌, ◌+◌, ◌<◌, true, length, refl, sym, ap, ◌∙◌, subst}
use Rattle.std.proofs.lemmas.Result.{on_ok_weaker}
use Rattle.std.specs.Io.KnownBytes.{Appends}
use Rattle.std.specs.Result.{is_err}
use Rattle.cwr_terminal.proofs.lemmas.Taken.{not_ok_at, ok_at, on_err_at, takes_held, takes_over, takes_passed}
use Rattle.cwr_terminal.proofs.styled.Styled.hold.Goals as goal

pub returns-then-self : goal.returns-then-self
returns-then-self g c =
    on_ok_weaker c.write_all.result
    (λ wrote. takes_passed g.W.Write.contents c.args.self.now
    (record {
      output = c.write_all.new.self;
      style = c.args.self.now.style;
      line = c.args.self.now.line;
      passes = c.args.self.now.passes;
    })
    c.args.part.now c.if-self.true c.requires.part refl refl refl wrote)
    c.write_all.ensures.bytes

pub returns-then-is_err : goal.returns-then-is_err
returns-then-is_err g c =
    let failed : is_err c.try_extend_from_slice.result ≡ true = sym c.is_err.ensures.value ∙ c.if-is_err.true in
    let kept = on_err_at c.try_extend_from_slice.result failed c.try_extend_from_slice.ensures.err in
    let much : 1024 < length c.args.self.now.line.items + length c.args.part.now =
    not_ok_at c.try_extend_from_slice.result failed c.try_extend_from_slice.ensures.variant in
    on_ok_weaker c.write_all-then-is_err-2.result
    (λ wrote. takes_over g.W.Write.contents c.args.self.now
    (record {
      output = c.write_all-then-is_err-2.new.self;
      style = c.args.self.now.style;
      line = c.try_extend_from_slice.new.self;
      passes = true;
    })
    c.write_all-then-is_err.new.self
    c.args.part.now c.requires.styled c.if-self.false c.requires.part much refl refl (ap (λ line. line.items) kept)
    (subst (Appends (g.W.Write.contents c.args.self.now.output) (g.W.Write.contents c.write_all-then-is_err.new.self))
    (c.as_slice.ensures.value ∙ ap (λ line. line.items) kept) c.in_ok-write_all.ensures.bytes)
    wrote)
    c.write_all-then-is_err-2.ensures.bytes

pub returns : goal.returns
returns g c =
    takes_held g.W.Write.contents c.args.self.now
    (record {
      output = c.args.self.now.output;
      style = c.args.self.now.style;
      line = c.try_extend_from_slice.new.self;
      passes = c.args.self.now.passes;
    })
    c.args.part.now c.requires.styled c.if-self.false c.requires.part refl refl
    (ok_at c.try_extend_from_slice.result (sym c.is_err.ensures.value ∙ c.if-is_err.false) c.try_extend_from_slice.ensures.ok) refl

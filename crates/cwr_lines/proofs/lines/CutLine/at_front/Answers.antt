use Rattle.std.proofs.Common.{sym, arith}
use Rattle.cwr_lines.proofs.lemmas.FrontLines.{Begins, front_closed, front_held_of}
use Rattle.cwr_lines.proofs.lines.CutLine.at_front.Goals as goal

pub invariant_of-line : goal.invariant_of-line
invariant_of-line c =
    let piece = c.args.piece.now in
    let width = c.width-count.result in
    let b : Begins piece width =
    record {
      within = omega (arith, c.if-piece-count.false);
      plain = c.begins_whole.ensures.plain c.if-not-begins_whole.false;
      carriage = c.begins_whole.ensures.carriage c.if-not-begins_whole.false;
      feed = c.begins_whole.ensures.feed c.if-not-begins_whole.false;
    } in
    (front_closed c.args.kind piece width c.width-count.ensures b c.requires.named, λ _. b.plain)

pub returns-clause-held : goal.returns-clause-held
returns-clause-held c =
    let piece = c.args.piece.now in
    let width = c.width-count.result in
    let b : Begins piece width =
    record {
      within = omega (arith, c.if-piece-count.false);
      plain = c.begins_whole.ensures.plain c.if-not-begins_whole.false;
      carriage = c.begins_whole.ensures.carriage c.if-not-begins_whole.false;
      feed = c.begins_whole.ensures.feed c.if-not-begins_whole.false;
    } in
    front_held_of c.args.kind piece width c.width-count.ensures b

pub returns-clause-kind : goal.returns-clause-kind
returns-clause-kind c =
    let piece = c.args.piece.now in
    let width = c.width-count.result in
    let b : Begins piece width =
    record {
      within = omega (arith, c.if-piece-count.false);
      plain = c.begins_whole.ensures.plain c.if-not-begins_whole.false;
      carriage = c.begins_whole.ensures.carriage c.if-not-begins_whole.false;
      feed = c.begins_whole.ensures.feed c.if-not-begins_whole.false;
    } in
    sym ((front_closed c.args.kind piece width c.width-count.ensures b c.requires.named).0.keeps.known)

use Rattle.std.proofs.Common.{arith}
use Rattle.cwr_lines.proofs.lemmas.PaddedLines.{IsPadded, padded, padded_cut, padded_held, padded_kind}
use Rattle.cwr_lines.proofs.lines.CutLine.in_pad.Goals as goal
use Rattle.std.proofs.Common.{take}

pub invariant_of-line : goal.invariant_of-line
invariant_of-line c =
    let piece = c.args.piece.now in
    let most = c.width-most.result in
    let count = c.in_ok-count.count in
    let text = take most c.blank.new.text in
    let p : IsPadded text piece most count c.in_ok-returned.returned =
    padded c.copy_front.new.text c.blank.new.text piece most count c.in_ok-returned.returned c.in_ok-count.ensures.copied
    c.blank.ensures.blank (omega (arith, c.if-count-lt3.false)) (omega (arith, c.if-count-most.false)) c.in_ok-returned.ensures in
    padded_cut c.args.kind text piece most count c.in_ok-returned.returned c.width-most.ensures p c.requires.named

pub returns-clause-held : goal.returns-clause-held
returns-clause-held c =
    let piece = c.args.piece.now in
    let most = c.width-most.result in
    let count = c.in_ok-count.count in
    let text = take most c.blank.new.text in
    let p : IsPadded text piece most count c.in_ok-returned.returned =
    padded c.copy_front.new.text c.blank.new.text piece most count c.in_ok-returned.returned c.in_ok-count.ensures.copied
    c.blank.ensures.blank (omega (arith, c.if-count-lt3.false)) (omega (arith, c.if-count-most.false)) c.in_ok-returned.ensures in
    padded_held c.args.kind text piece most count c.in_ok-returned.returned c.width-most.ensures p

pub returns-clause-kind : goal.returns-clause-kind
returns-clause-kind c =
    let piece = c.args.piece.now in
    let most = c.width-most.result in
    let count = c.in_ok-count.count in
    let text = take most c.blank.new.text in
    let p : IsPadded text piece most count c.in_ok-returned.returned =
    padded c.copy_front.new.text c.blank.new.text piece most count c.in_ok-returned.returned c.in_ok-count.ensures.copied
    c.blank.ensures.blank (omega (arith, c.if-count-lt3.false)) (omega (arith, c.if-count-most.false)) c.in_ok-returned.ensures in
    padded_kind c.args.kind text piece most count c.in_ok-returned.returned c.width-most.ensures p c.requires.named

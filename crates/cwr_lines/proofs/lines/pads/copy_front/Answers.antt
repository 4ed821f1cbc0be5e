use Rattle.std.proofs.Common.{◌+◌, ◌≡◌, ◌≤◌, ℕ, length, subst, arith, ◌∙◌}
use Rattle.cwr_lines.proofs.lemmas.CopiedFronts.{IsFurther, further}
use Rattle.cwr_lines.proofs.lines.pads.copy_front.Goals as goal

pub returns-then-plain-lt-LANES-clause-copied : goal.returns-then-plain-lt-LANES-clause-copied
returns-then-plain-lt-LANES-clause-copied c =
    let at = c.loop-at.at in
    let seen : at + 32 ≤ length c.args.piece.now = omega (arith, c.loop-at-test.true, c.requires.seen) in
    let next =
    further c.loop-at.text c.copy_lanes.new.text c.args.piece.now at c.before_control-plain.result seen c.type_inv.piece
    c.loop-at.invariant.copied c.copy_lanes.ensures.copied c.before_control-plain.ensures in
    record { within = omega (arith, c.loop-at-test.true, c.requires.seen, next.0); same = next.1.same; plain = next.1.plain }

pub loop-at-preserved : goal.loop-at-preserved
loop-at-preserved c =
    let at = c.loop-at.at in
    let seen : at + 32 ≤ length c.args.piece.now = omega (arith, c.loop-at-test.true, c.requires.seen) in
    let next =
    further c.loop-at.text c.copy_lanes.new.text c.args.piece.now at c.before_control-plain.result seen c.type_inv.piece
    c.loop-at.invariant.copied c.copy_lanes.ensures.copied c.before_control-plain.ensures in
    let all : c.before_control-plain.result ≡ 32 = omega (arith, next.0, c.if-plain-lt-LANES.false) in
    record {
      len = c.copy_lanes.ensures.len ∙ c.loop-at.invariant.len;
      copied = subst (λ (n : ℕ). IsFurther c.copy_lanes.new.text c.args.piece.now (at + n)) all next.1;
    }

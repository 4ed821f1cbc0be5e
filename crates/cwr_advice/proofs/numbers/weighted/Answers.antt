use Rattle.std.proofs.Common.{◌≡◌, ◌+◌, ◌*◌, ◌≤◌, ◌<◌, ◌-◌, ◌++◌, ◌∷◌, [], length, length-append, sym, ap₂, ◌∙◌, arith}
use Rattle.std.proofs.lemmas.Slice.Zip.{zip_turn, zip_end}
use Rattle.cwr_advice.proofs.lemmas.WeightedDigits.{pairs_more, pairs_whole, pair_at_most}
use Rattle.cwr_advice.proofs.numbers.weighted.Goals as goal

pub loop-weight-preserved : goal.loop-weight-preserved
loop-weight-preserved c =
    let turn =
    zip_turn c.args.weights.now c.args.digits.now c.loop-weight.yielded _ c.loop-weight.weight-iterator c.next.new.self
    c.next.result (cc) (cc) c.loop-weight.yielded_by (c.in-Some.weight, c.in-Some.digit) c.in-Some.is c.next.ensures.steps in
    let next : length (c.loop-weight.yielded ++ (c.in-Some.weight, c.in-Some.digit) ∷ []) ≡ length c.loop-weight.yielded + 1 =
    length-append c.loop-weight.yielded ((c.in-Some.weight, c.in-Some.digit) ∷ []) in
    let digit : c.from-in-loop-weight.result ≡ c.in-Some.digit.now - 48 =
    c.from-in-loop-weight.ensures ∙ c.saturating_sub.ensures in
    let more =
    pairs_more (length c.loop-weight.yielded) _ c.args.weights.now c.args.digits.now c.in-Some.weight.now c.in-Some.digit.now
    next turn.0 turn.1 (turn.2 0) (turn.3 0) in
    let same : c.from.result * c.from-in-loop-weight.result ≡ c.in-Some.weight.now * (c.in-Some.digit.now - 48) =
    ap₂ (λ a b. a * b) c.from.ensures digit in
    let weight : c.from.result < 256 =
    omega (arith, c.from.ensures, turn.2 0, c.type_inv.weights (length c.loop-weight.yielded)) in
    let byte : c.from-in-loop-weight.result < 256 = omega (arith, c.from-in-loop-weight.ensures, c.saturating_sub.type_inv) in
    let most : c.from.result * c.from-in-loop-weight.result ≤ 65025 =
    pair_at_most c.from.result c.from-in-loop-weight.result weight byte in
    record {
      sum = ap₂ (λ a b. a + b) c.loop-weight.invariant.sum same ∙ sym more;
      small = omega (arith, next, most, c.loop-weight.invariant.small);
    }

pub returns-clause-value : goal.returns-clause-value
returns-clause-value c =
    let end =
    zip_end c.args.weights.now c.args.digits.now c.loop-weight.yielded _ c.loop-weight.weight-iterator c.next.new.self
    c.next.result (cc) (cc) c.loop-weight.yielded_by c.in-None.is c.next.ensures.steps in
    c.loop-weight.invariant.sum ∙ pairs_whole (length c.loop-weight.yielded) c.args.weights.now c.args.digits.now end

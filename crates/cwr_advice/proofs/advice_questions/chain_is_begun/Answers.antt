use Rattle.std.proofs.Common.{◌≡◌, ◌+◌, ◌-◌, ◌<◌, ◌≤◌, length, take, sym, ◌∙◌, arith}
use Rattle.std.proofs.lemmas.List.{length-take}
use Rattle.cwr_findings.proofs.lemmas.OneMore.{any_there}
use Rattle.cwr_advice.specs.Format.Rules.{in_chain}
use Rattle.cwr_advice.proofs.lemmas.BegunChains.{found_in_front, none_at_all, none_behind, none_within, one_before}
use Rattle.cwr_advice.proofs.advice_questions.chain_is_begun.Goals as goal

pub returns-then-in_chain : goal.returns-then-in_chain
returns-then-in_chain c =
    let below : c.loop-left.left - 1 < c.args.end = omega (arith, c.loop-left.invariant.within, c.loop-left-test.true) in
    sym (any_there (in_chain c.args.sequence.now) c.args.transaction.now (c.loop-left.left - 1) c.args.end c.in-Some.other
    (sym c.in-Some.ensures.value) (sym c.in_chain.ensures ∙ c.if-in_chain.true) below)

pub loop-left-preserved-else-in_chain : goal.loop-left-preserved-else-in_chain
loop-left-preserved-else-in_chain c =
    let below : c.loop-left.left - 1 < c.args.end = omega (arith, c.loop-left.invariant.within, c.loop-left-test.true) in
    let next : (c.loop-left.left - 1) + 1 ≡ c.loop-left.left = omega (arith, c.loop-left-test.true) in
    record {
      within = omega (arith, below);
      none =
          one_before (in_chain c.args.sequence.now) (take c.args.end c.args.transaction.now) (c.loop-left.left - 1)
          c.loop-left.left c.in-Some.other next
          (found_in_front c.args.transaction.now (c.loop-left.left - 1) c.args.end c.in-Some.other (sym c.in-Some.ensures.value)
          below) (sym c.in_chain.ensures ∙ c.if-in_chain.false) c.loop-left.invariant.none;
    }

pub loop-left-preserved : goal.loop-left-preserved
loop-left-preserved c =
    let end : length c.args.transaction.now ≤ c.loop-left.left - 1 =
    none_within c.args.transaction.now (c.loop-left.left - 1) c.in_default.ensures.value in
    record {
      within = omega (arith, c.loop-left.invariant.within);
      none =
          none_behind (in_chain c.args.sequence.now) (take c.args.end c.args.transaction.now) (c.loop-left.left - 1)
          (omega (arith, end, length-take c.args.end c.args.transaction.now));
    }

pub returns : goal.returns
returns c =
    none_at_all (in_chain c.args.sequence.now) (take c.args.end c.args.transaction.now) c.loop-left.left
    (omega (arith, c.loop-left-test.false)) c.loop-left.invariant.none

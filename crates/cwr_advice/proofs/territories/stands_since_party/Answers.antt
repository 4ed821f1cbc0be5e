use Rattle.std.proofs.Common.{◌≡◌, ◌+◌, ◌-◌, ◌≤◌, List, length, sym, ap, ◌∙◌, arith}
use Rattle.std.specs.List.{after_last, list_any}
use Rattle.cwr_lines.specs.Format.Records.{RecordValue}
use Rattle.cwr_findings.specs.Format.Findings.{is_owner}
use Rattle.cwr_advice.specs.Format.Rules.{is_territory_of}
use Rattle.cwr_advice.proofs.lemmas.BegunChains.{none_within}
use Rattle.cwr_advice.proofs.lemmas.SinceParty.{same_first, since_before, since_here, since_none, since_other}
use Rattle.cwr_advice.proofs.territories.stands_since_party.Goals as goal

pub returns-then-is_owner : goal.returns-then-is_owner
returns-then-is_owner c =
    let next : (c.loop-left.left - 1) + 1 ≡ c.loop-left.left = omega (arith, c.loop-left-test.true) in
    sym (c.loop-left.invariant.same ∙ since_other (is_territory_of c.args.code.now) is_owner c.args.transaction.now
    (c.loop-left.left - 1) c.loop-left.left c.in-Some.shown next (sym c.in-Some.ensures.value)
    (sym c.is_owner.ensures ∙ c.if-is_owner.true))

pub returns-then-is_territory_of : goal.returns-then-is_territory_of
returns-then-is_territory_of c =
    let next : (c.loop-left.left - 1) + 1 ≡ c.loop-left.left = omega (arith, c.loop-left-test.true) in
    sym (c.loop-left.invariant.same ∙ since_here (is_territory_of c.args.code.now) is_owner c.args.transaction.now
    (c.loop-left.left - 1) c.loop-left.left c.in-Some.shown next (sym c.in-Some.ensures.value)
    (sym c.is_owner.ensures ∙ c.if-is_owner.false)
    (sym c.is_territory_of.ensures ∙ c.if-is_territory_of.true))

pub loop-left-preserved-else-is_territory_of : goal.loop-left-preserved-else-is_territory_of
loop-left-preserved-else-is_territory_of c =
    let next : (c.loop-left.left - 1) + 1 ≡ c.loop-left.left = omega (arith, c.loop-left-test.true) in
    record {
      within = omega (arith, c.loop-left.invariant.within);
      same = c.loop-left.invariant.same
          ∙ since_before (is_territory_of c.args.code.now) is_owner c.args.transaction.now (c.loop-left.left - 1) c.loop-left.left
          c.in-Some.shown next (sym c.in-Some.ensures.value) (sym c.is_owner.ensures ∙ c.if-is_owner.false)
          (sym c.is_territory_of.ensures ∙ c.if-is_territory_of.false);
    }

pub loop-left-preserved : goal.loop-left-preserved
loop-left-preserved c =
    let end : length c.args.transaction.now ≤ c.loop-left.left - 1 =
    none_within c.args.transaction.now (c.loop-left.left - 1) c.in_default.ensures.value in
    record {
      within = omega (arith, c.loop-left.invariant.within);
      same =
          c.loop-left.invariant.same ∙ ap
          (λ (l : List RecordValue). list_any (is_territory_of c.args.code.now) (after_last is_owner l))
          (same_first c.args.transaction.now (c.loop-left.left - 1) c.loop-left.left end (omega arith));
    }

pub returns : goal.returns
returns c =
    sym (c.loop-left.invariant.same ∙ since_none (is_territory_of c.args.code.now) is_owner c.args.transaction.now
    c.loop-left.left (omega (arith, c.loop-left-test.false)))

use Rattle.std.proofs.Common.{rules, ◌≡◌, ◌<◌, length, sym, arith}
use Rattle.std.specs.Prelude.{slice_index}
use Rattle.std.proofs.lemmas.Option.{slice_get_within}
use Rattle.cwr_devices.proofs.lemmas.Adding.{adds_all, adds_as, adds_next, adds_nothing}
use Rattle.cwr_advice.specs.declared.rules.AdviceRule.{AdviceRule}
use Rattle.cwr_advice.specs.Format.RuleOrder.{all_rules, place_of_rule}
use Rattle.cwr_advise.specs.Format.ToldAdvice.{summary_line}
use Rattle.cwr_advise.proofs.lemmas.AdviceCounted.{rule-count}
use Rattle.cwr_advise.proofs.told.AdviceCounts.summary.Goals as goal

pub loop-rule-init : goal.loop-rule-init
loop-rule-init g c = record { within = omega arith; adds = adds_nothing }

pub loop-rule-preserved : goal.loop-rule-preserved
loop-rule-preserved g c =
    let within : c.loop-rule.i < length all_rules
    = slice_get_within all_rules c.loop-rule.i c.in-Some.rule (sym c.in-Some.ensures) in
    record {
      within = omega (arith, within);
      adds =
          adds_next (λ (rule : AdviceRule). summary_line c.args.all rule (slice_index c.args.self.now (place_of_rule rule))) all_rules
          c.loop-rule.i c.in-Some.rule c.in-Some.ensures c.loop-rule.invariant.adds (search rules);
    }

pub overflow_add-i : goal.overflow_add-i
overflow_add-i g c =
    let within : c.loop-rule.i < length all_rules
    = slice_get_within all_rules c.loop-rule.i c.in-Some.rule (sym c.in-Some.ensures) in
    omega (arith, within, rule-count)

pub loop-rule-smaller : goal.loop-rule-smaller
loop-rule-smaller g c =
    let within : c.loop-rule.i < length all_rules
    = slice_get_within all_rules c.loop-rule.i c.in-Some.rule (sym c.in-Some.ensures) in
    omega (arith, within)

pub returns : goal.returns
returns g c =
    adds_all (λ (rule : AdviceRule). summary_line c.args.all rule (slice_index c.args.self.now (place_of_rule rule))) all_rules
    c.loop-rule.i c.in_default.ensures c.loop-rule.invariant.adds

use Rattle.std.proofs.Common.{sym, ap, ◌∙◌}
use Rattle.std.specs.Prelude.{◌&&◌}
use Rattle.std.proofs.lemmas.Bool.{not-true}
use Rattle.cwr_advice.proofs.lemmas.CleanWorks.{none_on_clean}
use Rattle.cwr_advice.proofs.kept.AdviceSums.is_work_clean.Goals as goal

pub returns : goal.returns
returns c = λ rs h yes said. none_on_clean said c.args.self.now rs h (record {
  nowhere = sym (c.collects_nowhere.ensures rs h.facts) ∙ c.if-collects_nowhere.false;
  less = sym (c.writers_own_less.ensures rs h.facts) ∙ c.if-writers_own_less.false;
  stated = sym (c.leave_right_blank.ensures rs h.facts) ∙ c.if-leave_right_blank.false;
  performing = c.is_over_whole.ensures.performing c.if-is_over_whole.false;
  mechanical = c.is_over_whole.ensures.mechanical c.if-is_over_whole.false;
  synchronization = c.is_over_whole.ensures.synchronization c.if-is_over_whole.false;
  collections = sym c.some.ensures ∙ c.if-some.false;
  publishers = ap (λ b. c.args.self.now.facts.has_publisher && b) (sym c.some-2.ensures) ∙ c.if-facts-some.false;
  components = c.if-headers-facts.false;
  stray = c.if-headers-facts-2.false;
  original = not-true _ yes;
})

use Rattle.std.proofs.Common.{◌≡◌, ◌+◌, ◌||◌, Bool, length, drop, Some, refl, sym, ap, ◌∙◌, arith}
use Rattle.std.specs.Prelude.{slice_get}
use Rattle.std.proofs.lemmas.Option.{slice_get_read}
use Rattle.cwr_tools.specs.Format.Watching.{has_from, is_reached, is_reached_by}
use Rattle.cwr_tools.proofs.lemmas.FindingsWatched.{from_more, or_assoc}
use Rattle.cwr_tools.proofs.finding_counts.FindingCount.add.Goals as goal

pub loop-finding-preserved : goal.loop-finding-preserved
loop-finding-preserved c =
    let there : Some c.in-Some.finding.now ≡ slice_get c.args.found.now c.loop-finding.i
    = sym (slice_get_read c.args.found.now (length c.args.found.now) c.loop-finding.i c.in-Some.finding.now refl
    c.in-Some.ensures.lookup.3.0 c.in-Some.ensures.lookup.1) in
    record {
      within = omega (arith, c.in-Some.ensures.lookup.3.0);
      counted = c.loop-finding.invariant.counted;
      worst = λ asked.
          ap (λ (b : Bool). b || has_from asked (drop (c.loop-finding.i + 1) c.args.found.now)) (c.worse.ensures asked)
          ∙ or_assoc (is_reached asked c.loop-finding.self.worst) (is_reached_by asked c.in-Some.finding.now.level)
          (has_from asked (drop (c.loop-finding.i + 1) c.args.found.now))
          ∙ ap (λ (b : Bool). is_reached asked c.loop-finding.self.worst || b)
          (sym (from_more asked c.loop-finding.i c.args.found.now c.in-Some.finding.now there))
          ∙ c.loop-finding.invariant.worst asked;
    }

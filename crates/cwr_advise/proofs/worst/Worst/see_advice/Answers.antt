use Rattle.std.proofs.Common.{◌≡◌, ◌+◌, ◌||◌, Bool, length, drop, Some, refl, sym, ap, ◌∙◌, arith}
use Rattle.std.specs.Prelude.{slice_get}
use Rattle.std.specs.List.{list_any}
use Rattle.std.proofs.lemmas.Option.{slice_get_read}
use Rattle.cwr_tools.specs.Format.Watching.{is_reached, is_reached_by}
use Rattle.cwr_tools.proofs.lemmas.FindingsWatched.{or_assoc}
use Rattle.cwr_advise.specs.Format.AdviceLevels.{advice_reaches}
use Rattle.cwr_advise.proofs.lemmas.LevelsTold.{any_next}
use Rattle.cwr_advise.proofs.worst.Worst.see_advice.Goals as goal

pub loop-advice-preserved : goal.loop-advice-preserved
loop-advice-preserved c =
    let there : Some c.in-Some.advice.now ≡ slice_get c.args.found.now c.loop-advice.i
    = sym (slice_get_read c.args.found.now (length c.args.found.now) c.loop-advice.i c.in-Some.advice.now refl
    c.in-Some.ensures.lookup.3.0 c.in-Some.ensures.lookup.1) in
    record {
      within = omega (arith, c.in-Some.ensures.lookup.3.0);
      worst = λ asked.
          let rest : Bool = list_any (advice_reaches asked) (drop (c.loop-advice.i + 1) c.args.found.now) in
          ap (λ (b : Bool). b || rest) (c.see.ensures asked)
          ∙ ap (λ (level : _). (is_reached asked c.loop-advice.self.level || is_reached_by asked level) || rest) c.level.ensures
          ∙ or_assoc (is_reached asked c.loop-advice.self.level) (advice_reaches asked c.in-Some.advice.now) rest
          ∙ ap (λ (b : Bool). is_reached asked c.loop-advice.self.level || b)
          (sym (any_next (advice_reaches asked) c.loop-advice.i c.args.found.now c.in-Some.advice.now there))
          ∙ c.loop-advice.invariant.worst asked;
    }

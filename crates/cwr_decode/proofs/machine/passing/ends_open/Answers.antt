use Rattle.std.proofs.Common.{Bool, false, Some, None, not, refl, sym, subst}
use Rattle.std.specs.Prelude.{◌≡◌, true}
use Rattle.cwr_decode.specs.Steps.Machines.{HandsOut, Standing}
use Rattle.cwr_decode.proofs.lemmas.LineSteps.{waits_now}
use Rattle.cwr_decode.proofs.machine.passing.ends_open.Goals as goal

pub returns-in-Ok : goal.returns-in-Ok
returns-in-Ok c = λ yes so_far state finished.
    let d : Standing =
    record { line = c.args.cut.now; tally = c.args.tally.now; held = Some so_far; state = state; finished = finished } in
    let out : HandsOut false (Some so_far) (Some so_far) None = (refl, refl) in
    let found = c.in-Ok.ensures.carried in
    waits_now d c.judge.new.tally c.args.cut.now c.in-Ok.field-0.0 c.in-Ok.field-0.1 c.stays_open.result so_far (Some so_far) None
    refl c.in-Ok.ensures.carried c.in-Ok.ensures.ok c.judge.ensures.limits c.in-Ok.ensures.stands
    (λ xs st. c.stays_open.ensures xs c.in-Ok.field-0.0 st (c.in-Ok.ensures.stands xs st))
    (subst (λ (b : Bool). HandsOut b (Some so_far) (Some so_far) None) (sym (closed c.stays_open.result yes)) out) refl
  where
    closed : (b : Bool) → not b ≡ true → b ≡ false
    closed true h = absurd (cc h)
    closed false h = refl

use Rattle.std.proofs.Common.{List, ℕ, Option, ap, subst, sym}
use Rattle.std.specs.Prelude.{Err, Result, Some}
use Rattle.cwr_files.specs.declared.faults.Fault.TheVariants.{Memory}
use Rattle.cwr_files.specs.Steps.Gatherers.{given_to, has_handed_on, times_failed}
use Rattle.cwr_endings.specs.declared.endings.Status.{Status}
use Rattle.cwr_endings.specs.declared.stops.Stop.{Stop}
use Rattle.cwr_endings.specs.declared.stops.Stop.TheVariants as stops
use Rattle.cwr.specs.Format.Endings.{ending_status}
use Rattle.cwr.specs.Steps.Tells.{HandsOnWork, TellsBack, TellsWork}
use Rattle.cwr.proofs.lemmas.CameBack.{came_back}
use Rattle.cwr.proofs.lemmas.Leaves.{unbegun_leaves}
use Rattle.cwr_renumber.specs.Steps.Renumbered.{renumbered_text}
use Rattle.cwr.proofs.lemmas.Renumberings.{unbegun_renumbers}
use Rattle.cwr.proofs.lemmas.Failing.{unbegun_fails}
use Rattle.cwr.proofs.lemmas.Unbegun.{unbegun}
use Rattle.cwr.proofs.program.carry_out.Goals as goal

pub returns-in_default : goal.returns-in_default
returns-in_default g c = record {
  ending = Err (stops.Fault Memory);
  ends = unbegun c.args.task.now.limits c.args.task.now.whole c.args.task.now.work (g.S.Store.held c.args.store.now)
      (g.I.Read.remaining c.args.standard);
  status_is = c.report.ensures;
  fails = unbegun_fails c.args.task.now.work (g.S.Store.making c.args.store.now) (g.S.Store.held c.args.store.now)
      (g.S.Store.held c.args.store.now) (g.S.Store.failures c.args.store.now) (g.S.Store.failures c.args.store.now);
  files = λ none. unbegun_leaves c.args.task.now.limits c.args.task.now.whole c.args.task.now.work (g.S.Store.held c.args.store.now)
      (g.I.Read.remaining c.args.standard) (g.S.Store.failures c.args.store.now) (g.S.Store.failures c.args.store.now);
  renumbers = unbegun_renumbers renumbered_text c.args.task.now.limits c.args.task.now.whole c.args.task.now.work
      (g.I.Read.remaining c.args.standard) (g.S.Store.held c.args.store.now) (g.S.Store.making c.args.store.now)
      (g.S.Store.failures c.args.store.now) (g.S.Store.failures c.args.store.now);
  told = tt;
}

pub returns-in-Ok-ended : goal.returns-in-Ok-ended
returns-in-Ok-ended g c =
    let done = c.perform-lines in
    let limits = c.args.task.now.limits in
    let whole = c.args.task.now.whole in
    let work = c.args.task.now.work in
    let held = g.S.Store.held c.args.store.now in
    let standard : Option (List ℕ) = g.I.Read.remaining c.args.standard in
    let before : Option (List ℕ) = g.O.Write.contents c.args.output in
    let after : Option (List ℕ) = g.O.Write.contents c.into_inner.result in
    let count : ℕ = g.S.Store.failures c.args.store.now in
    let count_now : ℕ = g.S.Store.failures done.new.store in
    record {
      ending = done.result.1;
      ends = done.ensures.ends;
      status_is = ap ending_status (sym c.in-Ok-ended.is);
      fails = done.ensures.failed;
      files = done.ensures.files;
      renumbers = done.ensures.renumbers;
      told = subst (λ (r : Result Status Stop). TellsBack limits whole work held standard before (Some after) count count_now r)
          (sym c.in-Ok-ended.is)
          (came_back (λ writer. given_to g.O.Write.contents writer) (λ writer. times_failed writer) c.in-Ok.lines done.result.0 limits whole work
          held standard before after count count_now c.in-Ok-ended.status (has_handed_on done.result.0)
          c.in-Ok.ensures.contents c.in-Ok.ensures.failures
          (subst (λ (r : Result Status Stop). TellsWork limits whole work held standard (λ writer. given_to g.O.Write.contents writer)
          (λ writer. times_failed writer) c.in-Ok.lines done.result.0 count count_now r) c.in-Ok-ended.is done.ensures.told)
          (subst (λ (r : Result Status Stop). HandsOnWork work r (has_handed_on done.result.0)) c.in-Ok-ended.is done.ensures.handed_on)
          c.into_inner.ensures);
    }

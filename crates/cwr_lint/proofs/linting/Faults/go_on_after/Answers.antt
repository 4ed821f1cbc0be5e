use Rattle.std.proofs.Common.{Option, sym, subst}
use Rattle.std.specs.Prelude.{IsSomeAnd}
use Rattle.std.specs.Option.{is_some}
use Rattle.cwr_decode.specs.declared.readings.LastRead.{LastRead}
use Rattle.cwr_tools.specs.declared.verdicts.Verdict.{Verdict}
use Rattle.cwr_lint.specs.Format.FaultsOfLines.{Asking}
use Rattle.cwr_lint.specs.Format.Wanted.{asking_so}
use Rattle.cwr_lint.specs.Steps.Lints.{SaysFollows, TellsOn}
use Rattle.cwr_lint.proofs.lemmas.Tells.{said_refused}
use Rattle.cwr_lint.proofs.linting.Faults.go_on_after.Goals as goal

pub returns-in-Some-clause-says : goal.returns-in-Some-clause-says
returns-in-Some-clause-says g c =
    let asking : Asking = asking_so (is_some c.args.self.now.name) c.args.begun.said c.args.self.now.all in
    let left = g.R.Source.remaining c.args.reader.now in
    let after = g.R.Source.remaining c.tell_faults.new.reader in
    let told = said_refused g.W.Target.contents c.args.writer c.tell_faults.result.0 asking c.in-Some.last c.args.begun.findings
    c.args.begun.advice c.in-Refused.refusal left after c.tell_faults.result.1 c.tell_faults.ensures.told
    c.tell_faults.ensures.leaves in (
      told.0,
      told.1,
      subst (λ (v : Verdict). SaysFollows asking c.args.begun.findings c.args.begun.advice v c.args.front.now.last left after
          c.tell_faults.result.1 told.0) (sym c.in-Refused.is)
          (subst (λ (o : Option LastRead). IsSomeAnd o (λ it. TellsOn asking it c.args.begun.findings c.args.begun.advice
          c.in-Refused.refusal left after c.tell_faults.result.1 told.0)) (sym c.in-Some.is) told.2),
    )

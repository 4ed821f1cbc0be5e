use Rattle.std.proofs.Common.{List, ℕ, Option}
use Rattle.cwr_files.specs.Steps.Inputs.{remaining_of}
use Rattle.cwr_transform.specs.Steps.Selections.{asked_by}
use Rattle.cwr_transform.proofs.lemmas.SelectionStatuses.{status_ends}
use Rattle.cwr_transform.proofs.lemmas.SelectionsJudged.{is_judged}
use Rattle.cwr_transform.proofs.lemmas.SelectionsLeft.{select_ends}
use Rattle.cwr_transform.proofs.selections.select_to_output.Goals as goal

pub returns-clause-ends : goal.returns-clause-ends
returns-clause-ends g c =
    let left : Option (List ℕ) = remaining_of g.S.Reader.Read.remaining g.I.Read.remaining c.args.input in
    select_ends c.args.selection.now.limits c.args.selection.now.wanted c.args.selection.now.changes (g.C.Chooses.choice c.args.choice.now)
    left c.run-output.result.0 c.ending-ended.result _ _
    (is_judged c.args.selection.now.limits c.args.selection.now.changes (g.C.Chooses.choice c.args.choice.now) left g.W.Target.contents
    c.args.output c.run-output.result.1 c.run-output.result.0 c.run-output.ensures.judges) c.ending-ended.ensures

pub returns-clause-status : goal.returns-clause-status
returns-clause-status g c =
    status_ends (asked_by c.args.selection.now.limits c.args.selection.now.wanted g.C.Chooses.choice c.args.view.now)
    (remaining_of g.S.Reader.Read.remaining g.I.Read.remaining c.args.input) c.run-output.result.0 c.ending-ended.result _ _
    c.run-output.ensures.sees c.ending-ended.ensures

use Rattle.cwr_tools.specs.Format.Reports.{lines_of_explained}
use Rattle.cwr_tools.proofs.lemmas.LastSteps.{ok_before}
use Rattle.cwr_tools.proofs.lemmas.WatchedRuns.{stands_accepted}
use Rattle.cwr_explain.proofs.lemmas.WordsAfter.{explains_run, finds_run, told_run}
use Rattle.cwr_explain.proofs.explaining.explain.Goals as goal

pub returns-clause-explains : goal.returns-clause-explains
returns-clause-explains g c = let run = c.write_report_and-writer.ensures lines_of_explained c.explained-lines.ensures.stands in
    explains_run c.args.limits _ _ run.left _ g.W.Target.contents c.args.writer run.between _ run.checked _ _ run.reported run.goes_on

pub returns-clause-told : goal.returns-clause-told
returns-clause-told g c = let run = c.write_report_and-writer.ensures lines_of_explained c.explained-lines.ensures.stands in
    told_run c.args.limits _ _ run.left _ g.W.Target.contents c.args.writer run.between _ run.checked _ _ run.told run.goes_on

pub returns-clause-judged : goal.returns-clause-judged
returns-clause-judged g c = (c.write_report_and-writer.ensures lines_of_explained c.explained-lines.ensures.stands).judged

pub returns-clause-found : goal.returns-clause-found
returns-clause-found g c = let run = c.write_report_and-writer.ensures lines_of_explained c.explained-lines.ensures.stands in
    finds_run c.args.limits _ _ run.left _ g.W.Target.contents c.args.writer run.between _ run.checked _ _ run.told run.goes_on

pub returns-clause-told_of : goal.returns-clause-told_of
returns-clause-told_of g c = let run = c.write_report_and-writer.ensures lines_of_explained c.explained-lines.ensures.stands in
    ok_before _ _ c.args.limits _ run.left _ g.W.Target.contents run.between _ run.checked _ _ run.goes_on
    (stands_accepted c.args.limits _ run.left _ _ run.checked (c.told.ensures.told lines_of_explained) run.stood)

pub returns-clause-written : goal.returns-clause-written
returns-clause-written g c = (c.write_report_and-writer.ensures lines_of_explained c.explained-lines.ensures.stands).counted

pub returns-clause-reader_failures : goal.returns-clause-reader_failures
returns-clause-reader_failures g c =
    (c.write_report_and-writer.ensures lines_of_explained c.explained-lines.ensures.stands).reader_failures

pub returns-clause-writer_failures : goal.returns-clause-writer_failures
returns-clause-writer_failures g c =
    (c.write_report_and-writer.ensures lines_of_explained c.explained-lines.ensures.stands).writer_failures

pub returns-clause-handed_on : goal.returns-clause-handed_on
returns-clause-handed_on g c =
    (c.write_report_and-writer.ensures lines_of_explained c.explained-lines.ensures.stands).all_handed_on

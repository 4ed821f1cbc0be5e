use Rattle.cwr_transform.proofs.lemmas.SelectionsTold.{put_nothing}
use Rattle.cwr_transform.proofs.selections.put_lines_if.Goals as goal

pub returns-else-has_lines-clause-none : goal.returns-else-has_lines-clause-none
returns-else-has_lines-clause-none g c = λ unfailed none. put_nothing g.W.Target.contents g.W.Target.failures c.args.sink.now unfailed

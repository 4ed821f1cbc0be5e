use Rattle.cwr_files.proofs.lemmas.Gathers.{gathers_nothing}
use Rattle.cwr_files.proofs.outputs.gathered.Goals as goal

pub returns-in-Ok-clause-contents : goal.returns-in-Ok-clause-contents
returns-in-Ok-clause-contents g c =
    gathers_nothing g.O.Write.contents c.new-in-Ok.result c.in-Ok.writer c.new.result c.args.output c.new-in-Ok.ensures.inner
    c.in-Ok.ensures.inner c.in-Ok.ensures.empty c.new.ensures

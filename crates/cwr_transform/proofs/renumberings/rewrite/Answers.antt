use Rattle.std.proofs.Common.{sym, subst}
use Rattle.std.specs.Prelude.{Result}
use Rattle.cwr_tools.specs.declared.verdicts.JoinReport.{JoinReport}
use Rattle.cwr_tools.specs.declared.verdicts.ToolFault.{ToolFault}
use Rattle.cwr_tools.specs.Format.Watching.{AreFindingsIn}
use Rattle.cwr_renumber.specs.Steps.Renumbered.{renumbered_text}
use Rattle.cwr_transform.specs.Steps.Repairs.{Rewrites}
use Rattle.cwr_transform.proofs.lemmas.RepairsJudged.{rewrites_so}
use Rattle.cwr_transform.proofs.renumberings.rewrite.Goals as goal

pub returns-clause-rewrites : goal.returns-clause-rewrites
returns-clause-rewrites g c =
    subst
    (λ (r : Result JoinReport ToolFault). Rewrites renumbered_text c.args.limits (AreFindingsIn c.renumber_viewed-reader.new.viewer.count)
    (g.R.Source.remaining c.args.reader) g.W.Target.contents c.args.writer c.renumber_viewed-reader.result.1 r)
    (sym c.look_after-outcome.ensures.outcome)
    (rewrites_so c.args.limits (g.R.Source.remaining c.args.reader) g.W.Target.contents c.args.writer c.renumber_viewed-reader.result.1
    c.new-view.result c.renumber_viewed-reader.new.viewer c.renumber_viewed-reader.result.2 c.new-view.ensures
    c.renumber_viewed-reader.ensures.renumbers c.renumber_viewed-reader.ensures.accepted c.renumber_viewed-reader.ensures.seen)

pub returns-clause-reads : goal.returns-clause-reads
returns-clause-reads g c =
    c.look_after-outcome.ensures.reads (g.R.Source.failures c.args.reader) c.renumber_viewed-reader.ensures.reader_failures

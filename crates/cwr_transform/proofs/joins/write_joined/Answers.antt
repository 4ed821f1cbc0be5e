use Rattle.std.proofs.Common.{rules, sym, subst, ◌∙◌}
use Rattle.std.specs.Io.KnownBytes.{Keeps}
use Rattle.cwr_files.specs.Steps.Gathering.{written_to}
use Rattle.cwr_transform.proofs.lemmas.JoinsRead.{readers_joined}
use Rattle.cwr_transform.proofs.joins.write_joined.Goals as goal

pub returns-clause-joins : goal.returns-clause-joins
returns-clause-joins g c =
    readers_joined c.args.union.now.limits g.R.Source.remaining g.R.Source.failures c.args.readers.now c.join_viewed-writer.new.readers
    (written_to (λ paced. g.F.Write.contents paced.output)) c.in_ok-writer.writer c.join_viewed-writer.result.0 c.join_viewed-writer.result.1
    (g.F.Write.contents c.args.file) (g.F.Write.contents c.unpaced-written.result.writer) c.unpaced-written.result.is_whole
    c.join_viewed-writer.ensures.told c.join_viewed-writer.ensures.accepted (search rules)
    (λ all. subst
    (λ (w : _). Keeps (written_to (λ paced. g.F.Write.contents paced.output) c.join_viewed-writer.result.0) (g.F.Write.contents w))
    (sym c.unpaced-written.ensures.writer) (c.take_back-written.ensures.whole (sym c.unpaced-written.ensures.whole ∙ all)))

use Rattle.std.proofs.Common.{ap, refl, subst, sym, ◌∙◌}
use Rattle.cwr_renumber.specs.Steps.Renumberings.{CountsReader}
use Rattle.cwr_renumber.specs.Steps.Sources.{inner_of, left_of}
use Rattle.cwr_renumber.proofs.lemmas.OneJoined.{accepted_one, left_one, reader_one, renumbers_one, seen_one, writer_one}
use Rattle.cwr_renumber.proofs.renumbering.renumber_viewed.Goals as goal

pub returns-clause-renumbers : goal.returns-clause-renumbers
returns-clause-renumbers g c =
    renumbers_one c.args.limits (λ s. left_of s (g.R.Source.remaining (inner_of s))) (λ s. g.R.Source.failures (inner_of s))
    g.W.Target.contents c.new-source.result _ _ c.args.writer c.join_alone-writer.result.0
    (g.R.Source.remaining c.args.reader) c.join_alone-writer.result.1 c.of_one.result refl
    (ap (λ r. left_of c.new-source.result (g.R.Source.remaining r)) c.new-source.ensures.inner ∙ c.new-source.ensures.left)
    c.of_one.ensures c.join_alone-writer.ensures.told

pub returns-clause-accepted : goal.returns-clause-accepted
returns-clause-accepted g c =
    accepted_one c.args.limits (λ s. left_of s (g.R.Source.remaining (inner_of s))) g.W.Target.contents c.new-source.result _
    c.args.writer c.join_alone-writer.result.0
    (g.R.Source.remaining c.args.reader) c.join_alone-writer.result.1 c.of_one.result refl
    (ap (λ r. left_of c.new-source.result (g.R.Source.remaining r)) c.new-source.ensures.inner ∙ c.new-source.ensures.left)
    c.of_one.ensures c.join_alone-writer.ensures.accepted

pub returns-clause-leaves : goal.returns-clause-leaves
returns-clause-leaves g c =
    left_one c.args.limits (λ s. left_of s (g.R.Source.remaining (inner_of s))) (λ s. g.R.Source.failures (inner_of s))
    g.W.Target.contents c.new-source.result _ _ c.args.writer c.join_alone-writer.result.0
    (g.R.Source.remaining c.args.reader) c.join_alone-writer.result.1 c.of_one.result refl
    (ap (λ r. left_of c.new-source.result (g.R.Source.remaining r)) c.new-source.ensures.inner ∙ c.new-source.ensures.left)
    c.of_one.ensures c.join_alone-writer.ensures.told

pub returns-clause-writer_failures : goal.returns-clause-writer_failures
returns-clause-writer_failures g c =
    writer_one c.join_alone-writer.result.1 c.of_one.result _ _ c.of_one.ensures c.join_alone-writer.ensures.writer_failures

pub returns-clause-seen : goal.returns-clause-seen
returns-clause-seen g c =
    seen_one c.args.limits (λ s. left_of s (g.R.Source.remaining (inner_of s))) g.V.Viewer.has_seen c.new-source.result _ _
    c.join_alone-writer.result.1 c.of_one.result c.args.viewer.now c.join_alone-writer.new.viewer refl
    (ap (λ r. left_of c.new-source.result (g.R.Source.remaining r)) c.new-source.ensures.inner ∙ c.new-source.ensures.left)
    c.of_one.ensures c.join_alone-writer.ensures.seen

pub returns-clause-reader_failures : goal.returns-clause-reader_failures
returns-clause-reader_failures g c =
    let first = c.new-source.result in
    let last = c.join_alone-writer.new.reader in
    subst (λ (r : g.row.R.Denot). CountsReader c.of_one.result (g.R.Source.failures r) (g.R.Source.failures c.into_parts-reader.result.0))
    c.new-source.ensures.inner
    (subst (λ (r : g.row.R.Denot). CountsReader c.of_one.result (g.R.Source.failures (inner_of first)) (g.R.Source.failures r))
    (sym c.into_parts-reader.ensures)
    (reader_one c.args.limits (λ s. left_of s (g.R.Source.remaining (inner_of s))) (λ s. g.R.Source.failures (inner_of s))
    g.W.Target.contents first last c.args.writer c.join_alone-writer.result.0 c.join_alone-writer.result.1 c.of_one.result
    c.of_one.ensures c.join_alone-writer.ensures.told))

use Rattle.std.proofs.Common.{[], ◌∷◌, arith, subst, sym}
use Rattle.std.specs.Prelude.{Err}
use Rattle.cwr_parts.specs.Steps.Joined.{joined_writer}
use Rattle.cwr_parts.specs.Steps.Joins.{Joins}
use Rattle.cwr_parts.proofs.lemmas.AcceptedJoins.{joins_accepted}
use Rattle.cwr_parts.proofs.lemmas.ToldRuns.{joins_texts}
use Rattle.cwr_parts.proofs.lemmas.JoinsWhole.{joins_end, ready_to_end}
use Rattle.cwr_parts.proofs.joining.join_alone.Goals as goal

pub finish-requires-clause-all : goal.finish-requires-clause-all
finish-requires-clause-all g c =
    ready_to_end c.args.limits g.R.Source.remaining g.R.Source.failures g.W.Target.contents (c.args.reader.now ∷ [])
    (c.add_alone.new.reader ∷ []) c.new-joined.result c.add_alone.new.joined
    c.new-joined.ensures.range (omega arith) c.in-Ok.ensures.joins

pub returns-in-Ok-clause-accepted : goal.returns-in-Ok-clause-accepted
returns-in-Ok-clause-accepted g c =
    joins_accepted c.args.limits g.R.Source.remaining g.R.Source.failures g.W.Target.contents (c.args.reader.now ∷ [])
    (c.add_alone.new.reader ∷ []) c.args.writer c.finish.result.0 c.finish.result.1
    (joins_end c.args.limits g.R.Source.remaining g.R.Source.failures g.W.Target.contents g.W.Target.failures (c.args.reader.now ∷ [])
    (c.add_alone.new.reader ∷ []) c.new-joined.result c.add_alone.new.joined
    c.args.writer c.finish.result.0 c.finish.result.1 c.new-joined.ensures.writer (omega arith) c.in-Ok.ensures.joins
    c.finish.ensures.ends)

pub returns-in-Err-clause-accepted : goal.returns-in-Err-clause-accepted
returns-in-Err-clause-accepted g c =
    joins_accepted c.args.limits g.R.Source.remaining g.R.Source.failures g.W.Target.contents (c.args.reader.now ∷ [])
    (c.add_alone.new.reader ∷ []) (joined_writer c.new-joined.result) (joined_writer c.add_alone.new.joined)
    (Err c.in-Err.fault) c.in-Err.ensures.joins

pub returns-in-Ok-clause-told : goal.returns-in-Ok-clause-told
returns-in-Ok-clause-told g c =
    joins_texts c.args.limits g.R.Source.remaining g.R.Source.failures g.W.Target.contents (c.args.reader.now ∷ [])
    (c.add_alone.new.reader ∷ []) c.args.writer c.finish.result.0 c.finish.result.1
    (joins_end c.args.limits g.R.Source.remaining g.R.Source.failures g.W.Target.contents g.W.Target.failures (c.args.reader.now ∷ [])
    (c.add_alone.new.reader ∷ []) c.new-joined.result c.add_alone.new.joined
    c.args.writer c.finish.result.0 c.finish.result.1 c.new-joined.ensures.writer (omega arith) c.in-Ok.ensures.joins
    c.finish.ensures.ends)

pub returns-in-Err-clause-told : goal.returns-in-Err-clause-told
returns-in-Err-clause-told g c =
    let ended : g.row.W.Denot → g.row.W.Denot → Type 0 =
    λ first last. Joins c.args.limits g.R.Source.remaining g.R.Source.failures g.W.Target.contents (c.args.reader.now ∷ [])
    (c.add_alone.new.reader ∷ []) first last (Err c.in-Err.fault) in
    joins_texts c.args.limits g.R.Source.remaining g.R.Source.failures g.W.Target.contents (c.args.reader.now ∷ [])
    (c.add_alone.new.reader ∷ []) c.args.writer c.abandon.result (Err c.in-Err.fault)
    (subst (ended c.args.writer) (sym c.abandon.ensures)
    (subst (λ (w : g.row.W.Denot). ended w (joined_writer c.add_alone.new.joined)) c.new-joined.ensures.writer
    c.in-Err.ensures.joins))

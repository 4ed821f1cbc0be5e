use Rattle.std.proofs.Common.{[], ◌∷◌, arith, refl}
use Rattle.cwr_parts.proofs.lemmas.InputsJoined.{none_joined, one_alone, stopped_in_hand}
use Rattle.cwr_parts.proofs.lemmas.InputsSeen.{input_seen, no_inputs_seen}
use Rattle.cwr_parts.proofs.joining.add_alone.Goals as goal

pub returns-in-Ok-clause-joins : goal.returns-in-Ok-clause-joins
returns-in-Ok-clause-joins g c =
    one_alone c.args.limits g.R.Source.remaining g.R.Source.failures g.W.Target.contents g.W.Target.failures c.args.reader.now
    c.add_input.new.reader c.args.joined.now c.add_input.new.joined tt c.requires.empty c.requires.limits c.in-Ok.ensures.adds
    c.in-Ok.ensures.failures

pub returns-in-Err-clause-joins : goal.returns-in-Err-clause-joins
returns-in-Err-clause-joins g c =
    let before = c.args.reader.now ∷ [] in
    stopped_in_hand c.args.limits g.R.Source.remaining g.R.Source.failures g.W.Target.contents g.W.Target.failures 0 before before
    c.args.joined.now c.args.joined.now c.add_input.new.joined c.args.reader.now c.add_input.new.reader c.in-Err.fault
    (none_joined c.args.limits g.R.Source.remaining g.R.Source.failures g.W.Target.contents g.W.Target.failures before c.args.joined.now
    c.requires.empty c.requires.unfailed c.requires.limits) (omega arith) refl c.in-Err.ensures.adds c.in-Err.ensures.failures

pub returns-in-Ok-clause-seen : goal.returns-in-Ok-clause-seen
returns-in-Ok-clause-seen g c =
    input_seen c.args.limits g.R.Source.remaining g.V.Viewer.has_seen [] c.args.reader.now c.add_input.new.reader c.args.viewer.now
    c.args.viewer.now c.add_input.new.viewer (no_inputs_seen c.args.limits g.R.Source.remaining g.V.Viewer.has_seen c.args.viewer.now)
    c.in-Ok.ensures.seen

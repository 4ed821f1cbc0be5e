use Rattle.std.proofs.Common.{ap, get_or}
use Rattle.cwr_parts.proofs.lemmas.InputsJoined.{between_inputs, none_joined, one_joined, stopped_in_hand}
use Rattle.cwr_parts.proofs.lemmas.InputsSeen.{input_seen, no_inputs_seen}
use Rattle.cwr_parts.proofs.joining.add_inputs.Goals as goal

pub inputs-init : goal.inputs-init
unfolding none_joined
inputs-init g c = record {
  joined =
      none_joined c.args.limits g.R.Source.remaining g.R.Source.failures g.W.Target.contents g.W.Target.failures c.args.readers.now
      c.args.joined.now c.requires.empty c.requires.unfailed c.requires.limits;
  seen = no_inputs_seen c.args.limits g.R.Source.remaining g.V.Viewer.has_seen c.args.viewer.now;
}

pub add_input-requires-clause-between : goal.add_input-requires-clause-between
add_input-requires-clause-between g c =
    between_inputs c.args.limits g.R.Source.remaining g.R.Source.failures g.W.Target.contents g.W.Target.failures c.inputs.i
    c.args.readers.now c.inputs.readers c.args.joined.now c.inputs.joined c.inputs.invariant.joined

pub inputs-preserved : goal.inputs-preserved
unfolding one_joined
inputs-preserved g c = record {
  joined =
      one_joined c.args.limits g.R.Source.remaining g.R.Source.failures g.W.Target.contents g.W.Target.failures c.inputs.i
      c.args.readers.now c.inputs.readers c.args.joined.now c.inputs.joined c.add_input.new.joined
      (get_or c.inputs.readers c.inputs.i c.index-readers-i.result) c.add_input.new.reader tt c.inputs.invariant.joined
      c.inputs-test.true (ap (get_or c.inputs.readers c.inputs.i) c.index-readers-i.is) c.in-Ok.ensures.adds
      c.in-Ok.ensures.failures;
  seen =
      input_seen c.args.limits g.R.Source.remaining g.V.Viewer.has_seen c.inputs.invariant.joined.earlier
      (get_or c.inputs.readers c.inputs.i c.index-readers-i.result) c.add_input.new.reader c.args.viewer.now c.inputs.viewer
      c.add_input.new.viewer c.inputs.invariant.seen c.in-Ok.ensures.seen;
}

pub returns-in-Err-clause-joins : goal.returns-in-Err-clause-joins
returns-in-Err-clause-joins g c =
    stopped_in_hand c.args.limits g.R.Source.remaining g.R.Source.failures g.W.Target.contents g.W.Target.failures c.inputs.i
    c.args.readers.now c.inputs.readers c.args.joined.now c.inputs.joined c.add_input.new.joined
    (get_or c.inputs.readers c.inputs.i c.index-readers-i.result) c.add_input.new.reader c.in-Err.fault c.inputs.invariant.joined
    c.inputs-test.true (ap (get_or c.inputs.readers c.inputs.i) c.index-readers-i.is) c.in-Err.ensures.adds
    c.in-Err.ensures.failures

use Rattle.std.proofs.Common.{◌-◌, length}
use Rattle.cwr_parts.specs.Format.Joins.{SeesInputs}
use Rattle.cwr_parts.proofs.lemmas.InputsJoined.{AreJoinedSoFar}
use Rattle.cwr_parts.proofs.joining.add_inputs.Given as goal

abbrev pub invariant-inputs : goal.invariant-inputs
invariant-inputs g l = record {
  joined : AreJoinedSoFar l.fn.limits g.R.Source.remaining g.R.Source.failures g.W.Target.contents g.W.Target.failures l.i
      l.fn.readers l.readers l.fn.joined l.joined;
  seen : SeesInputs l.fn.limits g.R.Source.remaining g.V.Viewer.has_seen joined.earlier l.fn.viewer l.viewer;
}

abbrev pub decreases-inputs : goal.decreases-inputs
decreases-inputs g l = length l.initial.readers - l.i

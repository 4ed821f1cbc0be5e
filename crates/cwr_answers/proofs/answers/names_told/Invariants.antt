use Rattle.std.proofs.Common.{map}
use Rattle.cwr_answers.specs.Steps.Reading.{AreShown}
use Rattle.cwr_answers.proofs.answers.names_told.Given as goal

abbrev pub invariant-loop-name : goal.invariant-loop-name
invariant-loop-name l = AreShown l.answering.form (map (λ n. n.items) l.names.items)

use Rattle.std.proofs.Common.{List, subst, arith}
use Rattle.cwr_values.specs.declared.items.Item.{Item}
use Rattle.cwr_parts.specs.Steps.SplitOutputs.{MayPut}
use Rattle.cwr_parts.proofs.lemmas.OutputAdded.{opening_first}
use Rattle.cwr_parts.proofs.split_output.SplitOutput.begin.Goals as goal

pub put-requires-clause-may : goal.put-requires-clause-may
put-requires-clause-may g c =
    subst (λ (l : List Item). MayPut g.W.Target.contents l c.args.self.now.encoder)
    (opening_first c.args.opening.now c.args.self.now (omega arith)) c.requires.may

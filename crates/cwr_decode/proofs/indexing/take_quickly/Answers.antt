use Rattle.std.proofs.Common.{List, refl, subst}
use Rattle.std.specs.Prelude.{IfSome}
use Rattle.cwr_shape.specs.declared.symbols.Symbol.{Symbol}
use Rattle.cwr_shape.specs.Steps.Tallies.{TallyValue, IsTallyOf}
use Rattle.cwr_decode.specs.Steps.TakenLines.{TakesLine}
use Rattle.cwr_decode.proofs.indexing.take_quickly.Goals as goal

pub returns-in-None-clause-some : goal.returns-in-None-clause-some
returns-in-None-clause-some c =
    subst (λ (t : TallyValue). (xs : List Symbol) → IsTallyOf t xs → IfSome c.take_filled.result
    (λ got. TakesLine t xs c.args.text.now got c.take_filled.new.tally)) (c.in-None.ensures.none
    refl) c.take_filled.ensures.some

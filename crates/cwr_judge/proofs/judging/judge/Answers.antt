use Rattle.std.proofs.Common.{refl, subst}
use Rattle.cwr_shape.specs.Steps.Tallies.{TallyValue, IsTallyOf}
use Rattle.cwr_judge.specs.Steps.Judged.{IsOfNone, IsFirstFault}
use Rattle.cwr_judge.proofs.judging.judge.Goals as goal

pub returns-in-None-clause-err : goal.returns-in-None-clause-err
returns-in-None-clause-err c = λ xs st. c.in-None.ensures.none xs st refl

pub returns-in-None-clause-first : goal.returns-in-None-clause-first
returns-in-None-clause-first c = λ xs st.
    subst (λ (t : TallyValue). IsTallyOf t xs → IsOfNone t.limits xs c.args.line.now
    → IsFirstFault t.limits xs c.args.line.now c.first_fault.result.field c.first_fault.result.reason) (c.in-None.ensures.kept refl)
    (c.first_fault.ensures xs) st (c.in-None.ensures.none xs st refl)

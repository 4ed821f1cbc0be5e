use Rattle.std.proofs.Common.{Bool, true≢false, List, Option, Some, None, refl, sym, inr}
use Rattle.std.specs.Prelude.{IsSomeAnd}
use Rattle.cwr_lines.specs.Format.Records.{RecordValue, IsRecord}
use Rattle.cwr_lines.specs.Steps.Held.{held_record}
use Rattle.cwr_lint_lines.specs.declared.takings.Taking.{Taking}
use Rattle.cwr_lint.specs.Steps.Walks.{AfterCarried}
use Rattle.cwr_lint.proofs.findings.after_known.Goals as goal

none_after : (taken : Taking) (in_step : Bool) (old : Option (List RecordValue)) (o : Option RecordValue) → ¬ IsSomeAnd o IsRecord
    → AfterCarried taken in_step old o None
none_after taken in_step old None h = refl
none_after taken in_step old (Some r) h = inr (h, refl)

pub returns-in-None : goal.returns-in-None
returns-in-None c =
    none_after c.args.known.now.taken c.args.in_step c.args.begun (held_record c.args.line.now)
    (λ h. true≢false (sym (c.in-None.ensures.some.1 h)))

use Rattle.std.proofs.Common.{ℕ, List, inl, inr, refl, subst}
use Rattle.std.specs.Prelude.{IfErr, IfOk, Result}
use Rattle.cwr_shape.specs.declared.limits.Limits.{Limits}
use Rattle.cwr_tools.specs.declared.verdicts.Verdict.{Verdict}
use Rattle.cwr_tools.specs.declared.verdicts.ToolFault.{ToolFault}
use Rattle.cwr_summary.specs.Format.Summaries.{lines_of_nothing}
use Rattle.cwr_calls.specs.Format.Copies.{CopiesOut}
use Rattle.cwr_calls.specs.Steps.Checked.{MayLackMemory}
use Rattle.cwr_calls.specs.Steps.Summed.{SumsText}
use Rattle.cwr_calls.proofs.calls.sum_text.Goals as goal

pub returns-in-Ok-found-clause-told : goal.returns-in-Ok-found-clause-told
returns-in-Ok-found-clause-told c =
    let numbers : List ℕ = c.summarize-found.result.0.numbers in
    let summed : SumsText c.in-Ok.limits c.args.text.now c.in-Ok-found.found numbers =
    subst (λ (r : Result Verdict ToolFault). IfOk r (λ verdict. SumsText c.in-Ok.limits c.args.text.now verdict numbers)) c.in-Ok-found.is
    c.summarize-found.ensures.summed in
    inr (inr (
      c.in-Ok-found.found,
      numbers,
      c.in_c.ensures,
      subst (λ (l : Limits). SumsText l c.args.text.now c.in-Ok-found.found numbers) c.in-Ok.ensures.0 summed,
      subst (λ (l : List ℕ). CopiesOut l c.args.numbers.now c.copy_numbers.new.room c.copy_numbers.result) c.numbers.ensures
          c.copy_numbers.ensures,
    ))

pub returns-in-Err-clause-told : goal.returns-in-Err-clause-told
returns-in-Err-clause-told c =
    let lacking : MayLackMemory lines_of_nothing c.in-Ok.limits c.args.text.now =
    subst (λ (r : Result Verdict ToolFault). IfErr r (λ fault. MayLackMemory lines_of_nothing c.in-Ok.limits c.args.text.now)) c.in-Err.is
    c.summarize-found.ensures.memory in
    inr (inl (
      c.ended-in-Err.ensures,
      refl,
      refl,
      subst (λ (l : Limits). MayLackMemory lines_of_nothing l c.args.text.now) c.in-Ok.ensures.0 lacking,
    ))

use Rattle.std.proofs.Common.{List, [], ◌++◌, take, sym, ap, subst, ◌∙◌, arith}
use Rattle.std.specs.Prelude.{◌≢◌}
use Rattle.cwr_lines.specs.Format.Records.{RecordValue}
use Rattle.cwr_findings.specs.declared.rules.Finding.{Finding}
use Rattle.cwr_findings.specs.Format.Findings.{findings, findings_at}
use Rattle.cwr_findings.specs.Steps.Walks.{IsBefore}
use Rattle.cwr_findings.proofs.lemmas.OneMore.{take_more}
use Rattle.cwr_findings.proofs.lemmas.FoundByRule.{on_err}
use Rattle.cwr_findings.proofs.lemmas.FoundByRecord.{found_more, found_whole, some_whole}
use Rattle.cwr_findings.proofs.walk.findings.Goals as goal

pub returns-in_err-add_findings_at-clause-err : goal.returns-in_err-add_findings_at-clause-err
returns-in_err-add_findings_at-clause-err c = on_err c.from_residual.result (findings c.args.transaction.now ≢ [])
    (some_whole c.args.transaction.now c.of-registered.result.1 c.of-registered.result.0 c.of-registered.ensures.start
    c.of-registered.ensures.value c.loop-sequence.sequence c.in-Some.shown (sym c.record.ensures.value ∙ c.in-Some.is)
    c.in_err-add_findings_at.ensures.err)

pub loop-sequence-preserved : goal.loop-sequence-preserved
loop-sequence-preserved c =
    let there = sym c.record.ensures.value ∙ c.in-Some.is in
    record {
      found =
          c.in_ok-add_findings_at.ensures.ok ∙ ap (λ (l : List Finding). l ++ findings_at c.of-registered.result.1
          c.of-registered.result.0 c.loop-sequence.sequence c.in-Some.shown) c.loop-sequence.invariant.found
          ∙ found_more c.of-registered.result.1 c.of-registered.result.0 c.loop-sequence.sequence c.in-Some.shown there;
      before =
          subst (λ (l : List RecordValue). IsBefore l c.with-before.result)
          (sym (take_more c.of-registered.result.0 c.loop-sequence.sequence c.in-Some.shown there))
          (c.with-before.ensures (take c.loop-sequence.sequence c.of-registered.result.0) c.loop-sequence.invariant.before);
    }

pub add_findings_at-requires-clause-room : goal.add_findings_at-requires-clause-room
add_findings_at-requires-clause-room c =
    omega (arith, c.of-registered.ensures.room, c.loop-sequence-test.true, c.len-sequence-end.ensures.len)

pub returns-clause-ok : goal.returns-clause-ok
returns-clause-ok c = c.loop-sequence.invariant.found
    ∙ found_whole c.args.transaction.now c.of-registered.result.1 c.of-registered.result.0 c.of-registered.ensures.start
    c.of-registered.ensures.value c.loop-sequence.sequence
    (omega (arith, c.loop-sequence-test.false, c.len-sequence-end.ensures.len))

use Rattle.std.proofs.Common.{◌+◌, ◌≤◌, ℕ, length, sym, ap, ◌∙◌, arith}
use Rattle.std.specs.Prelude.{slice_get}
use Rattle.cwr_fields.specs.declared.kinds.Kind.TheVariants as kinds
use Rattle.cwr_findings.specs.Format.Findings.{is_a}
use Rattle.cwr_notes.proofs.lemmas.OthersListed.{few_listed}
use Rattle.cwr_notes.proofs.passed.Passed.move_to.Goals as goal

pub pass-requires-clause-counted : goal.pass-requires-clause-counted
pass-requires-clause-counted c =
    let within : c.loop-at.self.at ≤ length c.args.transaction.now =
    omega (arith, c.loop-at.invariant.at, c.loop-at-test.true, c.requires.within) in
    few_listed (is_a kinds.Spu) c.args.transaction.now c.loop-at.self.at c.loop-at.self.publishers within
    c.loop-at.invariant.passed.publishers

pub loop-at-preserved : goal.loop-at-preserved
loop-at-preserved c = record {
  passed =
      c.pass.ensures.passed c.args.transaction.now
      (ap (slice_get c.args.transaction.now) c.loop-at.invariant.at ∙ sym c.in-Some.ensures.value) c.loop-at.invariant.passed;
  at = c.pass.ensures.at ∙ ap (λ (n : ℕ). n + 1) c.loop-at.invariant.at;
}

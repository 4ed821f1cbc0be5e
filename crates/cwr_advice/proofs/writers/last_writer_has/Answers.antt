use Rattle.std.proofs.Common.{◌≡◌, ℕ, ◌+◌, ◌-◌, ◌≤◌, length, take, sym, ap, ◌∙◌, arith}
use Rattle.std.specs.Str.{bytes_eq}
use Rattle.cwr_findings.specs.Format.Findings.{has_party_number}
use Rattle.cwr_advice.specs.Format.Rules.{last_writer}
use Rattle.cwr_advice.proofs.lemmas.AdvisedFields.{named_number}
use Rattle.cwr_advice.proofs.lemmas.BegunChains.{none_within}
use Rattle.cwr_advice.proofs.lemmas.LastWriters.{no_writer_first, writer_before, writer_here}
use Rattle.cwr_advice.proofs.lemmas.SinceParty.{same_first}
use Rattle.cwr_advice.proofs.writers.last_writer_has.Goals as goal

pub returns-then-is_writer : goal.returns-then-is_writer
returns-then-is_writer c =
    let next : (c.loop-left.left - 1) + 1 ≡ c.loop-left.left = omega (arith, c.loop-left-test.true) in
    let writes = sym c.is_writer.ensures ∙ c.if-is_writer.true in
    c.eq.ensures
    ∙ ap (bytes_eq c.args.number.now)
    (named_number c.in-Some.other c.cell.result.now c.cell.ensures.value writes c.cell.ensures.fits)
    ∙ sym (ap (has_party_number c.args.number.now) (c.loop-left.invariant.same ∙ writer_here c.args.transaction.now
    (c.loop-left.left - 1) c.loop-left.left c.in-Some.other next (sym c.in-Some.ensures.value) writes))

pub loop-left-preserved-else-is_writer : goal.loop-left-preserved-else-is_writer
loop-left-preserved-else-is_writer c =
    let next : (c.loop-left.left - 1) + 1 ≡ c.loop-left.left = omega (arith, c.loop-left-test.true) in
    record {
      within = omega (arith, c.loop-left.invariant.within);
      same =
          c.loop-left.invariant.same ∙ writer_before c.args.transaction.now (c.loop-left.left - 1) c.loop-left.left
          c.in-Some.other next (sym c.in-Some.ensures.value) (sym c.is_writer.ensures ∙ c.if-is_writer.false);
    }

pub loop-left-preserved : goal.loop-left-preserved
loop-left-preserved c =
    let end : length c.args.transaction.now ≤ c.loop-left.left - 1 =
    none_within c.args.transaction.now (c.loop-left.left - 1) c.in_default.ensures.value in
    record {
      within = omega (arith, c.loop-left.invariant.within);
      same =
          c.loop-left.invariant.same
          ∙ ap last_writer (same_first c.args.transaction.now (c.loop-left.left - 1) c.loop-left.left end (omega arith));
    }

pub returns : goal.returns
returns c =
    let none : c.loop-left.left ≡ 0 = omega (arith, c.loop-left-test.false) in
    sym (ap (has_party_number c.args.number.now)
    (c.loop-left.invariant.same ∙ ap (λ (n : ℕ). last_writer (take n c.args.transaction.now)) none)
    ∙ no_writer_first c.args.number.now c.args.transaction.now)

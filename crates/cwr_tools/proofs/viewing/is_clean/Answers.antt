use Rattle.std.proofs.Common.{sym, subst, arith, rules}
use Rattle.std.specs.Prelude.{take}
use Rattle.std.proofs.lemmas.List.{take_all}
use Rattle.cwr_encode.proofs.lemmas.PutRows.{found_within}
use Rattle.cwr_findings.specs.Steps.Sums.{StandFor}
use Rattle.cwr_findings.proofs.lemmas.OneMore.{take_more}
use Rattle.cwr_tools.proofs.viewing.is_clean.Goals as goal

pub records-init : goal.records-init
records-init c =
    let some = found_within c.args.transaction.now 0 c.in-Some.header c.in-Some.ensures.value in
    record {
      within = omega (arith, some);
      stand =
          subst (StandFor c.begin.new.self)
          (sym (take_more c.args.transaction.now 0 c.in-Some.header (sym c.in-Some.ensures.value)))
          (c.begin.ensures c.if-not-begin.false);
    }

pub records-preserved : goal.records-preserved
records-preserved c =
    let more = found_within c.args.transaction.now c.records.i c.in-Some-record.next c.in-Some-record.ensures.value in
    record {
      within = omega (arith, more);
      stand =
          subst (StandFor c.add_next.new.sums)
          (sym (take_more c.args.transaction.now c.records.i c.in-Some-record.next (sym c.in-Some-record.ensures.value)))
          (c.add_next.ensures (take c.records.i c.args.transaction.now) c.records.invariant.stand c.if-not-add_next.false);
    }

pub returns : goal.returns
returns c =
    c.is_clean.ensures c.args.transaction.now
    (subst (StandFor c.records.sums) (take_all c.records.i c.args.transaction.now (search rules)) c.records.invariant.stand)

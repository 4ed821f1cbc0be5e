use Rattle.std.proofs.Common.{sym, subst, arith, ℕ, ◌+◌}
use Rattle.cwr_shape.specs.declared.reasons.Reason.TheVariants.{Excess}
use Rattle.cwr_judge.specs.Steps.Judged.{IsGoodAt, IsWrongAt, cell, past_last}
use Rattle.cwr_judge.proofs.lemmas.FirstFaults.{first_of, first_barred, one_more}
use Rattle.cwr_judge.proofs.lemmas.GoodLines.{excess_left}
use Rattle.cwr_judge.proofs.judging.first_fault.Goals as goal

pub returns-in-Err : goal.returns-in-Err
returns-in-Err c =
    λ xs st none. first_barred c.args.tally.now.limits xs c.args.line.now c.in-Some.kind c.in-Err.bar c.reason_of.result
    (sym c.in-Some.ensures) (c.in-Err.ensures xs st) c.reason_of.ensures

pub returns-in-Err-judge_field : goal.returns-in-Err-judge_field
returns-in-Err-judge_field c = λ xs st none.
    first_of c.args.tally.now.limits xs c.args.line.now c.in-Some.kind c.loop-j.j c.in-Err-judge_field.reason
    (sym c.in-Some.ensures)
    (record {
      here = cell c.loop-j.j c.in-Err-judge_field.reason (omega arith) (c.in_default-admits_kind.ensures xs st)
          (c.in-Err-judge_field.ensures.err xs st (c.in_default-admits_kind.ensures xs st));
      before = c.loop-j.invariant xs st;
    })

pub loop-j-preserved : goal.loop-j-preserved
loop-j-preserved c = λ xs st.
    one_more (IsGoodAt c.args.tally.now.limits xs c.args.line.now c.in-Some.kind) c.loop-j.j (c.loop-j.invariant xs st)
    (c.in_default-judge_field.ensures.ok xs st (c.in_default-admits_kind.ensures xs st))

pub returns : goal.returns
returns c = λ xs st none.
    let count = c.fields-count.ensures in
    let excess =
    excess_left c.args.tally.now.limits xs c.args.line.now c.in-Some.kind (sym c.in-Some.ensures)
    (c.in_default-admits_kind.ensures xs st) (λ i from to. c.loop-j.invariant xs st i from (omega arith)) none in
    first_of c.args.tally.now.limits xs c.args.line.now c.in-Some.kind (c.fields-count.result + 1) Excess (sym c.in-Some.ensures)
    (record {
      here =
          subst (λ (n : ℕ). IsWrongAt c.args.tally.now.limits xs c.args.line.now c.in-Some.kind (n + 1) Excess) (sym count)
          (past_last (c.in_default-admits_kind.ensures xs st) excess);
      before = λ i from to. c.loop-j.invariant xs st i from (omega arith);
    })

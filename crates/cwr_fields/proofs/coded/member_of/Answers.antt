use Rattle.std.proofs.Common.{sym, ◌∙◌, arith, true≢false}
use Rattle.cwr_fields.proofs.lemmas.Members.{found_at, passed_at, none_from}
use Rattle.cwr_fields.proofs.coded.member_of.Goals as goal

pub returns-then-is_filled : goal.returns-then-is_filled
returns-then-is_filled g c =
    sym (c.loop-member.invariant ∙ found_at c.args.list.now c.args.cell.now c.loop-member.member-index c.loop-member-item.result
    c.loop-member-test.true c.loop-member-item.is (c.is_filled.ensures.0 c.if-is_filled.true))

pub loop-member-preserved : goal.loop-member-preserved
loop-member-preserved g c =
    c.loop-member.invariant
    ∙ passed_at c.args.list.now c.args.cell.now c.loop-member.member-index c.loop-member-item.result c.loop-member-test.true
    c.loop-member-item.is
    (λ e. true≢false (sym (c.is_filled.ensures.1 e) ∙ c.if-is_filled.false))

pub returns : goal.returns
returns g c = sym (c.loop-member.invariant ∙ none_from c.args.list.now c.args.cell.now c.loop-member.member-index (omega arith))

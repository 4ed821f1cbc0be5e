use Rattle.cwr_judge.proofs.lemmas.FirstFaults.{text_barred}
use Rattle.cwr_judge.proofs.judging.judge_text.Goals as goal

pub returns-in-Err-admits-clause-err : goal.returns-in-Err-admits-clause-err
returns-in-Err-admits-clause-err c = λ xs st.
    text_barred c.args.tally.now.limits xs c.args.kind c.args.j c.args.ty c.args.cell.now c.in-Some.symbol c.in-Err-admits.bar
    c.reason_of.result c.in_default.ensures.ok c.in-Some.ensures (c.in-Err-admits.ensures.answer xs st) c.reason_of.ensures

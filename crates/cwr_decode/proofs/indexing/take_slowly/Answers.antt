use Rattle.cwr_decode.proofs.lemmas.LinesAtFront.{slow_line}
use Rattle.cwr_decode.proofs.indexing.take_slowly.Goals as goal

pub returns-in-Ok-clause-some : goal.returns-in-Ok-clause-some
returns-in-Ok-clause-some c = λ xs st.
    slow_line c.args.tally.now c.judge_line.new.tally xs c.args.text.now c.first_line.new.line c.len.result _
    c.in-Some.ensures.some (c.in-Ok.ensures.ok xs st) c.len.ensures.len
    c.length_without_return-length.ensures.within c.length_without_return-length.ensures.value

pub returns-in-Err-clause-err : goal.returns-in-Err-clause-err
returns-in-Err-clause-err c =
    λ xs st. record {
      line = c.first_line.new.line;
      taken = c.in-Some.taken;
      first = c.in-Some.ensures.some;
      refused = c.in-Err.ensures.err xs st;
    }

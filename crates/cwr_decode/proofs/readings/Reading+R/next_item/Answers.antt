use Rattle.std.proofs.Common.{None, ap, refl, arith}
use Rattle.cwr_decode.specs.Steps.Machines.{again}
use Rattle.cwr_decode.proofs.lemmas.LastHeld.{reads_both}
use Rattle.cwr_decode.proofs.lemmas.FromReader.{reads_after, wants_more}
use Rattle.cwr_decode.proofs.readings.Reading+R.next_item.Goals as goal

pub pull_quickly-requires-clause-reading : goal.pull_quickly-requires-clause-reading
pull_quickly-requires-clause-reading g c = (c.in_default.ensures.continues None).reading

pub pull_quickly-requires-clause-fresh : goal.pull_quickly-requires-clause-fresh
pull_quickly-requires-clause-fresh g c = (c.in_default.ensures.continues None).fresh

pub returns-in-Whole-clause-reads : goal.returns-in-Whole-clause-reads
returns-in-Whole-clause-reads g c = reads_after 0 _ _ _ _ _ _ _ (c.in_default.ensures.continues _) c.in-Whole.ensures.reads

pub returns-in-Failed-clause-reads : goal.returns-in-Failed-clause-reads
returns-in-Failed-clause-reads g c = reads_after 0 _ _ _ _ _ _ _ (c.in_default.ensures.continues _) c.in-Failed.ensures.reads

pub returns-in-Nothing-clause-reads : goal.returns-in-Nothing-clause-reads
returns-in-Nothing-clause-reads g c =
    reads_after 0 _ _ _ _ _ _ _ (c.in_default.ensures.continues _)
    (reads_after 0 _ _ _ _ _ _ _ c.in-Nothing.ensures.reads c.read_on.ensures.reads)

pub returns-in-Some-clause-memory : goal.returns-in-Some-clause-memory
returns-in-Some-clause-memory g c = λ is live few. (((c.in-Some.ensures.reads None).memory is live few).0, refl)

pub returns-in-Nothing-clause-memory : goal.returns-in-Nothing-clause-memory
returns-in-Nothing-clause-memory g c = λ is live few.
    let on = c.in_default.ensures.continues None in
    let fed = c.in-Nothing.ensures.reads in
    absurd (wants_more c.pull_quickly.new.decoder c.read_on.new.decoder _ fed.reading
    (c.read_on.ensures.reads.memory is (ap again fed.reading)) (omega (arith, on.kept, fed.kept, few)))

pub returns-in-Nothing-clause-last : goal.returns-in-Nothing-clause-last
returns-in-Nothing-clause-last g c = reads_both _ _ _ _ _ _ c.in-Nothing.ensures.last c.read_on.ensures.last

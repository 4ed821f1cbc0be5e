use Rattle.cwr_transform.proofs.lemmas.JoinsJudged.{all_judged, all_written}
use Rattle.cwr_transform.proofs.joins.join_readers.Goals as goal

pub returns-clause-judged : goal.returns-clause-judged
returns-clause-judged g c =
    all_judged c.args.union.now.limits c.args.union.now.wanted g.R.Source.remaining g.R.Source.failures c.args.readers.now
    c.write_joined.new.readers c.judge_join-judged.new.readers c.args.view.now c.write_joined.new.view (g.F.Write.contents c.args.file)
    g.F.Write.contents c.in_ok-outcome.written c.requires.begun c.in_ok-outcome.outcome c.in_ok-outcome.ensures.joins
    c.judge_join-judged.result c.in_ok-outcome.ensures.seen c.judge_join-judged.ensures.outcome c.judge_join-judged.ensures.looks
    c.judge_join-judged.ensures.finds

pub returns-clause-written : goal.returns-clause-written
returns-clause-written g c =
    all_written c.args.union.now.limits c.args.union.now.wanted g.R.Source.remaining g.R.Source.failures c.args.readers.now
    c.write_joined.new.readers c.judge_join-judged.new.readers c.args.view.now c.write_joined.new.view (g.F.Write.contents c.args.file)
    g.F.Write.contents c.in_ok-outcome.written c.requires.begun c.in_ok-outcome.outcome c.in_ok-outcome.ensures.joins
    c.judge_join-judged.result c.in_ok-outcome.ensures.seen c.judge_join-judged.ensures.looks c.judge_join-judged.ensures.finds

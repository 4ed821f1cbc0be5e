use Rattle.std.proofs.Common.{refl}
use Rattle.cwr_write.proofs.lemmas.TakenItems.{next_given, next_after_end, next_trailer, open_at_foot}
use Rattle.cwr_write.proofs.lemmas.TakenLines.{adds_nothing}
use Rattle.cwr_write.proofs.writing.take_item.Goals as goal

pub returns-in_default-End-clause-judged : goal.returns-in_default-End-clause-judged
returns-in_default-End-clause-judged g c =
    λ start items s. next_after_end g.W.Target.contents start items c.args.reached c.args.item.now c.args.encoder.now s
    c.in_default-End.is-1

pub returns-in-Ended-default : goal.returns-in-Ended-default
returns-in-Ended-default g c = record {
  adds =
      adds_nothing g.W.Target.contents g.W.Target.failures c.args.item.now c.args.encoder.now c.judge_end.result c.requires
      c.in-Ended-default.is-0 c.judge_end.ensures.unfailed;
  limits = refl;
  more = open_at_foot c.args.reached c.judge_end.result c.judge_end.ensures.ok;
  judged =
      λ start items s. next_trailer g.W.Target.contents start items c.args.reached c.args.item.now c.args.encoder.now
      c.judge_end.result s c.in-Ended-default.is-0 c.judge_end.ensures.ok c.judge_end.ensures.err c.judge_end.ensures.judged
      c.judge_end.ensures.unfailed;
}

pub returns-in_default-clause-judged : goal.returns-in_default-clause-judged
returns-in_default-clause-judged g c = λ start items s.
    next_given g.W.Target.contents g.W.Target.failures start items c.args.reached c.args.item.now c.args.encoder.now
    c.write_item.new.encoder c.write_item.result s c.in_default.not-End-1 c.in_default.not-Ended-0 c.write_item.ensures.adds
    c.write_item.ensures.limits
    (c.write_item.ensures.judged start _ s.encodes)

use Rattle.std.proofs.Common.{rules, ◌∙◌, arith}
use Rattle.std.proofs.lemmas.List.{length-set}
use Rattle.cwr_transform.proofs.lemmas.JoinInputs.{look_more, others_stay}
use Rattle.cwr_transform.proofs.join_inputs.look_after_each.Goals as goal

pub loop-i-preserved : goal.loop-i-preserved
loop-i-preserved g c = record {
  many = length-set c.loop-i.readers c.loop-i.i c.look_beyond-look.new.reader ∙ c.loop-i.invariant.many;
  others = others_stay c.args.readers.now c.loop-i.readers c.look_beyond-look.new.reader c.loop-i.i c.loop-i.invariant.others;
  looks = look_more g.R.Source.remaining g.R.Source.failures c.args.readers.now c.loop-i.readers c.look_beyond-look.new.reader
      c.index-readers-i.result c.loop-i.i c.loop-i.seen c.seen_with-seen.result c.look_beyond-look.result (search rules) (search rules)
      (c.loop-i.invariant.others c.loop-i.i c.index-readers-i.result (omega arith)) c.loop-i.invariant.looks
      c.look_beyond-look.ensures.look c.look_beyond-look.ensures.failures c.seen_with-seen.ensures;
}

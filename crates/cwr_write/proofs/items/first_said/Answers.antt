use Rattle.std.proofs.Common.{◌<◌, length, sym, arith, ◌∙◌}
use Rattle.cwr_write.proofs.lemmas.ItemsRead.{none_said}
use Rattle.cwr_write.proofs.items.first_said.Goals as goal

pub loop-at-preserved : goal.loop-at-preserved
loop-at-preserved c =
    let h : c.loop-at.at < length c.args.members.now.items = omega (arith, c.loop-at-test.true, c.len.ensures) in
    record {
      from = omega (arith, c.loop-at.invariant.from);
      within = omega (arith, h);
      same =
          c.loop-at.invariant.same ∙ none_said c.args.members.now.items c.loop-at.at c.index-member.result.now c.says.result h
          c.index-member.ensures (sym c.says.ensures) c.if-says.false;
    }

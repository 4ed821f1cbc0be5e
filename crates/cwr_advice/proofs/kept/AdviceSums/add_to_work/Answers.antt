use Rattle.std.proofs.Common.{sym, ◌∙◌}
use Rattle.cwr_fields.specs.declared.kinds.Kind.TheVariants as kinds
use Rattle.cwr_findings.specs.Format.Findings.{is_a}
use Rattle.cwr_advice.proofs.lemmas.CalmRecords.{calm_more, controlled_writes}
use Rattle.cwr_advice.proofs.kept.AdviceSums.add_to_work.Goals as goal

pub add_other-requires-clause-unbroken : goal.add_other-requires-clause-unbroken
add_other-requires-clause-unbroken c = sym c.may_break_some.ensures ∙ c.if-may_break_some.false

pub may_break-requires : goal.may_break-requires
may_break-requires c = sym c.may_break_some.ensures ∙ c.if-may_break_some.false

pub add_other-requires-clause-owner : goal.add_other-requires-clause-owner
add_other-requires-clause-owner c = sym c.is_owner.ensures ∙ c.if-not-is_owner.true

pub add_other-requires-clause-territory : goal.add_other-requires-clause-territory
add_other-requires-clause-territory c = sym c.is_territory.ensures ∙ c.if-not-is_territory.true

pub returns-clause-kept : goal.returns-clause-kept
returns-clause-kept c = λ rs h yes.
    let r = c.args.shown.now in
    record {
      facts = c.with-self-3.ensures rs h.facts;
      headers = c.with-self-4.ensures rs h.headers;
      collected = c.with_any_collected-self.ensures rs h.collected;
      chain = c.chain_with-self.ensures rs h.chain;
      writer = c.writer_with-self.ensures rs h.writer;
      territories = c.keep_territory.ensures rs h.territories c.if-not-keep_territory.false;
      publishers =
          c.with-self.ensures (is_a kinds.Swr) (is_a kinds.Pwr) rs r h.publishers controlled_writes c.is_writer-writer.ensures
          c.is_of-controlled.ensures c.is_of-publisher.ensures;
      collections =
          c.with-self-2.ensures (is_a kinds.Swr) (is_a kinds.Swt) rs r h.collections controlled_writes
          c.is_writer-writer.ensures c.is_of-controlled.ensures c.is_of-territory.ensures;
      calm = calm_more rs r h.calm (c.may_break.ensures rs h c.if-may_break.false);
    }

use Rattle.cwr_fields.specs.declared.kinds.Kind.TheVariants as kinds
use Rattle.cwr_findings.specs.Format.Findings.{is_a, is_owner}
use Rattle.cwr_advice.specs.Format.Rules.{is_owning_publisher, is_territory, is_writer}
use Rattle.cwr_advice.proofs.lemmas.CountedFacts.{any_more, counted_more, kept_sum_more}
use Rattle.cwr_advice.proofs.lemmas.OwnedShares.{owned_if_writer, publisher_owns_some}
use Rattle.cwr_advice.proofs.facts.Facts.with.Goals as goal

pub is_something-owns-requires : goal.is_something-owns-requires
is_something-owns-requires c = c.requires.small

pub returns : goal.returns
returns c = λ rs h.
    let r = c.args.shown.now in
    record {
      owned =
          kept_sum_more "pr share" is_owner rs r c.args.self.owned c.args.owned.now.performing c.saturating_add.result h.owned
          c.requires.performing c.saturating_add.ensures;
      by_writers =
          kept_sum_more "pr share" is_writer rs r c.args.self.by_writers c.performing_if-by_writer.result
          c.saturating_add-2.result h.by_writers
          (owned_if_writer r c.args.owned.now c.is_writer-writer.result c.performing_if-by_writer.result c.requires
          c.is_writer-writer.ensures c.performing_if-by_writer.ensures) c.saturating_add-2.ensures;
      writer = any_more is_writer rs r c.args.self.has_writer c.is_writer-writer.result h.writer c.is_writer-writer.ensures;
      stated = c.with.ensures rs h.stated;
      publisher =
          any_more (is_a kinds.Spu) rs r c.args.self.has_publisher c.is_of-publisher.result h.publisher c.is_of-publisher.ensures;
      owner = any_more is_owning_publisher rs r c.args.self.has_owning_publisher _ h.owner
          (publisher_owns_some r c.args.owned.now c.is_of-publisher.result c.is_something-owns.result c.requires
          c.is_of-publisher.ensures c.is_something-owns.ensures);
      territory =
          any_more (is_a kinds.Spt) rs r c.args.self.has_territory c.is_of-territory.result h.territory c.is_of-territory.ensures;
      territories =
          counted_more is_territory rs r c.args.self.territories c.count_of_territory-counted.result c.saturating_add-3.result
          h.territories c.count_of_territory-counted.ensures c.saturating_add-3.ensures;
      component =
          any_more (is_a kinds.Com) rs r c.args.self.has_component c.is_of-component.result h.component c.is_of-component.ensures;
      original =
          any_more (is_a kinds.Ver) rs r c.args.self.has_original c.is_of-original.result h.original c.is_of-original.ensures;
    }

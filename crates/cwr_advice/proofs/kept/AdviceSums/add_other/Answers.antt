use Rattle.std.proofs.Common.{sym}
use Rattle.std.specs.Prelude.{not}
use Rattle.std.proofs.lemmas.Bool.{and_left, or_parts}
use Rattle.cwr_fields.specs.declared.kinds.Kind.TheVariants as kinds
use Rattle.cwr_lines.specs.Format.Records.{cell_named}
use Rattle.cwr_findings.specs.Format.Findings.{is_a, is_blank}
use Rattle.cwr_advice.specs.Format.Rules.{is_publisher, is_territory, names_agent}
use Rattle.cwr_advice.proofs.lemmas.CalmRecords.{begun_still, calm_more, controlled_writes, no_agent, since_other}
use Rattle.cwr_advice.proofs.lemmas.LastWriters.{known_still}
use Rattle.cwr_advice.proofs.lemmas.OtherRecords.{collected_same, no_publisher, no_writer}
use Rattle.cwr_advice.proofs.kept.AdviceSums.add_other.Goals as goal

pub returns-clause-kept : goal.returns-clause-kept
returns-clause-kept c = λ rs h yes.
    let r = c.args.shown.now in
    let writer = no_writer r c.requires.owner in
    let publisher = no_publisher r c.requires.owner in
    let controlled = (or_parts (is_a kinds.Swr r) (is_a kinds.Owr r) writer).0 in
    let territory = or_parts (is_a kinds.Spt r) (is_a kinds.Swt r) c.requires.territory in
    record {
      facts = c.with_other-self.ensures rs h.facts;
      headers = c.with-self-3.ensures rs h.headers;
      collected = collected_same rs r c.args.self.now.collected h.collected c.requires.territory;
      chain = begun_still rs r c.args.self.now.chain h.chain;
      writer = known_still rs r c.args.self.now.writer writer h.writer;
      territories = since_other rs r c.args.self.now.territories.items c.requires.owner c.requires.territory h.territories;
      publishers =
          c.with-self.ensures (is_a kinds.Swr) (is_a kinds.Pwr) rs r h.publishers controlled_writes (sym writer) (sym controlled)
          c.is_of-publisher.ensures;
      collections =
          c.with-self-2.ensures (is_a kinds.Swr) (is_a kinds.Swt) rs r h.collections controlled_writes (sym writer)
          (sym controlled) (sym territory.1);
      calm = calm_more rs r h.calm (record {
        alone = c.requires.unbroken;
        twice = and_left _ _ (and_left (is_territory r) (not (is_blank "tis code" r)) c.requires.territory);
        chain = no_agent rs r (and_left (is_publisher r) (names_agent (cell_named "publisher type" r)) publisher);
        writer = c.may_name_other.ensures rs h.writer c.if-may_name_other.false;
      });
    }

use Rattle.std.specs.Prelude.{not}
use Rattle.std.proofs.lemmas.Bool.{and_left, or_parts}
use Rattle.cwr_fields.specs.declared.kinds.Kind.TheVariants as kinds
use Rattle.cwr_findings.specs.Format.Findings.{is_a, is_blank, is_owner}
use Rattle.cwr_advice.specs.Format.Rules.{is_owning_publisher, is_territory, is_writer, owns_shares, states}
use Rattle.cwr_advice.proofs.lemmas.CountedFacts.{any_more}
use Rattle.cwr_advice.proofs.lemmas.OtherRecords.{any_same, count_same, no_publisher, no_writer, sum_same}
use Rattle.cwr_advice.proofs.facts.Facts.with_other.Goals as goal

pub returns : goal.returns
returns c = λ rs h.
    let r = c.args.shown.now in
    let self = c.args.self in
    let publisher = (or_parts (is_a kinds.Spu r) (is_a kinds.Opu r) (no_publisher r c.requires.owner)).0 in
    record {
      owned = sum_same "pr share" is_owner rs r self.owned h.owned c.requires.owner;
      by_writers = sum_same "pr share" is_writer rs r self.by_writers h.by_writers (no_writer r c.requires.owner);
      writer = any_same is_writer rs r self.has_writer h.writer (no_writer r c.requires.owner);
      stated = record {
        performing =
            any_same (states "pr share") rs r self.stated.performing h.stated.performing
            (and_left (is_owner r) (not (is_blank "pr share" r)) c.requires.owner);
        mechanical =
            any_same (states "mr share") rs r self.stated.mechanical h.stated.mechanical
            (and_left (is_owner r) (not (is_blank "mr share" r)) c.requires.owner);
        synchronization =
            any_same (states "sr share") rs r self.stated.synchronization h.stated.synchronization
            (and_left (is_owner r) (not (is_blank "sr share" r)) c.requires.owner);
      };
      publisher = any_same (is_a kinds.Spu) rs r self.has_publisher h.publisher publisher;
      owner =
          any_same is_owning_publisher rs r self.has_owning_publisher h.owner (and_left (is_a kinds.Spu r) (owns_shares r) publisher);
      territory =
          any_same (is_a kinds.Spt) rs r self.has_territory h.territory
          (or_parts (is_a kinds.Spt r) (is_a kinds.Swt r) c.requires.territory).0;
      territories = count_same is_territory rs r self.territories h.territories c.requires.territory;
      component = any_more (is_a kinds.Com) rs r self.has_component c.is_of-component.result h.component c.is_of-component.ensures;
      original = any_more (is_a kinds.Ver) rs r self.has_original c.is_of-original.result h.original c.is_of-original.ensures;
    }

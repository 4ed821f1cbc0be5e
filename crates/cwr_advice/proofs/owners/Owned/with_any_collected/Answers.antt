use Rattle.cwr_advice.specs.Format.Rules.{is_territory}
use Rattle.cwr_advice.proofs.lemmas.CountedFacts.{kept_sum_more}
use Rattle.cwr_advice.proofs.owners.Owned.with_any_collected.Goals as goal

pub returns : goal.returns
returns c = λ rs h.
    let r = c.args.shown.now in
    let more = c.collected_anywhere-more.ensures in
    record {
      performing =
          kept_sum_more "pr collection share" is_territory rs r c.args.self.performing c.collected_anywhere-more.result.performing
          c.saturating_add.result h.performing more.performing c.saturating_add.ensures;
      mechanical =
          kept_sum_more "mr collection share" is_territory rs r c.args.self.mechanical c.collected_anywhere-more.result.mechanical
          c.saturating_add-2.result h.mechanical more.mechanical c.saturating_add-2.ensures;
      synchronization =
          kept_sum_more "sr collection share" is_territory rs r c.args.self.synchronization
          c.collected_anywhere-more.result.synchronization c.saturating_add-3.result h.synchronization more.synchronization
          c.saturating_add-3.ensures;
    }

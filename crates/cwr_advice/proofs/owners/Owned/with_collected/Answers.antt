use Rattle.cwr_advice.specs.Format.Rules.{collects_in}
use Rattle.cwr_advice.proofs.lemmas.CountedFacts.{kept_sum_more}
use Rattle.cwr_advice.proofs.owners.Owned.with_collected.Goals as goal

pub returns : goal.returns
returns c = λ rs h.
    let more = c.collected_by-more.ensures in
    record {
      performing =
          kept_sum_more "pr collection share" (collects_in c.args.code.now) rs c.args.shown.now c.args.self.performing
          c.collected_by-more.result.performing c.saturating_add.result h.performing more.performing c.saturating_add.ensures;
      mechanical =
          kept_sum_more "mr collection share" (collects_in c.args.code.now) rs c.args.shown.now c.args.self.mechanical
          c.collected_by-more.result.mechanical c.saturating_add-2.result h.mechanical more.mechanical c.saturating_add-2.ensures;
      synchronization =
          kept_sum_more "sr collection share" (collects_in c.args.code.now) rs c.args.shown.now c.args.self.synchronization
          c.collected_by-more.result.synchronization c.saturating_add-3.result h.synchronization more.synchronization
          c.saturating_add-3.ensures;
    }

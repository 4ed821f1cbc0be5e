use Rattle.cwr_advice.specs.Format.Rules.{states}
use Rattle.cwr_advice.proofs.lemmas.CountedFacts.{any_more}
use Rattle.cwr_advice.proofs.stated.Stated.with.Goals as goal

pub returns : goal.returns
returns c = λ rs h.
    let r = c.args.shown.now in
    let more = c.stated_by-more in
    record {
      performing =
          any_more (states "pr share") rs r c.args.self.performing more.result.performing h.performing more.ensures.performing;
      mechanical =
          any_more (states "mr share") rs r c.args.self.mechanical more.result.mechanical h.mechanical more.ensures.mechanical;
      synchronization =
          any_more (states "sr share") rs r c.args.self.synchronization more.result.synchronization h.synchronization more.ensures.synchronization;
    }

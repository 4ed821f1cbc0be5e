use Rattle.std.proofs.Common.{◌≡◌, ◌≤◌, subst, sym}
use Rattle.std.specs.Prelude.{IfSome}
use Rattle.cwr_decode.specs.Steps.Machines.{Standing, again}
use Rattle.cwr_decode.specs.Steps.Calls.{IsLive, RunsOutOfMemory}
use Rattle.cwr_decode.specs.Steps.Represents.{RepresentsSome}
use Rattle.cwr_decode.proofs.decoders.Decoder.feed.Goals as goal

pub returns-clause-some : goal.returns-clause-some
returns-clause-some c = subst RepresentsSome c.self.view_is c.self.invariant.under_way

pub returns-clause-again : goal.returns-clause-again
returns-clause-again c =
    subst (λ (d : Standing). IfSome (again d.state)
    (λ o. (c.feed.result.outcome ≡ o) × (c.feed.result.used ≡ 0) × (c.feed.new.self ≡ d))) c.self.view_is c.feed.ensures.again

pub returns-clause-kept : goal.returns-clause-kept
returns-clause-kept c =
    let was = c.self.invariant.under_way in
    subst (λ (d : Standing). d.tally.counts.records ≤ c.feed.new.self.tally.counts.records) c.self.view_is
    (c.feed.ensures.kept was.input was.given was.stands)

pub returns-clause-empties : goal.returns-clause-empties
returns-clause-empties c =
    let was = c.self.invariant.under_way in
    c.feed.ensures.carries.empties was.input was.given was.stands

pub returns-clause-memory : goal.returns-clause-memory
returns-clause-memory c = λ is live.
    let was = c.self.invariant.under_way in
    subst (λ (d : Standing). RunsOutOfMemory d c.feed.result.used c.feed.new.self) c.self.view_is
    (c.feed.ensures.memory is (subst (λ (d : Standing). IsLive d.state) (sym c.self.view_is) live) was.input was.given was.stands)

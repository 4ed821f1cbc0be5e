use Rattle.std.proofs.Common.{subst, sym, ◌∙◌}
use Rattle.cwr_decode.specs.Steps.Machines.{Standing}
use Rattle.cwr_decode.specs.Steps.Readings.{FeedsOn}
use Rattle.cwr_decode.proofs.lemmas.AfterPiece.{either_sound}
use Rattle.cwr_decode.proofs.lemmas.FromReader.{feeds_settled}
use Rattle.cwr_decode.proofs.lemmas.HeldOpen.{waiting_fits}
use Rattle.cwr_decode.proofs.decoders.Decoder.is_settled.Goals as goal

pub is_settled-requires-clause-fits : goal.is_settled-requires-clause-fits
is_settled-requires-clause-fits c = waiting_fits c.self.inside.machine c.self.invariant.under_way

pub invariant_of-self : goal.invariant_of-self
invariant_of-self c =
    either_sound c.is_settled.result c.self.inside.machine c.is_settled.new.self c.self.invariant c.is_settled.ensures.settled
    c.is_settled.ensures.kept

pub returns-then-not-has_ended-clause-continues : goal.returns-then-not-has_ended-clause-continues
returns-then-not-has_ended-clause-continues c = λ yes left.
    subst (λ (d : Standing). FeedsOn 0 d left c.is_settled.new.self left) c.self.view_is
    (feeds_settled c.self.inside.machine c.is_settled.new.self left c.self.invariant.ready
    (sym c.has_ended.ensures ∙ c.if-not-has_ended.true) (c.is_settled.ensures.settled yes))

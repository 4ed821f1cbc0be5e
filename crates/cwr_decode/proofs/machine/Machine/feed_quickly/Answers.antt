use Rattle.std.proofs.Common.{drop, refl, Some, None, subst, sym}
use Rattle.std.proofs.lemmas.List.{take_rest}
use Rattle.cwr_decode.specs.declared.machine.Found.TheVariants as founds
use Rattle.cwr_decode.specs.declared.outcomes.Outcome.TheVariants as outcomes
use Rattle.cwr_values.specs.declared.items.Item.TheVariants as items
use Rattle.cwr_decode.specs.Steps.Machines.{JudgesFront, emptied}
use Rattle.cwr_decode.proofs.lemmas.AfterBytes.{advanced_front}
use Rattle.cwr_decode.proofs.lemmas.AfterPiece.{fed_start, fed_same, fed_more, fed_through, rest_smaller}
use Rattle.cwr_decode.proofs.lemmas.HeldOpen.{fed_holds}
use Rattle.cwr_decode.proofs.lemmas.FrontSteps.{found_as, held_some, of_whole}
use Rattle.cwr_decode.proofs.machine.Machine.feed_quickly.Goals as goal

pub loop-used-init : goal.loop-used-init
loop-used-init c = fed_start c.args.self.now c.args.piece.now c.requires.sound.ready c.requires.reading c.requires.fresh

pub enter_front-front-requires-clause-holds : goal.enter_front-front-requires-clause-holds
enter_front-front-requires-clause-holds c =
    fed_holds c.args.self.now c.loop-used.self c.loop-used.self c.args.piece.now c.loop-used.used c.requires.sound.under_way
    c.loop-used.invariant refl refl

pub loop-used-smaller : goal.loop-used-smaller
loop-used-smaller c =
    rest_smaller c.args.piece.now c.loop-used.used c.enter_front-front.result.0 c.loop-used.self c.enter_front-front.new.self
    (advanced_front c.loop-used.self c.enter_front-front.new.self (drop c.loop-used.used c.args.piece.now)
    c.enter_front-front.result.0 None c.loop-used.invariant.reading c.loop-used.invariant.carries.finished
    (found_as c.enter_front-front.result.1 founds.Added c.loop-used.self c.enter_front-front.new.self
    (drop c.loop-used.used c.args.piece.now) c.enter_front-front.result.0 c.in-Added.is
    (rw take_rest at c.enter_front-front.ensures)))

pub loop-used-preserved : goal.loop-used-preserved
loop-used-preserved c =
    fed_more c.args.self.now c.loop-used.self c.enter_front-front.new.self c.args.piece.now c.loop-used.used
    c.enter_front-front.result.0 c.loop-used.invariant
    (advanced_front c.loop-used.self c.enter_front-front.new.self (drop c.loop-used.used c.args.piece.now)
    c.enter_front-front.result.0 None c.loop-used.invariant.reading c.loop-used.invariant.carries.finished
    (found_as c.enter_front-front.result.1 founds.Added c.loop-used.self c.enter_front-front.new.self
    (drop c.loop-used.used c.args.piece.now) c.enter_front-front.result.0 c.in-Added.is
    (rw take_rest at c.enter_front-front.ensures)))

pub take_whole-requires : goal.take_whole-requires
take_whole-requires c =
    held_some _ c.enter_front-front.new.self.held
    (found_as c.enter_front-front.result.1 founds.Ends c.loop-used.self c.enter_front-front.new.self
    (drop c.loop-used.used c.args.piece.now) c.enter_front-front.result.0 c.in-Ends.is
    (rw take_rest at c.enter_front-front.ensures))

pub returns-in-Ends-clause-some : goal.returns-in-Ends-clause-some
returns-in-Ends-clause-some c =
    let out = outcomes.Item (items.Transaction c.take_whole.result) in
    let judged : JudgesFront c.loop-used.self (drop c.loop-used.used c.args.piece.now) c.enter_front-front.result.0 (Some out)
    (emptied c.enter_front-front.new.self)
    = of_whole _ c.enter_front-front.new.self.held c.take_whole.result c.take_whole.ensures.whole
    (found_as c.enter_front-front.result.1 founds.Ends c.loop-used.self c.enter_front-front.new.self
    (drop c.loop-used.used c.args.piece.now) c.enter_front-front.result.0 c.in-Ends.is
    (rw take_rest at c.enter_front-front.ensures)) in
    fed_through c.args.self.now c.loop-used.self c.take_whole.new.self c.args.piece.now c.loop-used.used
    c.enter_front-front.result.0 out c.loop-used.invariant
    (advanced_front c.loop-used.self c.take_whole.new.self (drop c.loop-used.used c.args.piece.now) c.enter_front-front.result.0
    (Some out) c.loop-used.invariant.reading c.loop-used.invariant.carries.finished
    (subst (JudgesFront c.loop-used.self (drop c.loop-used.used c.args.piece.now) c.enter_front-front.result.0 (Some out))
    (sym c.take_whole.ensures.others) judged))

pub returns-in-Nothing-clause-none : goal.returns-in-Nothing-clause-none
returns-in-Nothing-clause-none c = λ _.
    fed_same c.args.self.now c.loop-used.self c.enter_front-front.new.self c.args.piece.now c.loop-used.used c.loop-used.invariant
    (found_as c.enter_front-front.result.1 founds.Nothing c.loop-used.self c.enter_front-front.new.self
    (drop c.loop-used.used c.args.piece.now) c.enter_front-front.result.0 c.in-Nothing.is
    (rw take_rest at c.enter_front-front.ensures))

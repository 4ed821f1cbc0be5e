use Rattle.std.proofs.Common.{List, Option, ◌+◌, ◌-◌, ◌<◌, arith, drop, length, refl, Some, None, ap, subst, sym, ◌∙◌}
use Rattle.std.specs.Prelude.{IfSome, IsNone}
use Rattle.std.proofs.lemmas.List.{take_rest}
use Rattle.cwr_lines.specs.Format.Records.{RecordValue}
use Rattle.cwr_decode.specs.Steps.Calls.{Advances, Fed}
use Rattle.cwr_decode.specs.Steps.Machines.{Standing, Judges, emptied}
use Rattle.cwr_decode.specs.declared.outcomes.Outcome.TheVariants as outcomes
use Rattle.cwr_values.specs.declared.items.Item.TheVariants as items
use Rattle.cwr_decode.proofs.lemmas.AfterBytes.{advanced_line, advanced_open}
use Rattle.cwr_decode.proofs.lemmas.AfterPiece.{fed_start, fed_on, fed_more, fed_sound, fed_through, rest_smaller}
use Rattle.cwr_decode.proofs.lemmas.FrontSteps.{held_some, of_whole}
use Rattle.cwr_decode.proofs.lemmas.HeldOpen.{fed_holds}
use Rattle.cwr_decode.proofs.machine.Machine.feed_lines.Goals as goal

pub loop-whole-init : goal.loop-whole-init
loop-whole-init c = fed_start c.args.self.now c.args.piece.now c.requires.sound.ready c.requires.reading c.requires.fresh

pub returns-in-Some : goal.returns-in-Some
returns-in-Some c =
    let out = outcomes.Item (items.Transaction c.in-Some.whole) in
    let all : IfSome c.feed_quickly-front.result.1 (λ whole. Advances c.loop-whole.self (drop c.loop-whole.used c.args.piece.now)
    c.feed_quickly-front.result.0 (Some (outcomes.Item (items.Transaction whole))) c.feed_quickly-front.new.self) =
    rw take_rest at c.feed_quickly-front.ensures.some in
    let one =
    subst (λ (o : Option (List RecordValue)). IfSome o (λ whole. Advances c.loop-whole.self
    (drop c.loop-whole.used c.args.piece.now) c.feed_quickly-front.result.0 (Some (outcomes.Item (items.Transaction whole)))
    c.feed_quickly-front.new.self)) c.in-Some.is all in
    fed_through c.args.self.now c.loop-whole.self c.feed_quickly-front.new.self c.args.piece.now c.loop-whole.used
    c.feed_quickly-front.result.0 out c.loop-whole.invariant one

pub returns-in-Open : goal.returns-in-Open
returns-in-Open c =
    let none : IsNone c.feed_quickly-front.result.1 =
    subst (λ (o : Option (List RecordValue)). IsNone o) (sym c.in_default.is) refl in
    let rest : Fed c.loop-whole.self (drop c.loop-whole.used c.args.piece.now) c.feed_quickly-front.result.0
    c.feed_quickly-front.new.self =
    rw take_rest at (c.feed_quickly-front.ensures.none none) in
    let at =
    fed_on c.args.self.now c.loop-whole.self c.feed_quickly-front.new.self c.args.piece.now c.loop-whole.used
    c.feed_quickly-front.result.0 c.loop-whole.invariant rest in
    fed_through c.args.self.now c.feed_quickly-front.new.self c.take-taken.new.self c.args.piece.now
    (c.loop-whole.used + c.feed_quickly-front.result.0) c.take-taken.result.used outcomes.More at
    (advanced_open c.feed_quickly-front.new.self c.take-taken.new.self
    (drop (c.loop-whole.used + c.feed_quickly-front.result.0) c.args.piece.now) c.take-taken.result.used at.reading at.carries.finished
    (rw take_rest at c.take-taken.ensures.takes) c.take-taken.ensures.held c.take-taken.ensures.others
    (sym c.take-taken.ensures.ended ∙ c.in-Open.is))

pub loop-whole-smaller-in-Added : goal.loop-whole-smaller-in-Added
loop-whole-smaller-in-Added c =
    let none : IsNone c.feed_quickly-front.result.1 =
    subst (λ (o : Option (List RecordValue)). IsNone o) (sym c.in_default.is) refl in
    let rest : Fed c.loop-whole.self (drop c.loop-whole.used c.args.piece.now) c.feed_quickly-front.result.0
    c.feed_quickly-front.new.self =
    rw take_rest at (c.feed_quickly-front.ensures.none none) in
    let at =
    fed_on c.args.self.now c.loop-whole.self c.feed_quickly-front.new.self c.args.piece.now c.loop-whole.used
    c.feed_quickly-front.result.0 c.loop-whole.invariant rest in
    let less =
    rest_smaller c.args.piece.now (c.loop-whole.used + c.feed_quickly-front.result.0) c.take-taken.result.used
    c.feed_quickly-front.new.self c.enter_line.new.self
    (advanced_line c.feed_quickly-front.new.self c.take-taken.new.self c.enter_line.new.self
    (drop (c.loop-whole.used + c.feed_quickly-front.result.0) c.args.piece.now) c.take-taken.result.used None at.reading
    at.carries.finished
    (rw take_rest at c.take-taken.ensures.takes) c.take-taken.ensures.held c.take-taken.ensures.others
    (λ e. c.in_default-ended.not-Open (c.take-taken.ensures.ended ∙ e)) c.in-Added.ensures) in
    let all : length c.args.piece.now - ((c.loop-whole.used + c.feed_quickly-front.result.0) + c.take-taken.result.used)
    < length c.args.piece.now - c.loop-whole.used =
    omega (arith, less) in
    all

pub loop-whole-preserved-in-Added : goal.loop-whole-preserved-in-Added
loop-whole-preserved-in-Added c =
    let none : IsNone c.feed_quickly-front.result.1 =
    subst (λ (o : Option (List RecordValue)). IsNone o) (sym c.in_default.is) refl in
    let rest : Fed c.loop-whole.self (drop c.loop-whole.used c.args.piece.now) c.feed_quickly-front.result.0
    c.feed_quickly-front.new.self =
    rw take_rest at (c.feed_quickly-front.ensures.none none) in
    let at =
    fed_on c.args.self.now c.loop-whole.self c.feed_quickly-front.new.self c.args.piece.now c.loop-whole.used
    c.feed_quickly-front.result.0 c.loop-whole.invariant rest in
    fed_more c.args.self.now c.feed_quickly-front.new.self c.enter_line.new.self c.args.piece.now
    (c.loop-whole.used + c.feed_quickly-front.result.0) c.take-taken.result.used at
    (advanced_line c.feed_quickly-front.new.self c.take-taken.new.self c.enter_line.new.self
    (drop (c.loop-whole.used + c.feed_quickly-front.result.0) c.args.piece.now) c.take-taken.result.used None at.reading
    at.carries.finished
    (rw take_rest at c.take-taken.ensures.takes) c.take-taken.ensures.held c.take-taken.ensures.others
    (λ e. c.in_default-ended.not-Open (c.take-taken.ensures.ended ∙ e)) c.in-Added.ensures)

pub take_whole-requires : goal.take_whole-requires
take_whole-requires c = held_some _ c.enter_line.new.self.held c.in-Ends.ensures

pub returns-in-Ends : goal.returns-in-Ends
returns-in-Ends c =
    let none : IsNone c.feed_quickly-front.result.1 =
    subst (λ (o : Option (List RecordValue)). IsNone o) (sym c.in_default.is) refl in
    let rest : Fed c.loop-whole.self (drop c.loop-whole.used c.args.piece.now) c.feed_quickly-front.result.0
    c.feed_quickly-front.new.self =
    rw take_rest at (c.feed_quickly-front.ensures.none none) in
    let at =
    fed_on c.args.self.now c.loop-whole.self c.feed_quickly-front.new.self c.args.piece.now c.loop-whole.used
    c.feed_quickly-front.result.0 c.loop-whole.invariant rest in
    let out = outcomes.Item (items.Transaction c.take_whole.result) in
    let judged : Judges c.take-taken.new.self (Some out) (emptied c.enter_line.new.self) =
    of_whole _ c.enter_line.new.self.held c.take_whole.result c.take_whole.ensures.whole c.in-Ends.ensures in
    fed_through c.args.self.now c.feed_quickly-front.new.self c.take_whole.new.self c.args.piece.now
    (c.loop-whole.used + c.feed_quickly-front.result.0) c.take-taken.result.used out at
    (advanced_line c.feed_quickly-front.new.self c.take-taken.new.self c.take_whole.new.self
    (drop (c.loop-whole.used + c.feed_quickly-front.result.0) c.args.piece.now) c.take-taken.result.used (Some out) at.reading
    at.carries.finished
    (rw take_rest at c.take-taken.ensures.takes) c.take-taken.ensures.held c.take-taken.ensures.others
    (λ e. c.in_default-ended.not-Open (c.take-taken.ensures.ended ∙ e))
    (subst (Judges c.take-taken.new.self (Some out)) (sym c.take_whole.ensures.others) judged))

pub enter_line-requires-clause-holds : goal.enter_line-requires-clause-holds
enter_line-requires-clause-holds c =
    let none : IsNone c.feed_quickly-front.result.1 =
    subst (λ (o : Option (List RecordValue)). IsNone o) (sym c.in_default.is) refl in
    let rest : Fed c.loop-whole.self (drop c.loop-whole.used c.args.piece.now) c.feed_quickly-front.result.0
    c.feed_quickly-front.new.self =
    rw take_rest at (c.feed_quickly-front.ensures.none none) in
    let at =
    fed_on c.args.self.now c.loop-whole.self c.feed_quickly-front.new.self c.args.piece.now c.loop-whole.used
    c.feed_quickly-front.result.0 c.loop-whole.invariant rest in
    let same = c.take-taken.ensures.others in
    fed_holds c.args.self.now c.feed_quickly-front.new.self c.take-taken.new.self c.args.piece.now
    (c.loop-whole.used + c.feed_quickly-front.result.0) c.requires.sound.under_way at (ap (λ (d : Standing). d.tally) same)
    (ap (λ (d : Standing). d.held) same)

pub feed_quickly-front-requires-clause-sound : goal.feed_quickly-front-requires-clause-sound
feed_quickly-front-requires-clause-sound c =
    fed_sound c.args.self.now c.loop-whole.self c.args.piece.now c.loop-whole.used c.requires.sound c.loop-whole.invariant

pub take_line-requires-clause-holds : goal.take_line-requires-clause-holds
take_line-requires-clause-holds c =
    let none : IsNone c.feed_quickly-front.result.1 =
    subst (λ (o : Option (List RecordValue)). IsNone o) (sym c.in_default.is) refl in
    let rest : Fed c.loop-whole.self (drop c.loop-whole.used c.args.piece.now) c.feed_quickly-front.result.0
    c.feed_quickly-front.new.self =
    rw take_rest at (c.feed_quickly-front.ensures.none none) in
    let at =
    fed_on c.args.self.now c.loop-whole.self c.feed_quickly-front.new.self c.args.piece.now c.loop-whole.used
    c.feed_quickly-front.result.0 c.loop-whole.invariant rest in
    let same = c.in-Nothing.ensures ∙ c.take-taken.ensures.others in
    fed_holds c.args.self.now c.feed_quickly-front.new.self c.enter_line.new.self c.args.piece.now
    (c.loop-whole.used + c.feed_quickly-front.result.0) c.requires.sound.under_way at (ap (λ (d : Standing). d.tally) same)
    (ap (λ (d : Standing). d.held) same)

pub returns-in-Some-take_line : goal.returns-in-Some-take_line
returns-in-Some-take_line c =
    let none : IsNone c.feed_quickly-front.result.1 =
    subst (λ (o : Option (List RecordValue)). IsNone o) (sym c.in_default.is) refl in
    let rest : Fed c.loop-whole.self (drop c.loop-whole.used c.args.piece.now) c.feed_quickly-front.result.0
    c.feed_quickly-front.new.self =
    rw take_rest at (c.feed_quickly-front.ensures.none none) in
    let at =
    fed_on c.args.self.now c.loop-whole.self c.feed_quickly-front.new.self c.args.piece.now c.loop-whole.used
    c.feed_quickly-front.result.0 c.loop-whole.invariant rest in
    fed_through c.args.self.now c.feed_quickly-front.new.self c.take_line.new.self c.args.piece.now
    (c.loop-whole.used + c.feed_quickly-front.result.0) c.take-taken.result.used c.in-Some-take_line.outcome at
    (advanced_line c.feed_quickly-front.new.self c.take-taken.new.self c.take_line.new.self
    (drop (c.loop-whole.used + c.feed_quickly-front.result.0) c.args.piece.now) c.take-taken.result.used
    (Some c.in-Some-take_line.outcome) at.reading at.carries.finished
    (rw take_rest at
    c.take-taken.ensures.takes) c.take-taken.ensures.held c.take-taken.ensures.others (λ e. c.in_default-ended.not-Open
    (c.take-taken.ensures.ended ∙ e)) (subst
    (λ (d : Standing). Judges d (Some c.in-Some-take_line.outcome) c.take_line.new.self) c.in-Nothing.ensures
    c.in-Some-take_line.ensures))

pub loop-whole-smaller : goal.loop-whole-smaller
loop-whole-smaller c =
    let none : IsNone c.feed_quickly-front.result.1 =
    subst (λ (o : Option (List RecordValue)). IsNone o) (sym c.in_default.is) refl in
    let rest : Fed c.loop-whole.self (drop c.loop-whole.used c.args.piece.now) c.feed_quickly-front.result.0
    c.feed_quickly-front.new.self =
    rw take_rest at (c.feed_quickly-front.ensures.none none) in
    let at =
    fed_on c.args.self.now c.loop-whole.self c.feed_quickly-front.new.self c.args.piece.now c.loop-whole.used
    c.feed_quickly-front.result.0 c.loop-whole.invariant rest in
    let less =
    rest_smaller c.args.piece.now (c.loop-whole.used + c.feed_quickly-front.result.0) c.take-taken.result.used
    c.feed_quickly-front.new.self c.take_line.new.self
    (advanced_line c.feed_quickly-front.new.self c.take-taken.new.self c.take_line.new.self
    (drop (c.loop-whole.used + c.feed_quickly-front.result.0) c.args.piece.now) c.take-taken.result.used None at.reading
    at.carries.finished
    (rw take_rest at c.take-taken.ensures.takes) c.take-taken.ensures.held c.take-taken.ensures.others
    (λ e. c.in_default-ended.not-Open (c.take-taken.ensures.ended ∙ e))
    (subst (λ (d : Standing). Judges d None c.take_line.new.self) c.in-Nothing.ensures c.in_default-take_line.ensures)) in
    let all : length c.args.piece.now - ((c.loop-whole.used + c.feed_quickly-front.result.0) + c.take-taken.result.used)
    < length c.args.piece.now - c.loop-whole.used =
    omega (arith, less) in
    all

pub loop-whole-preserved : goal.loop-whole-preserved
loop-whole-preserved c =
    let none : IsNone c.feed_quickly-front.result.1 =
    subst (λ (o : Option (List RecordValue)). IsNone o) (sym c.in_default.is) refl in
    let rest : Fed c.loop-whole.self (drop c.loop-whole.used c.args.piece.now) c.feed_quickly-front.result.0
    c.feed_quickly-front.new.self =
    rw take_rest at (c.feed_quickly-front.ensures.none none) in
    let at =
    fed_on c.args.self.now c.loop-whole.self c.feed_quickly-front.new.self c.args.piece.now c.loop-whole.used
    c.feed_quickly-front.result.0 c.loop-whole.invariant rest in
    fed_more c.args.self.now c.feed_quickly-front.new.self c.take_line.new.self c.args.piece.now
    (c.loop-whole.used + c.feed_quickly-front.result.0) c.take-taken.result.used at
    (advanced_line c.feed_quickly-front.new.self c.take-taken.new.self c.take_line.new.self
    (drop (c.loop-whole.used + c.feed_quickly-front.result.0) c.args.piece.now) c.take-taken.result.used None at.reading
    at.carries.finished
    (rw take_rest at c.take-taken.ensures.takes) c.take-taken.ensures.held c.take-taken.ensures.others
    (λ e. c.in_default-ended.not-Open (c.take-taken.ensures.ended ∙ e))
    (subst (λ (d : Standing). Judges d None c.take_line.new.self) c.in-Nothing.ensures c.in_default-take_line.ensures))

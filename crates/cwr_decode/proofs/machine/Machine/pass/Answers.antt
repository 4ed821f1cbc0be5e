use Rattle.std.proofs.Common.{◌≡◌, ◌+◌, Bool, drop, sym, ap, subst, ◌∙◌}
use Rattle.std.proofs.lemmas.List.{take_rest}
use Rattle.cwr_decode.specs.declared.machine.Found.{Found}
use Rattle.cwr_decode.specs.declared.machine.Found.TheVariants.{Added, Ends}
use Rattle.cwr_decode.specs.Steps.Machines.{Standing}
use Rattle.cwr_decode.specs.Steps.Passing.{BeginsWaiting, IsPassing, KeepsFront, Passes, waiting}
use Rattle.cwr_decode.proofs.lemmas.PassedOver.{begins, begins_next, ends_smaller, few_more, one_more, one_more_smaller, passed_more}
use Rattle.cwr_decode.proofs.lemmas.PassedOver.{passes_none}
use Rattle.cwr_decode.proofs.machine.Machine.pass.Goals as goal

pub returns-then-not-begins_held : goal.returns-then-not-begins_held
returns-then-not-begins_held g c = passes_none g.K.Keeper.are_clean c.args.self.now c.args.piece.now c.requires.ready

pub lines-init : goal.lines-init
lines-init g c =
    subst (λ tally. IsPassing g.K.Keeper.stands_for g.K.Keeper.are_clean c.args.self.now c.args.self.now c.args.piece.now
    (record { used = 0; transactions = 0; records = 0 }) 0 1 tally c.begins_held.new.keeper)
    (sym (ap (λ (q : Standing). q.tally) c.self.view_is))
    (begins g.K.Keeper.stands_for g.K.Keeper.are_clean c.args.self.now c.args.piece.now c.begins_held.new.keeper c.requires.ready
    c.requires.reading c.requires.fresh (c.begins_held.ensures c.if-not-begins_held.false))

pub lines-smaller-in-Added : goal.lines-smaller-in-Added
lines-smaller-in-Added g c =
    let p = c.lines.invariant in
    let k =
    subst (λ (f : Found). KeepsFront g.K.Keeper.stands_for g.K.Keeper.are_clean f c.lines.self.finished p.so_far
    (drop (c.lines.passed.used + c.lines.fed) c.args.piece.now) c.keep_front-front.result.0 c.lines.tally
    c.keep_front-front.new.tally c.keep_front-front.new.keeper c.keep_front-front.new.self.line)
    c.in-Added.is (rw take_rest at (c.keep_front-front.ensures.keeps p.so_far p.stands)) in
    one_more_smaller g.K.Keeper.stands_for g.K.Keeper.are_clean c.args.self.now c.lines.self c.args.piece.now c.lines.passed
    c.lines.fed c.lines.records c.keep_front-front.result.0 c.lines.tally c.keep_front-front.new.tally c.lines.keeper
    c.keep_front-front.new.keeper p c.requires.fresh k

pub lines-preserved-in-Added : goal.lines-preserved-in-Added
lines-preserved-in-Added g c =
    let p = c.lines.invariant in
    let k =
    subst (λ (f : Found). KeepsFront g.K.Keeper.stands_for g.K.Keeper.are_clean f c.lines.self.finished p.so_far
    (drop (c.lines.passed.used + c.lines.fed) c.args.piece.now) c.keep_front-front.result.0 c.lines.tally
    c.keep_front-front.new.tally c.keep_front-front.new.keeper c.keep_front-front.new.self.line)
    c.in-Added.is (rw take_rest at (c.keep_front-front.ensures.keeps p.so_far p.stands)) in
    let same : c.keep_front-front.new.self ≡ c.lines.self =
    c.keep_front-front.ensures.kept (λ e. let no : Added ≡ Ends = sym c.in-Added.is ∙ e in cc no) in
    subst (λ (q : Standing). IsPassing g.K.Keeper.stands_for g.K.Keeper.are_clean c.args.self.now q c.args.piece.now
    c.lines.passed (c.lines.fed + c.keep_front-front.result.0) (c.lines.records + 1) c.keep_front-front.new.tally
    c.keep_front-front.new.keeper)
    (sym same)
    (one_more g.K.Keeper.stands_for g.K.Keeper.are_clean c.args.self.now c.lines.self c.args.piece.now c.lines.passed c.lines.fed
    c.lines.records c.keep_front-front.result.0 c.lines.tally c.keep_front-front.new.tally c.lines.keeper
    c.keep_front-front.new.keeper p c.requires.fresh k)

pub returns-then-not-begins_waiting : goal.returns-then-not-begins_waiting
returns-then-not-begins_waiting g c =
    let p = c.lines.invariant in
    let k =
    subst (λ (f : Found). KeepsFront g.K.Keeper.stands_for g.K.Keeper.are_clean f c.lines.self.finished p.so_far
    (drop (c.lines.passed.used + c.lines.fed) c.args.piece.now) c.keep_front-front.result.0 c.lines.tally
    c.keep_front-front.new.tally c.keep_front-front.new.keeper c.keep_front-front.new.self.line)
    c.in-Ends.is (rw take_rest at (c.keep_front-front.ensures.keeps p.so_far p.stands)) in
    let same : waiting c.lines.self.finished c.keep_front-front.new.tally c.keep_front-front.new.self.line ≡ c.wait_with.new.self
    = ap (λ (b : Bool). waiting b c.keep_front-front.new.tally c.keep_front-front.new.self.line)
    (sym (ap (λ (q : Standing). q.finished) c.keep_front-front.ensures.others)) ∙ sym c.wait_with.ensures in
    subst (Passes g.K.Keeper.are_clean c.args.self.now c.args.piece.now (record {
      used =
          c.lines.passed.used + (c.lines.fed + c.keep_front-front.result.0);
      transactions = c.lines.passed.transactions + 1;
      records = c.lines.passed.records + c.lines.records;
    })) same
    (passed_more g.K.Keeper.stands_for g.K.Keeper.are_clean c.args.self.now c.lines.self
    (waiting c.lines.self.finished c.keep_front-front.new.tally c.keep_front-front.new.self.line) c.args.piece.now
    c.lines.passed c.lines.fed c.lines.records c.keep_front-front.result.0 c.lines.tally c.lines.keeper p c.requires.fresh k.0
    k.1)

pub lines-smaller : goal.lines-smaller
lines-smaller g c =
    let p = c.lines.invariant in
    let k =
    subst (λ (f : Found). KeepsFront g.K.Keeper.stands_for g.K.Keeper.are_clean f c.lines.self.finished p.so_far
    (drop (c.lines.passed.used + c.lines.fed) c.args.piece.now) c.keep_front-front.result.0 c.lines.tally
    c.keep_front-front.new.tally c.keep_front-front.new.keeper c.keep_front-front.new.self.line)
    c.in-Ends.is (rw take_rest at (c.keep_front-front.ensures.keeps p.so_far p.stands)) in
    ends_smaller g.K.Keeper.stands_for g.K.Keeper.are_clean c.args.self.now c.lines.self
    (waiting c.lines.self.finished c.keep_front-front.new.tally c.keep_front-front.new.self.line) c.args.piece.now
    c.lines.passed c.lines.fed c.lines.records c.keep_front-front.result.0 c.lines.tally c.lines.keeper p c.requires.fresh k.1

pub lines-preserved : goal.lines-preserved
lines-preserved g c =
    let p = c.lines.invariant in
    let k =
    subst (λ (f : Found). KeepsFront g.K.Keeper.stands_for g.K.Keeper.are_clean f c.lines.self.finished p.so_far
    (drop (c.lines.passed.used + c.lines.fed) c.args.piece.now) c.keep_front-front.result.0 c.lines.tally
    c.keep_front-front.new.tally c.keep_front-front.new.keeper c.keep_front-front.new.self.line)
    c.in-Ends.is (rw take_rest at (c.keep_front-front.ensures.keeps p.so_far p.stands)) in
    let here = waiting c.lines.self.finished c.keep_front-front.new.tally c.keep_front-front.new.self.line in
    let same : here ≡ c.wait_with.new.self
    = ap (λ (b : Bool). waiting b c.keep_front-front.new.tally c.keep_front-front.new.self.line)
    (sym (ap (λ (q : Standing). q.finished) c.keep_front-front.ensures.others)) ∙ sym c.wait_with.ensures in
    let numbers =
    few_more g.K.Keeper.stands_for g.K.Keeper.are_clean c.args.self.now c.lines.self here c.args.piece.now c.lines.passed
    c.lines.fed c.lines.records c.keep_front-front.result.0 c.lines.tally c.lines.keeper p k.1 in
    let begun : BeginsWaiting g.K.Keeper.stands_for here c.begins_waiting.new.keeper
    = subst (λ (q : Standing). BeginsWaiting g.K.Keeper.stands_for q c.begins_waiting.new.keeper) (sym same)
    (c.begins_waiting.ensures c.if-not-begins_waiting.false) in
    subst (λ (q : Standing). IsPassing g.K.Keeper.stands_for g.K.Keeper.are_clean c.args.self.now q c.args.piece.now (record {
      used = c.lines.passed.used + (c.lines.fed + c.keep_front-front.result.0);
      transactions = c.lines.passed.transactions + 1;
      records = c.lines.passed.records + c.lines.records;
    }) 0 1 c.keep_front-front.new.tally c.begins_waiting.new.keeper) same
    (begins_next g.K.Keeper.stands_for g.K.Keeper.are_clean c.args.self.now c.lines.self.finished c.keep_front-front.new.tally
    c.keep_front-front.new.self.line c.args.piece.now
    (record {
      used = c.lines.passed.used + (c.lines.fed + c.keep_front-front.result.0);
      transactions = c.lines.passed.transactions + 1;
      records = c.lines.passed.records + c.lines.records;
    }) c.begins_waiting.new.keeper
    (passed_more g.K.Keeper.stands_for g.K.Keeper.are_clean c.args.self.now c.lines.self here c.args.piece.now c.lines.passed
    c.lines.fed c.lines.records c.keep_front-front.result.0 c.lines.tally c.lines.keeper p c.requires.fresh k.0 k.1)
    (p.passes.finished ∙ c.requires.fresh) numbers.0 numbers.1 begun)

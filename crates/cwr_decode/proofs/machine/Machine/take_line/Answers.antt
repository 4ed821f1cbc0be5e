use Rattle.std.proofs.Common.{List, map, refl, subst, sym, Some}
use Rattle.cwr_shape.specs.declared.stages.Stage.{Stage}
use Rattle.cwr_shape.specs.declared.symbols.Symbol.{Symbol}
use Rattle.cwr_shape.specs.Steps.Tallies.{TallyValue}
use Rattle.cwr_values.specs.Format.Values.{symbol_of}
use Rattle.cwr_decode.specs.declared.outcomes.Outcome.TheVariants as outcomes
use Rattle.cwr_decode.specs.declared.machine.State.TheVariants as states
use Rattle.cwr_values.specs.declared.items.Item.TheVariants as items
use Rattle.cwr_decode.specs.Steps.Machines.{FitsHeld, HoldsOpen, Judges, ReportsFault, Standing, with_tally}
use Rattle.cwr_decode.proofs.lemmas.HeldOpen.{entry_fits}
use Rattle.cwr_decode.proofs.lemmas.LineSteps.{refused_judged, waits_now, enters_now}
use Rattle.cwr_decode.proofs.machine.Machine.take_line.Goals as goal

pub returns-in-Err : goal.returns-in-Err
returns-in-Err c =
    let i = c.self.inside in
    let d : Standing = record { line = i.line; tally = i.tally; held = i.held; state = i.state; finished = i.finished } in
    subst (λ (q : Standing). Judges q (Some c.refuse.result) c.refuse.new.self) c.self.view_is
    (refused_judged d d.tally d.line c.cut-cut.result c.kind-kind.result c.in-Err.fault c.refuse.result c.refuse.new.self
    refl refl c.cut-cut.ensures c.kind-kind.ensures c.in-Err.ensures.err c.in-Err.ensures.first
    (subst (λ (t : TallyValue). ReportsFault (with_tally d t) c.kind-kind.result c.in-Err.fault c.refuse.result c.refuse.new.self)
    c.in-Err.ensures.kept c.refuse.ensures))

pub add_accepted-outcome-requires : goal.add_accepted-outcome-requires
add_accepted-outcome-requires c =
    let i = c.self.inside in
    let d : Standing = record { line = i.line; tally = i.tally; held = i.held; state = i.state; finished = i.finished } in
    let h : HoldsOpen d = subst HoldsOpen (sym c.self.view_is) c.requires.holds in
    let xs : List Symbol = map symbol_of h.records in
    let stands = c.in-Ok.ensures.stands xs h.counted in
    subst (λ (t : Stage). FitsHeld t c.in-Ok.found.1 c.hand_out.new.held) (sym c.stage.ensures.value)
    (entry_fits d h c.judge.new.tally c.cut-cut.result c.in-Ok.found.0 c.in-Ok.found.1 c.stays_open-continues.result
    c.hand_out.result c.hand_out.new.held (c.in-Ok.ensures.ok xs h.counted) stands
    (c.stays_open-continues.ensures xs c.in-Ok.found.0 h.counted stands) c.hand_out.ensures)

pub returns-in-Some : goal.returns-in-Some
returns-in-Some c =
    let i = c.self.inside in
    let d : Standing = record { line = i.line; tally = i.tally; held = i.held; state = i.state; finished = i.finished } in
    subst (λ (q : Standing). Judges q (Some (outcomes.Item (items.Transaction c.in-Some.whole))) (record {
      line = i.line;
      tally = c.judge.new.tally;
      held = c.hand_out.new.held;
      state = states.Pending;
      finished = i.finished;
    })) c.self.view_is
    (waits_now d c.judge.new.tally c.cut-cut.result c.in-Ok.found.0 c.in-Ok.found.1
    c.stays_open-continues.result c.in-Some.whole c.hand_out.result c.hand_out.new.held c.cut-cut.ensures
    c.in-Ok.ensures.carried c.in-Ok.ensures.ok c.in-Ok.ensures.limits c.in-Ok.ensures.stands
    (λ xs st. c.stays_open-continues.ensures xs c.in-Ok.found.0 st (c.in-Ok.ensures.stands xs st)) c.hand_out.ensures c.in-Some.is)

pub returns : goal.returns
returns c =
    let i = c.self.inside in
    let d : Standing = record { line = i.line; tally = i.tally; held = i.held; state = i.state; finished = i.finished } in
    subst (λ (q : Standing). Judges q c.finish_record.result c.finish_record.new.self) c.self.view_is
    (enters_now d c.judge.new.tally c.cut-cut.result c.in-Ok.found.0 c.in-Ok.found.1
    c.stays_open-continues.result c.hand_out.result c.hand_out.new.held c.add_accepted-outcome.result
    c.add_accepted-outcome.new.held c.finish_record.result c.finish_record.new.self
    c.cut-cut.ensures c.in-Ok.ensures.carried c.in-Ok.ensures.ok c.in-Ok.ensures.limits c.in-Ok.ensures.stands
    (λ xs st. c.stays_open-continues.ensures xs c.in-Ok.found.0 st (c.in-Ok.ensures.stands xs st)) c.hand_out.ensures
    c.in_default.is c.add_accepted-outcome.ensures c.finish_record.ensures)

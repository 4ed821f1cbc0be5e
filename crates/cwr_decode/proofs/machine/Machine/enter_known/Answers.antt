use Rattle.std.proofs.Common.{None, Some, ap, length, subst, sym, ◌∙◌}
use Rattle.std.specs.Prelude.{IsSomeAnd}
use Rattle.cwr_values.specs.declared.items.Item.TheVariants as items
use Rattle.cwr_decode.specs.declared.outcomes.Outcome.TheVariants as outcomes
use Rattle.cwr_decode.specs.declared.machine.State.TheVariants as states
use Rattle.cwr_decode.specs.Steps.Machines.{HoldsOpen, JudgesFront, Standing}
use Rattle.cwr_decode.proofs.lemmas.FrontSteps.{front_added, front_ends}
use Rattle.cwr_decode.proofs.machine.Machine.enter_known.Goals as goal

pub enter_cut-requires : goal.enter_cut-requires
enter_cut-requires g c = subst HoldsOpen (sym c.self.view_is) c.requires.holds

pub returns-in-Added : goal.returns-in-Added
returns-in-Added g c =
    let i = c.self.inside in
    let d : Standing = record { line = i.line; tally = i.tally; held = i.held; state = i.state; finished = i.finished } in
    subst (λ (q : Standing). JudgesFront q c.args.piece.now c.in-Some.used None (record {
      line = i.line;
      tally = c.enter_cut.new.tally;
      held = c.enter_cut.new.held;
      state = i.state;
      finished = i.finished;
    })) c.self.view_is
    (front_added d c.args.piece.now c.in-Some.used c.in-Some.cut c.enter_cut.new.tally c.enter_cut.new.held
    (ap (λ (q : Standing). q.state) c.self.view_is ∙ c.requires.reading)
    (ap (λ (q : Standing). q.line.ended) c.self.view_is ∙ c.requires.unended)
    (ap (λ (q : Standing). length q.line.bytes) c.self.view_is ∙ c.requires.empty)
    c.in-Some.ensures.takes c.in-Some.ensures.held (λ e. cc (sym c.in-Some.ensures.ended ∙ e)) c.in-Added.ensures)

pub returns-in-Ends : goal.returns-in-Ends
returns-in-Ends g c =
    let i = c.self.inside in
    let d : Standing = record { line = i.line; tally = i.tally; held = i.held; state = i.state; finished = i.finished } in
    subst (λ (q : Standing). IsSomeAnd c.enter_cut.new.held
    (λ whole. JudgesFront q c.args.piece.now c.in-Some.used (Some (outcomes.Item (items.Transaction whole)))
    (record {
      line = c.keep.new.self;
      tally = c.enter_cut.new.tally;
      held = None;
      state = states.Pending;
      finished = i.finished;
    }))) c.self.view_is
    (front_ends d c.args.piece.now c.in-Some.used c.in-Some.cut c.keep.new.self c.enter_cut.new.tally c.enter_cut.new.held
    (ap (λ (q : Standing). q.line.ended) c.self.view_is ∙ c.requires.unended)
    (ap (λ (q : Standing). length q.line.bytes) c.self.view_is ∙ c.requires.empty)
    c.in-Some.ensures.takes c.in-Some.ensures.held (λ e. cc (sym c.in-Some.ensures.ended ∙ e)) c.in-Ends.ensures c.keep.ensures)

use Rattle.std.proofs.Common.{◌≡◌, ◌≤◌, ℕ, List, Some, length, refl, sym, ap, ◌∙◌, ltb-true, arith}
use Rattle.std.specs.Prelude.{is_some, slice_get}
use Rattle.std.proofs.lemmas.Bool.{ltb-false}
use Rattle.std.proofs.lemmas.Option.{slice_get_read}
use Rattle.cwr_devices.proofs.lemmas.Adding.{adds_nothing}
use Rattle.cwr_sent.specs.declared.answers.KeptAnswer.{KeptAnswer}
use Rattle.cwr_state_rows.specs.Steps.HeldRows.{kept_text, shared_by}
use Rattle.cwr_state_rows.proofs.lemmas.PutInTurn.{rows_more, rows_whole}
use Rattle.cwr_state_rows.proofs.putting.answer_rows.Goals as goal

pub loop-answer-init : goal.loop-answer-init
loop-answer-init g c =
    record { within = omega arith; adds = adds_nothing }

pub prove-unreachable-requires : goal.prove-unreachable-requires
prove-unreachable-requires g c =
    let within = ltb-true c.loop-answer.i (length c.args.answers.now) (sym c.in-Some.ensures.lookup.0) in
    omega (arith, within, c.if-prove.true)

pub loop-answer-preserved : goal.loop-answer-preserved
loop-answer-preserved g c =
    let text : ℕ → KeptAnswer → List ℕ = λ n kept. kept_text (shared_by c.args.front.now) c.args.files.now (Some kept) in
    let within = ltb-true c.loop-answer.i (length c.args.answers.now) (sym c.in-Some.ensures.lookup.0) in
    let there : Some c.in-Some.answer.now ≡ slice_get c.args.answers.now c.loop-answer.i =
    sym (slice_get_read c.args.answers.now (length c.args.answers.now) c.loop-answer.i c.in-Some.answer.now refl within
    c.in-Some.ensures.lookup.1) in
    record {
      within = omega (arith, within);
      adds =
          rows_more text 0 c.loop-answer.i c.loop-answer.i c.args.answers.now c.in-Some.answer.now there (omega arith)
          c.loop-answer.invariant.adds c.row_text.ensures;
    }

pub loop-answer-smaller : goal.loop-answer-smaller
loop-answer-smaller g c =
    let within = ltb-true c.loop-answer.i (length c.args.answers.now) (sym c.in-Some.ensures.lookup.0) in
    omega (arith, within)

pub returns : goal.returns
returns g c =
    let text : ℕ → KeptAnswer → List ℕ = λ n kept. kept_text (shared_by c.args.front.now) c.args.files.now (Some kept) in
    let past : length c.args.answers.now ≤ c.loop-answer.i =
    ltb-false c.loop-answer.i (length c.args.answers.now) (sym c.get.ensures.lookup.0 ∙ ap is_some c.in_default.is) in
    rows_whole text 0 c.loop-answer.i c.args.answers.now past c.loop-answer.invariant.adds

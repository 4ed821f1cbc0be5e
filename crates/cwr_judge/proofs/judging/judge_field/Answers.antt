use Rattle.std.proofs.Common.{sym, ap, ◌∙◌, option_map, true, false}
use Rattle.std.proofs.lemmas.Result.{on_ok_weaker, IfErr-weaker}
use Rattle.cwr_fields.specs.Steps.Views.{field_view}
use Rattle.cwr_judge.specs.Steps.Judged.{IsTextFault, IsNumberFault, HasReasonAt}
use Rattle.cwr_judge.proofs.lemmas.NumberCells.{wide_as_type}
use Rattle.cwr_judge.proofs.lemmas.FirstFaults.{no_field, no_cell, good_at, fault_at, no_number}
use Rattle.cwr_judge.proofs.judging.judge_field.Goals as goal

pub returns-in_default-clause-ok : goal.returns-in_default-clause-ok
returns-in_default-clause-ok c =
    absurd (no_field c.args.kind c.args.j c.requires.from c.requires.to
    (sym c.field.ensures ∙ ap (option_map field_view) c.in_default.is))

pub returns-in_default-cell-clause-ok : goal.returns-in_default-cell-clause-ok
returns-in_default-cell-clause-ok c =
    absurd (no_cell c.args.line.now c.args.kind c.args.j c.in-Some.place c.requires.known c.in-Some.ensures
    (sym c.cell.ensures ∙ ap (option_map (λ x. x.now)) c.in_default-cell.is))

pub judge_text-requires : goal.judge_text-requires
judge_text-requires c =
    wide_as_type c.args.line.now c.args.kind c.args.j c.in-Some.place c.in-Some-cell.cell.now c.requires.known c.in-Some.ensures
    c.in-Some-cell.ensures

pub returns-then-not-place-clause-ok : goal.returns-then-not-place-clause-ok
returns-then-not-place-clause-ok c = λ xs st may.
    on_ok_weaker c.judge_text.result (good_at c.args.tally.now.limits xs c.args.line.now c.args.kind c.args.j c.in-Some.place
    c.in-Some-cell.cell.now false c.in-Some.ensures c.in-Some-cell.ensures c.if-not-place.true)
    (c.judge_text.ensures.ok xs st)

pub returns-then-not-place-clause-err : goal.returns-then-not-place-clause-err
returns-then-not-place-clause-err c = λ xs st may.
    IfErr-weaker c.judge_text.result
    (IsTextFault c.args.tally.now.limits xs c.args.kind c.args.j c.in-Some.place.ty c.in-Some-cell.cell.now)
    (HasReasonAt c.args.tally.now.limits xs c.args.line.now c.args.kind c.args.j)
    (λ reason. fault_at c.args.tally.now.limits xs c.args.line.now c.args.kind c.args.j c.in-Some.place c.in-Some-cell.cell.now
    false reason c.in-Some.ensures c.in-Some-cell.ensures c.if-not-place.true)
    (c.judge_text.ensures.err xs st)

pub judge_number-requires : goal.judge_number-requires
judge_number-requires c =
    wide_as_type c.args.line.now c.args.kind c.args.j c.in-Some.place c.in-Some-cell.cell.now c.requires.known c.in-Some.ensures
    c.in-Some-cell.ensures

pub returns-in-Some-expects-clause-ok : goal.returns-in-Some-expects-clause-ok
returns-in-Some-expects-clause-ok c = λ xs st may.
    on_ok_weaker c.judge_number.result
    (λ e. good_at c.args.tally.now.limits xs c.args.line.now c.args.kind c.args.j c.in-Some.place c.in-Some-cell.cell.now true
    c.in-Some.ensures c.in-Some-cell.ensures c.if-not-place.false
    (c.in-Some-expects.expected, c.in-Some-expects.ensures xs st, e))
    c.judge_number.ensures.ok

pub returns-in-Some-expects-clause-err : goal.returns-in-Some-expects-clause-err
returns-in-Some-expects-clause-err c = λ xs st may.
    IfErr-weaker c.judge_number.result (IsNumberFault c.in-Some.place.ty c.in-Some-cell.cell.now c.in-Some-expects.expected)
    (HasReasonAt c.args.tally.now.limits xs c.args.line.now c.args.kind c.args.j)
    (λ reason q. fault_at c.args.tally.now.limits xs c.args.line.now c.args.kind c.args.j c.in-Some.place c.in-Some-cell.cell.now
    true reason c.in-Some.ensures c.in-Some-cell.ensures c.if-not-place.false
    (c.in-Some-expects.expected, c.in-Some-expects.ensures xs st, q))
    c.judge_number.ensures.err

pub returns-in-None-clause-ok : goal.returns-in-None-clause-ok
returns-in-None-clause-ok c =
    λ xs st may. absurd (no_number c.args.tally.now.limits xs c.args.kind c.args.j c.in-Some.place c.requires.from
    c.in-Some.ensures c.if-not-place.false may (c.in-None.ensures xs st))

use Rattle.std.proofs.Common.{◌≡◌, ℕ, ◌+◌, suc, length, Some, sym, ap, subst, ◌∙◌, arith}
use Rattle.cwr_fields.specs.declared.kinds.Kind.{Kind}
use Rattle.cwr_fields.specs.Format.Layouts.{layout}
use Rattle.cwr_lines.specs.Format.Carried.{record_cell, set_cell}
use Rattle.cwr_lines.specs.Format.Records.{RecordValue}
use Rattle.cwr_select.specs.Steps.Headers.{IsWholeCell}
use Rattle.cwr_select.proofs.lemmas.CopiedCells.{copied_all, copied_cell, copied_fits, copied_to, none_copied}
use Rattle.cwr_select.proofs.copies.copied.Goals.{in-Some, in_default}
use Rattle.cwr_select.proofs.copies.copied.Goals as goal

pub loop-before-init : goal.loop-before-init
loop-before-init c = c.blank-draft.ensures

pub put-requires : goal.put-requires
put-requires c =
    let next : suc c.loop-before.before ≡ c.loop-before.before + 1 = omega arith in
    let is : record_cell c.args.shown.now (suc c.loop-before.before) ≡ Some c.in-Some.text.now =
    ap (record_cell c.args.shown.now) next ∙ sym c.in-Some.ensures.value in
    subst (λ (k : Kind). IsWholeCell k (c.loop-before.before + 1) c.in-Some.text.now)
    (sym (ap (λ (r : RecordValue). r.kind) c.loop-before.invariant))
    (subst (λ (j : ℕ). IsWholeCell c.args.kind j c.in-Some.text.now) next
    (copied_fits c.args.kind c.args.shown.now c.loop-before.before c.in-Some.text.now c.requires c.in-Some.ensures.fits is))

pub loop-before-preserved : goal.loop-before-preserved
loop-before-preserved c =
    let i : ℕ = c.loop-before.before in
    let next : suc i ≡ i + 1 = omega arith in
    elim c.match-cell.branch [
      | in-Some w ↦ w.draft-is ∙ w.put.ensures
          ∙ ap (set_cell (i + 1) w.in-Some.text.now) c.loop-before.invariant
          ∙ ap (λ (j : ℕ). set_cell j w.in-Some.text.now (copied_to c.args.kind i c.args.shown.now)) (sym next)
          ∙ copied_cell c.args.kind c.args.shown.now i w.in-Some.text.now c.requires
          (ap (record_cell c.args.shown.now) next ∙ sym w.in-Some.ensures.value)
          ∙ ap (λ (j : ℕ). copied_to c.args.kind j c.args.shown.now) next
      | in_default w ↦ w.draft-is ∙ c.loop-before.invariant
          ∙ none_copied c.args.kind c.args.shown.now i c.requires c.kind.ensures.fits
          (omega (arith, c.loop-before-test.true, c.fields-before-end.ensures, ap length (ap layout c.kind.ensures.value), ap length c.requires))
          (ap (record_cell c.args.shown.now) next ∙ sym w.in_default.ensures.value)
          ∙ ap (λ (j : ℕ). copied_to c.args.kind j c.args.shown.now) next
    ]

pub returns-clause-copy : goal.returns-clause-copy
returns-clause-copy c =
    c.loop-before.invariant
    ∙ copied_all c.args.kind c.args.shown.now c.loop-before.before c.requires c.kind.ensures.fits
    (omega (arith, c.loop-before-test.false, c.fields-before-end.ensures, ap length (ap layout c.kind.ensures.value), ap length c.requires))

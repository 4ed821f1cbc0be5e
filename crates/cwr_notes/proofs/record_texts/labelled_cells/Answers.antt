use Rattle.std.proofs.Common.{◌≡◌, length, ap, sym, arith}
use Rattle.cwr_fields.specs.declared.kinds.Kind.{Kind}
use Rattle.cwr_fields.specs.Format.Layouts.{layout}
use Rattle.cwr_devices.proofs.lemmas.Adding.{adds_as, adds_both, adds_nothing}
use Rattle.cwr_notes.proofs.lemmas.LabelledCells.{as_many_labels, label_read, labelled_filled, labelled_more}
use Rattle.cwr_notes.proofs.record_texts.labelled_cells.Goals as goal

pub loop-before-init : goal.loop-before-init
loop-before-init g c = adds_nothing

pub bounds-labels-from : goal.bounds-labels-from
bounds-labels-from g c =
    let same : length (layout c.args.kind) ≡ length (layout c.args.shown.now.kind) =
    ap (λ (kind : Kind). length (layout kind)) c.requires in
    omega (
      arith,
      c.loop-before-test.true,
      c.filled_fields-before-end.ensures.most,
      same,
      c.from.ensures,
      as_many_labels c.args.kind c.labels-labels.result.now c.labels-labels.ensures,
    )

pub labelled_field-requires-clause-label : goal.labelled_field-requires-clause-label
labelled_field-requires-clause-label g c =
    let same : length (layout c.args.kind) ≡ length (layout c.args.shown.now.kind) =
    ap (λ (kind : Kind). length (layout kind)) c.requires in
    label_read c.args.kind c.args.shown.now.kind c.labels-labels.result.now c.from.result c.loop-before.before _
    c.labels-labels.ensures c.requires c.from.ensures
    (omega (arith, c.loop-before-test.true, c.filled_fields-before-end.ensures.most, same))

pub loop-before-preserved : goal.loop-before-preserved
loop-before-preserved g c =
    adds_as (sym (labelled_more c.args.shown.now c.loop-before.before)) (adds_both c.loop-before.invariant c.labelled_field.ensures)

pub returns : goal.returns
returns g c =
    adds_as (labelled_filled c.args.shown.now c.filled_fields-before-end.result (length (layout c.args.shown.now.kind)) c.loop-before.before
    (omega (arith, c.loop-before-test.false, c.loop-before.auto.before-end)) c.filled_fields-before-end.ensures.most
    c.filled_fields-before-end.ensures.blank) c.loop-before.invariant

use Rattle.std.proofs.Common.{◌≡◌, ◌∙◌, ap}
use Rattle.cwr_fields.specs.Format.Layouts.{layout}
use Rattle.cwr_lines.specs.Steps.Carried.{record_in}
use Rattle.cwr_lines.proofs.lemmas.BlankCells.{blank_text, is_field_at, blank_begins, field_in_line, width_is_type, blank_more}
use Rattle.cwr_lines.proofs.lemmas.BlankCells.{blank_whole, record_in-blank}
use Rattle.cwr_lines.proofs.drafts.Draft.blank.Goals as goal

pub push_blank-requires-clause-begins : goal.push_blank-requires-clause-begins
push_blank-requires-clause-begins c =
    blank_begins c.args.kind c.loop-place.place-index _ c.loop-place.text.items (is_field_at c.args.kind
    c.layout-place-items.result.now c.loop-place.place-index _ c.layout-place-items.ensures
    c.loop-place-test.true) c.loop-place.invariant

pub push_blank-requires-clause-within : goal.push_blank-requires-clause-within
push_blank-requires-clause-within c =
    field_in_line c.args.kind c.loop-place.place-index _ (is_field_at c.args.kind c.layout-place-items.result.now
    c.loop-place.place-index _ c.layout-place-items.ensures c.loop-place-test.true)

pub push_blank-requires-clause-width : goal.push_blank-requires-clause-width
push_blank-requires-clause-width c =
    width_is_type c.args.kind c.loop-place.place-index _ (is_field_at c.args.kind c.layout-place-items.result.now
    c.loop-place.place-index _ c.layout-place-items.ensures c.loop-place-test.true)

pub loop-place-preserved : goal.loop-place-preserved
loop-place-preserved c =
    blank_more c.args.kind c.loop-place.place-index _ c.loop-place.text.items c.push_blank.new.line.items
    (is_field_at c.args.kind c.layout-place-items.result.now c.loop-place.place-index _ c.layout-place-items.ensures
    c.loop-place-test.true) c.loop-place.invariant c.push_blank.ensures

pub returns : goal.returns
returns c =
    let whole : c.loop-place.text.items ≡ blank_text (layout c.args.kind) =
    blank_whole c.args.kind c.layout-place-items.result.now c.loop-place.place-index c.loop-place.text.items
    c.layout-place-items.ensures c.loop-place-test.false c.loop-place.invariant in
    ap (record_in c.args.kind) whole ∙ record_in-blank c.args.kind

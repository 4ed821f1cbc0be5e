use Rattle.std.proofs.Common.{◌≡◌, ◌<◌, ◌≤◌, length, ◌∙◌, sym}
use Rattle.std.specs.Prelude.{IsTrue}
use Rattle.cwr_fields.specs.Format.Bytes.{filled}
use Rattle.cwr_fields.specs.Format.Cells.{HasFault}
use Rattle.cwr_fields.specs.Steps.Views.{field_view}
use Rattle.cwr_lines.proofs.lemmas.CarriedCells.{cells_whole, whole_of}
use Rattle.cwr_lines.proofs.lemmas.SetCells.{no_field_to_set, of_field, of_carried, field_most, filled_cell_wide, part_within, is_set}
use Rattle.cwr_lines.proofs.drafts.Draft.set.Goals as goal

pub returns-in_default-clause-fault : goal.returns-in_default-clause-fault
returns-in_default-clause-fault c =
    no_field_to_set c.self.inside.kind c.self.inside.text.items c.args.j c.args.self.now c.self.view_is c.in_default.ensures

pub returns-then-place-clause-fault : goal.returns-then-place-clause-fault
returns-then-place-clause-fault c =
    of_field c.self.inside.kind c.self.inside.text.items c.args.j (field_view c.in-Some.place) c.args.self.now
    (λ f. IsTrue f.derived) c.self.view_is c.in-Some.ensures c.if-place.true

pub returns-then-text-place-clause-fault : goal.returns-then-text-place-clause-fault
returns-then-text-place-clause-fault c =
    of_carried c.self.inside.kind c.self.inside.text.items c.args.j (field_view c.in-Some.place) c.args.self.now
    (λ f. f.width < length c.args.text.now) c.self.view_is c.in-Some.ensures c.if-place.false c.if-text-place.true

pub filled_cell-cell-requires-clause-fits : goal.filled_cell-cell-requires-clause-fits
filled_cell-cell-requires-clause-fits c = field_most c.self.inside.kind c.args.j (field_view c.in-Some.place) c.in-Some.ensures

pub fits-requires : goal.fits-requires
fits-requires c =
    filled_cell_wide c.self.inside.kind c.args.j (field_view c.in-Some.place) c.args.text.now c.as_slice.result.now
    c.in-Some.ensures c.if-text-place.false (c.as_slice.ensures.value ∙ c.filled_cell-cell.ensures)

pub returns-in-Err-clause-fault : goal.returns-in-Err-clause-fault
returns-in-Err-clause-fault c =
    let cell : c.as_slice.result.now ≡ filled c.in-Some.place.width c.args.text.now =
    c.as_slice.ensures.value ∙ c.filled_cell-cell.ensures in
    of_carried c.self.inside.kind c.self.inside.text.items c.args.j (field_view c.in-Some.place) c.args.self.now
    (λ f. (length c.args.text.now ≤ f.width) × HasFault f.ty (filled f.width c.args.text.now) c.in-Err.fault)
    c.self.view_is c.in-Some.ensures c.if-place.false (c.if-text-place.false, rw cell at c.in-Err.ensures.err)

pub put-requires : goal.put-requires
put-requires c =
    part_within c.self.inside.kind c.self.inside.text.items c.args.j (field_view c.in-Some.place) c.args.text.now
    c.as_slice-2.result.now c.as_mut_slice.result.now c.self.invariant c.in-Some.ensures c.if-text-place.false
    (c.as_slice-2.ensures.value ∙ c.filled_cell-cell.ensures) c.as_mut_slice.ensures.value

pub returns-clause-ok : goal.returns-clause-ok
returns-clause-ok c =
    let same : c.as_slice.result.now ≡ c.as_slice-2.result.now = c.as_slice.ensures.value ∙ sym c.as_slice-2.ensures.value in
    is_set c.self.inside.kind c.self.inside.text.items c.args.j (field_view c.in-Some.place) c.args.self.now c.args.text.now
    c.as_slice-2.result.now c.as_mut_slice.result.now c.put.new.line c.self.view_is c.self.invariant
    c.in-Some.ensures c.if-place.false c.if-text-place.false (c.as_slice-2.ensures.value ∙ c.filled_cell-cell.ensures)
    c.as_mut_slice.ensures.value c.put.ensures (rw same at c.in_default-fits.ensures.ok)

pub returns-in_default-clause-whole : goal.returns-in_default-clause-whole
returns-in_default-clause-whole c = whole_of c.self.inside.kind c.self.inside.text.items c.args.self.now c.self.view_is

pub returns-then-place-clause-whole : goal.returns-then-place-clause-whole
returns-then-place-clause-whole c = whole_of c.self.inside.kind c.self.inside.text.items c.args.self.now c.self.view_is

pub returns-then-text-place-clause-whole : goal.returns-then-text-place-clause-whole
returns-then-text-place-clause-whole c = whole_of c.self.inside.kind c.self.inside.text.items c.args.self.now c.self.view_is

pub returns-in-Err-clause-whole : goal.returns-in-Err-clause-whole
returns-in-Err-clause-whole c = whole_of c.self.inside.kind c.self.inside.text.items c.args.self.now c.self.view_is

pub returns-clause-whole : goal.returns-clause-whole
returns-clause-whole c = cells_whole c.self.inside.kind _

use Rattle.std.proofs.Common.{◌≡◌, sym, ap, ◌∙◌}
use Rattle.cwr_fields.specs.declared.kinds.Kind.{Kind}
use Rattle.cwr_fields.specs.Format.Layouts.{field_with_start, line_width}
use Rattle.cwr_fields.specs.Steps.Views.{field_view}
use Rattle.cwr_lines.specs.Format.Records.{RecordValue}
use Rattle.cwr_lines.specs.Steps.Carried.{record_in}
use Rattle.cwr_lines.proofs.lemmas.CarriedCells.{carried_within, cell_found, field_with_start-carried, no_cell_found}
use Rattle.cwr_lines.proofs.records.RecordRef.carried_cell.Goals as goal

pub returns-in_err-place-clause-value : goal.returns-in_err-place-clause-value
returns-in_err-place-clause-value c =
    let line = c.self.inside.line.now in
    let same : c.args.kind ≡ c.self.inside.kind = c.requires ∙ sym (ap (λ (r : RecordValue). r.kind) c.self.view_is) in
    rw c.from_residual.ensures
    (no_cell_found c.args.kind line c.args.j c.args.self.now (ap (λ (k : Kind). record_in k line) same ∙ c.self.view_is)
    c.in_err-place.ensures)

pub part-requires : goal.part-requires
part-requires c =
    let same : c.args.kind ≡ c.self.inside.kind = c.requires ∙ sym (ap (λ (r : RecordValue). r.kind) c.self.view_is) in
    carried_within c.args.kind c.self.inside.line.now c.args.j (field_view c.in_ok-place.place)
    (c.self.invariant.whole ∙ ap line_width (sym same)) (sym c.in_ok-place.ensures)

pub returns-clause-value : goal.returns-clause-value
returns-clause-value c =
    let line = c.self.inside.line.now in
    let same : c.args.kind ≡ c.self.inside.kind = c.requires ∙ sym (ap (λ (r : RecordValue). r.kind) c.self.view_is) in
    rw c.part.ensures
    (cell_found c.args.kind line c.args.j (field_view c.in_ok-place.place) c.args.self.now
    (ap (λ (k : Kind). record_in k line) same ∙ c.self.view_is) c.in_ok-place.ensures)

pub returns-clause-place : goal.returns-clause-place
returns-clause-place c =
    sym (ap (λ (kind : Kind). field_with_start kind c.args.j) (sym c.requires)
    ∙ field_with_start-carried c.args.kind c.args.j (field_view c.in_ok-place.place) (sym c.in_ok-place.ensures))

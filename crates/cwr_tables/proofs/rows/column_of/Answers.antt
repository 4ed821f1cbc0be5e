use Rattle.std.proofs.Common.{◌≡◌, ℕ, ◌++◌, List, Some, None, sym, ap, ◌∙◌}
use Rattle.std.specs.Prelude.{codes, option_map}
use Rattle.cwr_fields.specs.Format.Layouts.{field_with_start}
use Rattle.cwr_fields.specs.Steps.Views.{field_view}
use Rattle.cwr_devices.proofs.lemmas.Adding.{adds_as, adds_both, adds_nothing}
use Rattle.cwr_json.specs.Format.Forms.{key_of}
use Rattle.cwr_tables.proofs.lemmas.ColumnsOfFields.{column-derived, column-named, column-none}
use Rattle.cwr_tables.proofs.lemmas.PlainTexts.{key_cell}
use Rattle.cwr_tables.proofs.rows.column_of.Goals as goal

pub returns-in_default : goal.returns-in_default
returns-in_default g c =
    let place : None ≡ field_with_start c.args.kind c.args.j =
    sym (ap (option_map field_view) c.in_default.is) ∙ c.field.ensures in
    adds_as (sym (column-none c.args.kind c.args.j place)) adds_nothing

pub returns-then-place : goal.returns-then-place
returns-then-place g c =
    let place : Some (field_view c.in-Some.place) ≡ field_with_start c.args.kind c.args.j =
    sym (ap (option_map field_view) c.in-Some.is) ∙ c.field.ensures in
    adds_as (sym (column-derived c.args.kind c.args.j (field_view c.in-Some.place) place c.if-place.true)) adds_nothing

pub returns : goal.returns
returns g c =
    let place : Some (field_view c.in-Some.place) ≡ field_with_start c.args.kind c.args.j =
    sym (ap (option_map field_view) c.in-Some.is) ∙ c.field.ensures in
    adds_as (ap (λ (l : List ℕ). codes "," ++ l)
    (ap key_of c.as_bytes.ensures.value ∙ key_cell c.args.kind c.args.j (field_view c.in-Some.place) place)
    ∙ sym (column-named c.args.kind c.args.j (field_view c.in-Some.place) place c.if-place.false))
    (adds_both c.text.ensures c.key_of.ensures)

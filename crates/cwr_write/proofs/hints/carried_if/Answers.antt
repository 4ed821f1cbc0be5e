use Rattle.std.proofs.Common.{ℕ, Bool, List, [], ◌++◌, sym, ap, ◌∙◌}
use Rattle.std.specs.Prelude.{codes, option_map, if◌then◌else◌}
use Rattle.cwr_fields.specs.Steps.Views.{field_view}
use Rattle.cwr_devices.proofs.lemmas.Adding.{adds_as, adds_both, adds_nothing}
use Rattle.cwr_json.specs.Format.Forms.{key_of}
use Rattle.cwr_write.proofs.lemmas.FieldsFound.{carried_found, carried_missed}
use Rattle.cwr_write.proofs.hints.carried_if.Goals as goal

pub returns-in_default : goal.returns-in_default
returns-in_default g c =
    adds_as (sym (carried_missed c.args.kind c.args.j (sym (ap (option_map field_view) c.in_default.is) ∙ c.field.ensures)))
    adds_nothing

pub returns-then-place : goal.returns-then-place
returns-then-place g c =
    adds_as (sym (carried_found c.args.kind c.args.j (field_view c.in-Some.place)
    (sym (ap (option_map field_view) c.in-Some.is) ∙ c.field.ensures)
    ∙ ap (λ (b : Bool). if b then [] else codes " " ++ key_of c.in-Some.place.name.now) c.if-place.true)) adds_nothing

pub returns : goal.returns
returns g c =
    adds_as (ap (λ (l : List ℕ). codes " " ++ key_of l) c.as_bytes.ensures.value
    ∙ sym (carried_found c.args.kind c.args.j (field_view c.in-Some.place)
    (sym (ap (option_map field_view) c.in-Some.is) ∙ c.field.ensures)
    ∙ ap (λ (b : Bool). if b then [] else codes " " ++ key_of c.in-Some.place.name.now) c.if-place.false))
    (adds_both c.text.ensures c.key_of.ensures)

use Rattle.std.proofs.Common.{sym, ap, ◌∙◌}
use Rattle.std.specs.Prelude.{codes, decimal, option_map}
use Rattle.cwr_fields.specs.Steps.Views.{field_view}
use Rattle.cwr_devices.proofs.lemmas.Adding.{adds_as, adds_both, adds_nothing}
use Rattle.cwr_json.specs.Format.Forms.{key_of}
use Rattle.cwr_write.proofs.lemmas.FieldsFound.{width_found, width_missed}
use Rattle.cwr_write.proofs.lemmas.TextsTogether.{three_together}
use Rattle.cwr_write.proofs.hints.width_text.Goals as goal

pub returns-in_default : goal.returns-in_default
returns-in_default g c =
    adds_as (sym (width_missed c.args.kind c.args.j (sym (ap (option_map field_view) c.in_default.is) ∙ c.field.ensures)))
    adds_nothing

pub returns : goal.returns
returns g c =
    adds_as (sym (width_found c.args.kind c.args.j (field_view c.in-Some.place)
    (sym (ap (option_map field_view) c.in-Some.is) ∙ c.field.ensures)))
    (adds_both (adds_both c.text.ensures (adds_as (ap key_of c.as_bytes.ensures.value) c.key_of.ensures))
    (adds_as (three_together (codes " has at most ") (decimal c.in-Some.place.width) (codes " bytes\n"))
    (adds_both (adds_both c.text-2.ensures c.number.ensures) c.text-3.ensures)))

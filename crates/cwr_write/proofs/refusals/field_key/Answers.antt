use Rattle.std.proofs.Common.{sym, ap, ◌∙◌}
use Rattle.std.specs.Prelude.{option_map}
use Rattle.cwr_fields.specs.Steps.Views.{field_view}
use Rattle.cwr_devices.proofs.lemmas.Adding.{adds_as, adds_nothing}
use Rattle.cwr_json.specs.Format.Forms.{key_of}
use Rattle.cwr_write.proofs.lemmas.FieldsFound.{key_found, key_missed}
use Rattle.cwr_write.proofs.refusals.field_key.Goals as goal

pub returns-in-Some : goal.returns-in-Some
returns-in-Some g c =
    adds_as (ap key_of c.as_bytes.ensures.value ∙ sym (key_found c.args.kind c.args.j (field_view c.in-Some.place)
    (sym (ap (option_map field_view) c.in-Some.is) ∙ c.field.ensures))) c.key_of.ensures

pub returns-in-None : goal.returns-in-None
returns-in-None g c =
    adds_as (sym (key_missed c.args.kind c.args.j (sym (ap (option_map field_view) c.in-None.is) ∙ c.field.ensures))) adds_nothing

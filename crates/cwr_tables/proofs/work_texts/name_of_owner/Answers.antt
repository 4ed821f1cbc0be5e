use Rattle.std.proofs.Common.{◌≡◌, ℕ, true, List, sym, ap, ◌∙◌}
use Rattle.cwr_fields.specs.Format.Bytes.{trimmed}
use Rattle.cwr_devices.proofs.lemmas.Adding.{adds_as}
use Rattle.cwr_json.specs.Format.Encodings.{characters}
use Rattle.cwr_tables.specs.declared.works.Side.{Side}
use Rattle.cwr_tables.specs.declared.works.Side.TheVariants.{Publishers}
use Rattle.cwr_tables.specs.Format.WorkTables.{is_on, name_of_owner}
use Rattle.cwr_tables.specs.Steps.WorkTexts.{within}
use Rattle.cwr_tables.proofs.lemmas.NamedOwners.{cell_is}
use Rattle.cwr_tables.proofs.lemmas.WorkFields.{publisher_name}
use Rattle.cwr_tables.proofs.work_texts.name_of_owner.Goals as goal

pub writer_name-requires : goal.writer_name-requires
writer_name-requires g c = sym (ap (λ (side : Side). is_on side c.args.shown.now) c.in-Writers.is) ∙ c.requires

pub returns-in-Writers : goal.returns-in-Writers
returns-in-Writers g c =
    adds_as (sym (ap (λ (side : Side). within c.args.quoted (name_of_owner c.args.encoding side c.args.shown.now)) c.in-Writers.is))
    c.writer_name.ensures

pub returns-in-Publishers : goal.returns-in-Publishers
returns-in-Publishers g c =
    let on : is_on Publishers c.args.shown.now ≡ true =
    sym (ap (λ (side : Side). is_on side c.args.shown.now) c.in-Publishers.is) ∙ c.requires in
    adds_as (ap (λ (part : List ℕ). within c.args.quoted (characters c.args.encoding part)) (c.trimmed.ensures ∙ ap trimmed
    (cell_is "publisher name" c.args.shown.now 6 45 c.cell.result.now c.cell.ensures.value (publisher_name c.args.shown.now on)
    c.cell.ensures.fits))
    ∙ sym (ap (λ (side : Side). within c.args.quoted (name_of_owner c.args.encoding side c.args.shown.now)) c.in-Publishers.is))
    c.within.ensures

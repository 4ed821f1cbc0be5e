use Rattle.std.proofs.Common.{Bool, refl, sym, ap, ◌∙◌}
use Rattle.std.specs.Prelude.{◌||◌, unwrap_or, []}
use Rattle.cwr_lines.specs.Format.Carried.{record_cell}
use Rattle.cwr_select.specs.Format.Criteria.{is_party}
use Rattle.cwr_select.proofs.lemmas.PartyCells.{named}
use Rattle.cwr_select.proofs.parties.names_party.Goals as goal

pub returns-then-is_party : goal.returns-then-is_party
returns-then-is_party c =
    c.if-is_party.true
    ∙ sym (ap (λ (b : Bool). b || is_party c.args.number.now
    (unwrap_or (record_cell c.args.shown.now c.party_fields-first.result.1) []))
    (sym c.is_party.ensures ∙ c.if-is_party.true))
    ∙ sym (named c.args.number.now c.args.shown.now c.kind.result c.party_fields-first.result c.cell.result.now
    (unwrap_or (record_cell c.args.shown.now c.party_fields-first.result.1) []) c.requires c.kind.ensures.value
    c.kind.ensures.fits
    c.party_fields-first.ensures c.cell.ensures.value refl)

pub returns-else-is_party : goal.returns-else-is_party
returns-else-is_party c =
    c.is_party-else-is_party.ensures
    ∙ sym (ap (λ (b : Bool). b || is_party c.args.number.now c.cell-else-is_party.result.now)
    (sym c.is_party.ensures ∙ c.if-is_party.false))
    ∙ sym (named c.args.number.now c.args.shown.now c.kind.result c.party_fields-first.result c.cell.result.now
    c.cell-else-is_party.result.now c.requires c.kind.ensures.value c.kind.ensures.fits c.party_fields-first.ensures
    c.cell.ensures.value c.cell-else-is_party.ensures.value)

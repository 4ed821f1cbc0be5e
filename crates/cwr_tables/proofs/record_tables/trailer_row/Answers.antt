use Rattle.std.proofs.Common.{◌≡◌, rules, sym, ap, ◌∙◌}
use Rattle.cwr_fields.specs.declared.kinds.Kind.{Kind}
use Rattle.cwr_fields.specs.declared.kinds.Kind.TheVariants.{Trl}
use Rattle.cwr_fields.specs.contracts.kinds.Kind.{the_type}
use Rattle.cwr_values.specs.Format.Rows.{trailer}
use Rattle.cwr_devices.proofs.lemmas.Adding.{adds_as}
use Rattle.cwr_tables.specs.declared.places.RowNumbers.TheVariants.{Outside}
use Rattle.cwr_tables.specs.Format.RecordTables.{row_of_kind}
use Rattle.std.proofs.lemmas.Bool.{not-false}
use Rattle.cwr_tables.proofs.lemmas.TextsOfRows.{trailer_is}
use Rattle.cwr_tables.proofs.record_tables.trailer_row.Goals as goal
use denote.Enum.Bare.{same_true}

pub returns : goal.returns
returns g c =
    let is : c.args.kind ≡ Trl = same_true the_type (search rules) _ _ (not-false _ (sym c.ne.ensures ∙ c.if-ne.false)) in
    adds_as (trailer_is c.args.encoding ∙ ap (λ (kind : Kind). row_of_kind c.args.encoding kind Outside trailer) (sym is))
    c.text.ensures

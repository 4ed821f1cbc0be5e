use Rattle.std.proofs.Common.{refl, sym, ap, ◌∙◌}
use Rattle.cwr_fields.specs.Format.Kinds.{is_carried}
use Rattle.cwr_findings.proofs.lemmas.SummedSides.{carried_more, territory_more}
use Rattle.cwr_findings.proofs.sums.Sums.add_to_agreement.Goals as goal

pub returns-in-Ter : goal.returns-in-Ter
returns-in-Ter c = λ rs h yes.
    territory_more c.args.self.now _ rs c.args.shown.now h refl (sym c.kind.ensures.value ∙ c.in-Ter.is) c.none-self.ensures

pub returns-in_default : goal.returns-in_default
returns-in_default c = λ rs h yes.
    carried_more c.args.self.now rs c.args.shown.now h
    (ap is_carried (sym c.kind.ensures.value) ∙ sym c.is_carried.ensures ∙ yes)

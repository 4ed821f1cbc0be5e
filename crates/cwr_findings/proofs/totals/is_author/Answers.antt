use Rattle.std.proofs.Common.{sym, ap, refl, ◌∙◌, inl, inr}
use Rattle.cwr_fields.specs.declared.kinds.Kind.TheVariants as kinds
use Rattle.cwr_findings.specs.Format.Findings.{names_author}
use Rattle.cwr_findings.proofs.lemmas.RuleFields.{designation_of_swr, designation_of_owr}
use Rattle.cwr_findings.proofs.lemmas.RuleTests.{author_of_kind}
use Rattle.cwr_findings.proofs.totals.is_author.Goals as goal

pub returns-in-Swr : goal.returns-in-Swr
returns-in-Swr c = c.names_author.ensures ∙ ap names_author c.cell.ensures.value ∙ elim c.in-Swr.is [
  | inl e ↦ author_of_kind kinds.Swr c.args.shown.now refl designation_of_swr (sym c.kind.ensures.value ∙ e) c.cell.ensures.fits
  | inr e ↦ author_of_kind kinds.Owr c.args.shown.now refl designation_of_owr (sym c.kind.ensures.value ∙ e) c.cell.ensures.fits
]

use Rattle.std.proofs.Common.{ℕ, List, sym, refl, ap, ◌∙◌, inl, inr}
use Rattle.std.specs.Prelude.{not, ◌&&◌}
use Rattle.cwr_fields.specs.Format.Bytes.{is_spaces}
use Rattle.cwr_fields.specs.Format.Iswc.{is_iswc}
use Rattle.cwr_fields.specs.declared.kinds.Kind.TheVariants as kinds
use Rattle.cwr_findings.proofs.lemmas.RuleFields.{iswc_of_nwr, iswc_of_rev, iswc_of_ewt, iswc_of_ver, iswc_of_com}
use Rattle.cwr_findings.proofs.lemmas.RuleTests.{wrong_iswc}
use Rattle.cwr_findings.proofs.finding_questions.has_wrong_iswc.Goals as goal

pub returns-in-Nwr : goal.returns-in-Nwr
returns-in-Nwr c = λ t k. c.is_wrong_iswc.ensures ∙ ap (λ (x : List ℕ). not (is_spaces x) && not (is_iswc x)) c.cell.ensures.value
    ∙ elim c.in-Nwr.is [
      | inl e ↦ wrong_iswc kinds.Nwr 7 c.args.shown.now t k iswc_of_nwr refl (sym c.kind.ensures.value ∙ e) c.cell.ensures.fits
      | inr e ↦ wrong_iswc kinds.Rev 7 c.args.shown.now t k iswc_of_rev refl (sym c.kind.ensures.value ∙ e) c.cell.ensures.fits
    ]

pub returns-in-Ewt : goal.returns-in-Ewt
returns-in-Ewt c =
    λ t k. c.is_wrong_iswc-in-Ewt.ensures ∙ ap (λ (x : List ℕ). not (is_spaces x) && not (is_iswc x)) c.cell-in-Ewt.ensures.value
    ∙ elim c.in-Ewt.is [
      | inl e ↦ wrong_iswc kinds.Ewt 5 c.args.shown.now t k iswc_of_ewt refl (sym c.kind.ensures.value ∙ e)
          c.cell-in-Ewt.ensures.fits
      | inr (inl e) ↦ wrong_iswc kinds.Ver 5 c.args.shown.now t k iswc_of_ver refl (sym c.kind.ensures.value ∙ e)
          c.cell-in-Ewt.ensures.fits
      | inr (inr e) ↦ wrong_iswc kinds.Com 5 c.args.shown.now t k iswc_of_com refl (sym c.kind.ensures.value ∙ e)
          c.cell-in-Ewt.ensures.fits
    ]

use Rattle.std.proofs.Common.{◌≡◌, ℕ, ◌++◌, ◌∷◌, [], length, refl, ap, subst, sym, ◌∙◌}
use Rattle.std.proofs.lemmas.Bool.{eqb-true}
use Rattle.cwr_values.specs.declared.items.Item.TheVariants.{Transaction}
use Rattle.cwr_tools.specs.Format.Reports.{ItemLines}
use Rattle.cwr_advise.specs.Format.AdviceLines.{advised_lines, said_in}
use Rattle.cwr_advise.specs.Format.RepeatedWorks.{works_in}
use Rattle.cwr_advise.proofs.lemmas.Begun.{none_told}
use Rattle.cwr_advise.proofs.lemmas.LevelsTold.{worst_passed}
use Rattle.cwr_advise.proofs.lemmas.LinesOfAdvice.{advised_passed, counts_passed}
use Rattle.cwr_advise.proofs.lemmas.SaidBefore.{said_still}
use Rattle.cwr_advise.proofs.lemmas.WorksKept.{kept_nothing}
use Rattle.cwr_advise.proofs.advice_lines.AdviceLinesReport.passes.Goals as goal

pub returns : goal.returns
returns c = λ told of given t clean here.
    let self = c.args.self.now in
    let zero : self.repeats.limit ≡ 0 = sym c.limit.ensures ∙ eqb-true c.limit.result 0 told in
    let same : advised_lines self.manner self.repeats.limit (given ++ Transaction t ∷ [])
    ≡ advised_lines self.manner self.repeats.limit given
    = subst (λ (n : ℕ). advised_lines self.manner n (given ++ Transaction t ∷ []) ≡ advised_lines self.manner n given)
    (sym zero) (advised_passed self.manner given t clean.0 (clean.1 (said_in given))) in (
      subst (λ (lines : ItemLines). lines.lines (given ++ Transaction t ∷ []) ≡ lines.lines given) (sym here.0) same,
      (
        here.0,
        here.1 ∙ said_still given (Transaction t) refl,
        kept_nothing self.repeats (works_in given) (works_in (given ++ Transaction t ∷ [])) zero here.2,
        none_told self.findings given (Transaction t) (ap length clean.0) here.3,
        here.4 ∙ sym (counts_passed self.repeats.limit given t zero (clean.1 (said_in given))),
        worst_passed self.worst.level self.repeats.limit given t zero clean.0 (clean.1 (said_in given)) here.5,
        here.6,
      ),
    )

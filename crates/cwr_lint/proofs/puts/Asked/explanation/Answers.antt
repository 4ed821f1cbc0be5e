use Rattle.std.proofs.Common.{[], refl, sym, ap, ◌∙◌, true≢false}
use Rattle.std.specs.Option.{is_some}
use Rattle.cwr_devices.proofs.lemmas.Adding.{adds_both, adds_nothing}
use Rattle.cwr_lint.proofs.puts.Asked.explanation.Goals as goal

pub returns-in_default : goal.returns-in_default
returns-in_default g c = ([], adds_nothing, λ unexplained. refl)

pub returns-in_err-text : goal.returns-in_err-text
returns-in_err-text g c = ([], adds_nothing, λ unexplained. refl)

pub returns : goal.returns
returns g c =
    (_, adds_both c.text.ensures c.text-2.ensures, λ unexplained. absurd (true≢false (sym (ap is_some c.in-Some.is) ∙ unexplained)))

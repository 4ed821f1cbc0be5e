use Rattle.std.proofs.Common.{[], ◌∷◌, ◌++◌, sym, ap, ◌∙◌}
use Rattle.cwr_values.specs.declared.items.Item.{Item}
use Rattle.cwr_advice.specs.Format.Said.{said_by}
use Rattle.cwr_advise.specs.Format.AdviceLines.{said_in}
use Rattle.cwr_advise.proofs.lemmas.SaidBefore.{said_now}
use Rattle.cwr_advise.proofs.before.Before.with.Goals as goal

pub returns-in-Opened : goal.returns-in-Opened
returns-in-Opened c = λ items h.
    c.by.ensures ∙ ap said_by c.view.ensures.value
    ∙ said_now items c.in-Opened.header ∙ ap (λ (i : Item). said_in (items ++ i ∷ [])) (sym c.in-Opened.is)

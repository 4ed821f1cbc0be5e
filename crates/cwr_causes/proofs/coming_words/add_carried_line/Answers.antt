use Rattle.cwr_causes.specs.Format.ComingTexts.{carried_line}
use Rattle.cwr_causes.proofs.lemmas.SaidInParts.{on_ok, three_said}
use Rattle.cwr_causes.proofs.coming_words.add_carried_line.Goals as goal

pub returns : goal.returns
unfolding carried_line
returns c =
    on_ok c.add_symbols.result
    (λ h. three_said _ _ _ _ _ _ _ c.in_ok-add_label.ensures c.in_ok-push_str.ensures.bytes h)
    c.add_symbols.ensures

use Rattle.cwr_causes.specs.Format.MisplacedTexts.{missing_words}
use Rattle.cwr_causes.proofs.lemmas.SaidInParts.{on_ok, three_said}
use Rattle.cwr_causes.proofs.misplaced_words.add_missing.Goals as goal

pub returns : goal.returns
unfolding missing_words
returns c =
    on_ok c.add_here.result
    (λ h. three_said _ _ _ _ _ _ _ c.in_ok-add_gap.ensures c.in_ok-push_str.ensures.bytes h)
    c.add_here.ensures

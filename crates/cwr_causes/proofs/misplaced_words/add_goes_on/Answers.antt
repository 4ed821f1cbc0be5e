use Rattle.cwr_causes.specs.Format.MisplacedTexts.{goes_on_words}
use Rattle.cwr_causes.proofs.lemmas.SaidInParts.{on_ok, three_said}
use Rattle.cwr_causes.proofs.misplaced_words.add_goes_on.Goals as goal

pub returns : goal.returns
unfolding goes_on_words
returns c =
    on_ok c.add_alternatives.result
    (λ h. three_said _ _ _ _ _ _ _ c.in_ok-push_str.ensures.bytes c.in_ok-add_place_start.ensures h)
    c.add_alternatives.ensures

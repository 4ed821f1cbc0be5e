-- Lines that are shown one by one.
use Rattle.std.proofs.Common.{ℕ, List, [], ◌∷◌, ◌++◌, refl, sym, ap, ◌∙◌, append-nil}
use Rattle.cwr_terminal.specs.Format.Laws.{ShownByLines, joined}
use Rattle.cwr_terminal.specs.Format.Shown.{shown_after, shown_line}
use Rattle.cwr_terminal.proofs.lemmas.Parts.{after_feed, after_nothing, behind}

pub shown_by_lines : ShownByLines
shown_by_lines style first [] none others =
    ap (shown_after style []) (sym (append-nil first)) ∙ behind style [] first [] none ∙ after_nothing style first
shown_by_lines style first (line ∷ lines) none others =
    behind style [] first (10 ∷ joined (10 ∷ []) line lines) none
    ∙ after_feed style first 10 (joined (10 ∷ []) line lines) refl
    ∙ ap (λ (l : List ℕ). shown_line style first ++ 10 ∷ l) (shown_by_lines style line lines others.0 others.1)

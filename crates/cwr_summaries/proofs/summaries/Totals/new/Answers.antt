use Rattle.std.proofs.Common.{◌∙◌, ℕ, List, ap, refl}
use Rattle.std.specs.Prelude.{slice_index}
use Rattle.cwr_summary.proofs.lemmas.Totals.{no_number}
use Rattle.cwr_summaries.proofs.lemmas.Totals.{none_counted}
use Rattle.cwr_summaries.proofs.summaries.Totals.new.Goals as goal

pub returns-clause-totals : goal.returns-clause-totals
returns-clause-totals c =
    none_counted _ refl refl (λ i. ap (λ (l : List ℕ). slice_index l i) c.new-2.ensures ∙ no_number 80 i) c.new-3.ensures.items
    c.new.ensures.sums

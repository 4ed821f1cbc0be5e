use Rattle.std.proofs.Common.{[], ◌∷◌, ◌++◌, length, sym, ◌∙◌}
use Rattle.cwr_findings.proofs.lemmas.FalseTests.{not_false}
use Rattle.cwr_findings.proofs.lemmas.SummedRecords.{excerpt_known, no_title_here}
use Rattle.cwr_findings.proofs.sums.Sums.may_lack_excerpt_type.Goals as goal

pub returns-then-not-is_of : goal.returns-then-not-is_of
returns-then-not-is_of c =
    λ rs h no. no_title_here (rs ++ c.args.shown.now ∷ []) (length rs) c.args.shown.now
    (sym c.is_of.ensures ∙ c.if-not-is_of.true)

pub returns : goal.returns
returns c =
    λ rs h no. excerpt_known rs (length rs) c.args.shown.now h.work (h.excerpt (not_false c.args.self.now.has_excerpt_type no))

use Rattle.std.proofs.Common.{[], ◌∷◌, ◌++◌, length, sym, ◌∙◌}
use Rattle.cwr_findings.proofs.lemmas.FalseTests.{not_false}
use Rattle.cwr_findings.proofs.lemmas.SummedRecords.{no_writer_here, publisher_known}
use Rattle.cwr_findings.proofs.sums.Sums.may_name_no_publisher.Goals as goal

pub returns-then-not-is_of : goal.returns-then-not-is_of
returns-then-not-is_of c =
    λ rs h no. no_writer_here (rs ++ c.args.shown.now ∷ []) (length rs) c.args.shown.now
    (sym c.is_of.ensures ∙ c.if-not-is_of.true)

pub returns : goal.returns
returns c =
    λ rs h no. publisher_known rs (length rs) c.args.shown.now c.cell.result.now (sym c.is_of.ensures ∙ c.if-not-is_of.false)
    c.cell.ensures.fits c.cell.ensures.value
    (h.publishers c.cell.result.now (c.has_publisher.ensures (not_false c.has_publisher.result no)))

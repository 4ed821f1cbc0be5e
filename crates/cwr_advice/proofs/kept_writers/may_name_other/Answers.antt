use Rattle.std.proofs.Common.{[], ◌∷◌, ◌++◌, length, sym, ◌∙◌}
use Rattle.std.proofs.lemmas.Bool.{not-false}
use Rattle.cwr_advice.proofs.lemmas.LastWriters.{names_last, names_nobody, names_none}
use Rattle.cwr_advice.proofs.kept_writers.may_name_other.Goals as goal

pub returns-then-not-is_of : goal.returns-then-not-is_of
returns-then-not-is_of c = λ rs h no. names_nobody (rs ++ c.args.shown.now ∷ []) (length rs) c.args.shown.now (sym c.is_of.ensures ∙ c.if-not-is_of.true)

pub returns-then-is_spaces : goal.returns-then-is_spaces
returns-then-is_spaces c = λ rs h no.
    names_none (rs ++ c.args.shown.now ∷ []) (length rs) c.args.shown.now c.cell-number.result.now (sym c.is_of.ensures ∙ c.if-not-is_of.false) c.cell-number.ensures.fits
    c.cell-number.ensures.value (sym c.is_spaces.ensures ∙ c.if-is_spaces.true)

pub returns-in-Some : goal.returns-in-Some
returns-in-Some c = λ rs h no.
    names_last rs c.args.shown.now c.cell-number.result.now c.in-Some.writer.now (sym c.is_of.ensures ∙ c.if-not-is_of.false)
    c.cell-number.ensures.fits c.cell-number.ensures.value (not-false _ (sym c.ne.ensures ∙ no))
    (h c.in-Some.writer.now (sym c.in-Some.ensures))

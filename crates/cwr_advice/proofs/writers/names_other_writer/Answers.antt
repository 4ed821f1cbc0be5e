use Rattle.std.proofs.Common.{sym, ◌∙◌}
use Rattle.cwr_advice.proofs.lemmas.LastWriters.{names_by, names_none}
use Rattle.cwr_advice.proofs.writers.names_other_writer.Goals as goal

pub returns-then-is_spaces : goal.returns-then-is_spaces
returns-then-is_spaces c =
    sym (names_none c.args.transaction.now c.args.sequence c.args.shown.now c.cell-number.result.now
    (sym c.is_of.ensures ∙ c.if-not-is_of.false) c.cell-number.ensures.fits c.cell-number.ensures.value
    (sym c.is_spaces.ensures ∙ c.if-is_spaces.true))

pub returns : goal.returns
returns c =
    names_by c.args.transaction.now c.args.sequence c.args.shown.now c.cell-number.result.now c.last_writer_has.result
    (sym c.is_of.ensures ∙ c.if-not-is_of.false) c.cell-number.ensures.fits c.cell-number.ensures.value
    (sym c.is_spaces.ensures ∙ c.if-is_spaces.false) c.last_writer_has.ensures

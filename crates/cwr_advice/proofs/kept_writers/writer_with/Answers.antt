use Rattle.std.proofs.Common.{sym, ◌∙◌}
use Rattle.cwr_advice.proofs.lemmas.CalmRecords.{some_is}
use Rattle.cwr_advice.proofs.lemmas.LastWriters.{known_by, known_still}
use Rattle.cwr_advice.proofs.kept_writers.writer_with.Goals as goal

pub returns-then-not-is_writer : goal.returns-then-not-is_writer
returns-then-not-is_writer c =
    λ rs h. known_still rs c.args.shown.now c.args.writer (sym c.is_writer.ensures ∙ c.if-not-is_writer.true) h

pub returns : goal.returns
returns c = λ rs h.
    known_by rs c.args.shown.now c.cell.result.now c.number_in.result (sym c.is_writer.ensures ∙ c.if-not-is_writer.false)
    c.cell.ensures.fits c.cell.ensures.value (some_is c.number_in.result c.cell.result.now c.number_in.ensures)

use Rattle.std.proofs.Common.{ap, ◌∙◌}
use Rattle.cwr_fields.specs.Format.Bytes.{trimmed}
use Rattle.cwr_sent.specs.Format.SentFacts.{title_check}
use Rattle.cwr_delivery.proofs.lemmas.AckFields.{title}
use Rattle.cwr_delivery.proofs.lemmas.NamedCells.{cell_is}
use Rattle.cwr_delivery.proofs.acknowledgements.named_check.Goals as goal

pub returns : goal.returns
returns c =
    c.title_check.ensures ∙ ap title_check (c.trimmed.ensures ∙ ap trimmed (cell_is "creation title" c.args.head.now 9 60
    c.cell.result.now c.cell.ensures.value (title c.args.head.now c.requires) c.cell.ensures.fits))

use Rattle.cwr_fields.specs.Format.Layouts.{line_width}
use Rattle.cwr_lines.proofs.lemmas.FilledTexts.{filled-filled, line_width_least}
use Rattle.cwr_lines.proofs.lines.fill_by_kind.Goals as goal

pub returns-clause-filled : goal.returns-clause-filled
returns-clause-filled c =
    rw (c.fill_up-2.ensures, c.width.ensures, c.fill_up.ensures)
    (filled-filled 3 (line_width c.in_ok-kind.kind) c.args.text.now.items (line_width_least c.in_ok-kind.kind))

use Rattle.std.proofs.Common.{sym, ◌∙◌}
use Rattle.cwr_devices.proofs.lemmas.Adding.{adds_as, adds_both}
use Rattle.cwr_json.specs.Format.Encodings.{characters}
use Rattle.cwr_tables.proofs.lemmas.CellTexts.{next_by}
use Rattle.cwr_tables.proofs.lemmas.QuotedCharacters.{quotes_characters}
use Rattle.cwr_tables.proofs.cells.next_characters.Goals as goal

pub returns : goal.returns
returns g c =
    adds_as (next_by (characters c.args.encoding c.args.cell.now) c.needs_quotes-quoted.result
    (quotes_characters c.args.encoding c.args.cell.now ∙ sym c.needs_quotes-quoted.ensures))
    (adds_both (adds_both (adds_both c.text.ensures c.edge.ensures) c.within.ensures) c.edge-2.ensures)

use Rattle.std.proofs.Common.{sym, ap, ◌∙◌}
use Rattle.std.specs.List.{flat_map}
use Rattle.cwr_devices.proofs.lemmas.Adding.{adds_as}
use Rattle.cwr_json.proofs.lemmas.Characters.{characters_as_is, characters_each}
use Rattle.cwr_tables.specs.Format.Tables.{doubled}
use Rattle.cwr_tables.proofs.lemmas.QuotedCharacters.{doubled_by_bytes}
use Rattle.cwr_tables.proofs.cells.doubled_characters.Goals as goal

pub returns-then-are_shown_as_is : goal.returns-then-are_shown_as_is
returns-then-are_shown_as_is g c =
    adds_as (ap (flat_map doubled)
    (sym (characters_as_is c.args.encoding c.args.cell.now (sym c.are_shown_as_is.ensures ∙ c.if-are_shown_as_is.true))))
    c.all_doubled.ensures

pub returns-else-are_shown_as_is : goal.returns-else-are_shown_as_is
returns-else-are_shown_as_is g c =
    adds_as (doubled_by_bytes c.args.encoding c.args.cell.now ∙ ap (flat_map doubled)
    (sym (characters_each c.args.encoding c.args.cell.now (sym c.are_shown_as_is.ensures ∙ c.if-are_shown_as_is.false))))
    c.doubled_each.ensures

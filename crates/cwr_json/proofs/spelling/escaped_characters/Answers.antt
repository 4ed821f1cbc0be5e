use Rattle.std.proofs.Common.{sym, ◌∙◌}
use Rattle.cwr_devices.proofs.lemmas.Adding.{adds_as}
use Rattle.cwr_json.proofs.lemmas.Spelled.{spelled_as_is, spelled_each, spelled_simple}
use Rattle.cwr_json.proofs.spelling.escaped_characters.Goals as goal

pub returns-then-is_simple : goal.returns-then-is_simple
returns-then-is_simple g c =
    adds_as (sym (spelled_simple c.args.encoding c.args.cell.now (c.is_simple.ensures c.if-is_simple.true))) c.text.ensures

pub returns-then-are_shown_as_is : goal.returns-then-are_shown_as_is
returns-then-are_shown_as_is g c =
    adds_as (sym (spelled_as_is c.args.encoding c.args.cell.now (sym c.are_shown_as_is.ensures ∙ c.if-are_shown_as_is.true)))
    c.escape.ensures

pub returns-else-are_shown_as_is : goal.returns-else-are_shown_as_is
returns-else-are_shown_as_is g c =
    adds_as (sym (spelled_each c.args.encoding c.args.cell.now (sym c.are_shown_as_is.ensures ∙ c.if-are_shown_as_is.false)))
    c.spelled_bytes.ensures

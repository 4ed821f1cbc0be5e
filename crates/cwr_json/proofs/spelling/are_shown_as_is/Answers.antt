use Rattle.std.proofs.Common.{Bool, not, ◌&&◌, sym, ap, ◌∙◌}
use Rattle.cwr_json.specs.declared.encodings.Encoding.{Encoding}
use Rattle.cwr_json.specs.Format.Encodings.{are_shown_as_is, has_escape}
use Rattle.cwr_json.proofs.spelling.are_shown_as_is.Goals as goal

pub returns-then-is_utf8 : goal.returns-then-is_utf8
returns-then-is_utf8 c =
    ap not c.has_escape.ensures
    ∙ ap (λ (x : Bool). x && not (has_escape c.args.cell.now)) (sym c.if-is_utf8.true ∙ c.is_utf8.ensures)
    ∙ ap (λ (enc : Encoding). are_shown_as_is enc c.args.cell.now) (sym c.in-Utf8.is)

pub returns-else-is_utf8 : goal.returns-else-is_utf8
returns-else-is_utf8 c =
    c.if-is_utf8.false
    ∙ ap (λ (x : Bool). x && not (has_escape c.args.cell.now)) (sym c.if-is_utf8.false ∙ c.is_utf8.ensures)
    ∙ ap (λ (enc : Encoding). are_shown_as_is enc c.args.cell.now) (sym c.in-Utf8.is)

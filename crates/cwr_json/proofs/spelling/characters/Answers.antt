use Rattle.std.proofs.Common.{true≢false, sym, ◌∙◌}
use Rattle.cwr_devices.proofs.lemmas.Adding.{adds_as}
use Rattle.cwr_json.proofs.lemmas.Characters.{characters_as_is, characters_each}
use Rattle.cwr_json.proofs.spelling.characters.Goals as goal
use Rattle.cwr_json.proofs.spelling.characters.Goals.{then-is_ascii, else-is_ascii}

pub returns-then-are_shown_as_is : goal.returns-then-are_shown_as_is
returns-then-are_shown_as_is g c =
    elim c.if-is_ascii.branch [
      | then-is_ascii w ↦ adds_as (sym (c.is_ascii.ensures w.if-is_ascii.true c.args.encoding)) c.text.ensures
      | else-is_ascii w ↦ adds_as (sym (characters_as_is c.args.encoding c.args.cell.now
          (sym w.are_shown_as_is.ensures ∙ sym w.value-is ∙ c.if-are_shown_as_is.true))) c.text.ensures
    ]

pub returns-else-are_shown_as_is : goal.returns-else-are_shown_as_is
returns-else-are_shown_as_is g c =
    elim c.if-is_ascii.branch [
      | then-is_ascii w ↦ absurd (true≢false (sym w.if-is_ascii.true ∙ sym w.value-is ∙ c.if-are_shown_as_is.false))
      | else-is_ascii w ↦ adds_as (sym (characters_each c.args.encoding c.args.cell.now
          (sym w.are_shown_as_is.ensures ∙ sym w.value-is ∙ c.if-are_shown_as_is.false))) c.byte_by_byte.ensures
    ]

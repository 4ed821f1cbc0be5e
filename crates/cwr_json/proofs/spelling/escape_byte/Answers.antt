use Rattle.std.proofs.Common.{◌≡◌, ◌⊎◌, sym, inl, inr}
use Rattle.cwr_devices.proofs.lemmas.Adding.{adds_as}
use Rattle.cwr_json.proofs.lemmas.Spelled.{escaped_mark, escaped_same}
use Rattle.cwr_json.proofs.spelling.escape_byte.Goals as goal

pub returns-then-b-eq92 : goal.returns-then-b-eq92
returns-then-b-eq92 g c =
    let mark : (c.args.b ≡ 34) ⊎ (c.args.b ≡ 92) = elim c.if-b-eq92.either [ inl e ↦ inl e | inr p ↦ inr p.1 ] in
    adds_as (sym (escaped_mark c.args.b mark)) c.text-then-b-eq92.ensures

pub returns-else-b-eq92 : goal.returns-else-b-eq92
returns-else-b-eq92 g c =
    adds_as (sym (escaped_same c.args.b c.if-b-lt32.false c.if-b-eq92.false.0 c.if-b-eq92.false.1)) c.text-else-b-eq92.ensures

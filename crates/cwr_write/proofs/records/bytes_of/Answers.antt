use Rattle.std.proofs.Common.{drop, length-drop, ◌∙◌, arith}
use Rattle.cwr_write.proofs.lemmas.CharactersRead.{characters_more, characters_none, front_all, front_of, no_first, no_room, more_within}
use Rattle.cwr_write.proofs.records.bytes_of.Goals as goal

pub loop-i-init : goal.loop-i-init
loop-i-init c = record { within = omega arith; value = characters_none c.args.encoding _ c.new-cell.ensures }

pub loop-i-preserved : goal.loop-i-preserved
loop-i-preserved c = record {
  within = more_within c.args.text.now c.loop-i.i c.in_ok-byte.count _ c.loop-i.invariant.within c.in_ok-byte.ensures.1;
  value =
      characters_more c.args.encoding c.args.text.now c.loop-i.cell.items c.try_push.new.self.items c.loop-i.i c.in_ok-byte.byte
      c.in_ok-byte.count c.loop-i.invariant.value c.in-Ok.ensures.ok
      (c.in_ok-byte.ensures.2 ∙ front_of (drop c.loop-i.i c.args.text.now) c.in_ok-byte.count _ c.in_ok-byte.ensures.1);
}

pub returns-in_err-byte : goal.returns-in_err-byte
returns-in_err-byte c =
    rw c.from_residual.ensures (λ cell bytes few e. no_first c.args.encoding c.args.text.now c.loop-i.cell.items cell c.loop-i.i
    c.loop-i.invariant.value c.loop-i-test.true
    (λ b rest h k. c.in_err-byte.ensures b rest h
    (front_all (drop c.loop-i.i c.args.text.now) _ (omega (arith, length-drop c.loop-i.i c.args.text.now)) ∙ k)) bytes e)

pub returns-in_default : goal.returns-in_default
returns-in_default c =
    λ cell bytes few e. no_room c.args.encoding c.args.text.now c.loop-i.cell.items cell c.loop-i.i 700 c.loop-i.invariant.value
    c.loop-i-test.true (omega (arith, c.in_default.ensures.full)) few e

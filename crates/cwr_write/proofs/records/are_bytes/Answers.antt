use Rattle.std.proofs.Common.{[], ◌∷◌, ◌++◌, drop, length-drop, refl, ◌∙◌, arith}
use Rattle.cwr_write.proofs.lemmas.CharactersRead.{bytes_more, characters_more, characters_none, front_all, front_of, more_within}
use Rattle.cwr_write.proofs.lemmas.CharactersRead.{no_first}
use Rattle.cwr_write.proofs.records.are_bytes.Goals as goal

pub loop-i-init : goal.loop-i-init
loop-i-init c = record { within = omega arith; cell = []; bytes = refl; value = characters_none c.args.encoding [] refl }

pub returns-in_default-clause-no : goal.returns-in_default-clause-no
returns-in_default-clause-no c =
    λ no cell bytes e. no_first c.args.encoding c.args.text.now c.loop-i.invariant.cell cell c.loop-i.i c.loop-i.invariant.value
    c.loop-i-test.true
    (λ b rest h k. c.in_default.ensures b rest h
    (front_all (drop c.loop-i.i c.args.text.now) _ (omega (arith, length-drop c.loop-i.i c.args.text.now)) ∙ k)) bytes e

pub loop-i-preserved : goal.loop-i-preserved
loop-i-preserved c = record {
  within = more_within c.args.text.now c.loop-i.i c.in-Some.count _ c.loop-i.invariant.within c.in-Some.ensures.1;
  cell = c.loop-i.invariant.cell ++ c.in-Some.field-0-0 ∷ [];
  bytes = bytes_more c.loop-i.invariant.cell c.in-Some.field-0-0 c.loop-i.invariant.bytes c.in-Some.ensures.3;
  value =
      characters_more c.args.encoding c.args.text.now c.loop-i.invariant.cell
      (c.loop-i.invariant.cell ++ c.in-Some.field-0-0 ∷ []) c.loop-i.i c.in-Some.field-0-0 c.in-Some.count
      c.loop-i.invariant.value refl
      (c.in-Some.ensures.2 ∙ front_of (drop c.loop-i.i c.args.text.now) c.in-Some.count _ c.in-Some.ensures.1);
}

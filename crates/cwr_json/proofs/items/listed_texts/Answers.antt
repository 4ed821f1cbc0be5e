use Rattle.std.proofs.Common.{ℕ, Some, sym, ap, ◌∙◌, zero-add, arith}
use Rattle.std.specs.List.{enumerate_from}
use Rattle.std.proofs.lemmas.Option.{slice_get_within}
use Rattle.cwr_devices.proofs.lemmas.Adding.{adds_all, adds_next, numbered_none, numbered_there}
use Rattle.cwr_json.specs.Steps.FormTexts.{listed_text}
use Rattle.cwr_json.proofs.items.listed_texts.Goals as goal

pub loop-shown-preserved : goal.loop-shown-preserved
loop-shown-preserved g c = record {
  within = omega (arith, slice_get_within c.args.transaction.now c.loop-shown.i c.in-Some.shown (sym c.in-Some.ensures.value));
  adds =
      adds_next (λ p. listed_text c.args.encoding p.0 p.1) (enumerate_from 0 c.args.transaction.now) c.loop-shown.i
      (c.loop-shown.i, c.in-Some.shown)
      (ap (λ (n : ℕ). Some (n, c.in-Some.shown)) (sym (zero-add c.loop-shown.i))
      ∙ numbered_there 0 c.loop-shown.i c.args.transaction.now c.in-Some.shown c.in-Some.ensures.value)
      c.loop-shown.invariant.adds c.listed_text.ensures;
}

pub returns : goal.returns
returns g c =
    adds_all (λ p. listed_text c.args.encoding p.0 p.1) (enumerate_from 0 c.args.transaction.now) c.loop-shown.i
    (numbered_none 0 c.loop-shown.i c.args.transaction.now c.in_default.ensures.value) c.loop-shown.invariant.adds

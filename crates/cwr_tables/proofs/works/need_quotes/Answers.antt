use Rattle.std.proofs.Common.{Bool, List, sym, ap, ◌∙◌, arith}
use Rattle.std.specs.Prelude.{◌||◌}
use Rattle.std.proofs.lemmas.List.{take_all}
use Rattle.cwr_lines.specs.Format.Records.{RecordValue}
use Rattle.cwr_encode.proofs.lemmas.PutRows.{found_within, none_within}
use Rattle.cwr_tables.specs.Steps.WorkTexts.{name_needs_quotes, quotes}
use Rattle.cwr_tables.proofs.lemmas.Owners.{quotes_more}
use Rattle.cwr_tables.proofs.works.need_quotes.Goals as goal

pub loop-shown-preserved : goal.loop-shown-preserved
loop-shown-preserved c = record {
  within = let h = found_within c.args.transaction.now c.loop-shown.i c.in-Some.shown c.in-Some.ensures.value in omega (arith, h);
  value = λ enc.
      ap (λ (b : Bool). c.loop-shown.found || b) (c.name_needs_quotes-found.ensures enc)
      ∙ ap (λ (b : Bool). b || name_needs_quotes enc c.args.side c.in-Some.shown) (c.loop-shown.invariant.value enc)
      ∙ sym (quotes_more enc c.args.side c.args.transaction.now c.loop-shown.i c.in-Some.shown c.in-Some.ensures.value);
}

pub loop-shown-smaller : goal.loop-shown-smaller
loop-shown-smaller c =
    let h = found_within c.args.transaction.now c.loop-shown.i c.in-Some.shown c.in-Some.ensures.value in omega (arith, h)

pub returns : goal.returns
returns c = λ enc.
    let t : List RecordValue = c.args.transaction.now in
    c.loop-shown.invariant.value enc
    ∙ ap (quotes enc c.args.side) (take_all c.loop-shown.i t (none_within t c.loop-shown.i c.in_default.ensures.value))

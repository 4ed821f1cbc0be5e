use Rattle.std.proofs.Common.{Bool, List, sym, ap, ◌∙◌, arith}
use Rattle.std.specs.Prelude.{◌||◌}
use Rattle.std.specs.List.{list_any}
use Rattle.std.proofs.lemmas.List.{take_all}
use Rattle.cwr_lines.specs.Format.Records.{RecordValue}
use Rattle.cwr_encode.proofs.lemmas.PutRows.{found_within, none_within}
use Rattle.cwr_delivery.specs.Format.Acknowledgements.{is_message_of}
use Rattle.cwr_delivery.proofs.lemmas.NamedCells.{any_more}
use Rattle.cwr_delivery.proofs.acknowledgements.has_level.Goals as goal

pub loop-shown-preserved : goal.loop-shown-preserved
loop-shown-preserved c = record {
  within = let h = found_within c.args.transaction.now c.loop-shown.i c.in-Some.shown c.in-Some.ensures.value in omega (arith, h);
  value =
      ap (λ (b : Bool). c.loop-shown.found || b) c.is_message_of-found.ensures
      ∙ ap (λ (b : Bool). b || is_message_of c.args.level c.in-Some.shown) c.loop-shown.invariant.value
      ∙ sym (any_more (is_message_of c.args.level) c.args.transaction.now c.loop-shown.i c.in-Some.shown c.in-Some.ensures.value);
}

pub loop-shown-smaller : goal.loop-shown-smaller
loop-shown-smaller c =
    let h = found_within c.args.transaction.now c.loop-shown.i c.in-Some.shown c.in-Some.ensures.value in omega (arith, h)

pub returns : goal.returns
returns c =
    let t : List RecordValue = c.args.transaction.now in
    c.loop-shown.invariant.value ∙ ap (list_any (is_message_of c.args.level))
    (take_all c.loop-shown.i t (none_within t c.loop-shown.i c.in_default.ensures.value))

use Rattle.std.proofs.Common.{◌≡◌, List, Bool, take, refl, sym, ap, ◌∙◌, arith}
use Rattle.std.specs.Prelude.{◌||◌}
use Rattle.std.proofs.lemmas.List.{take_all}
use Rattle.std.proofs.lemmas.Option.{slice_get_within}
use Rattle.cwr_lines.specs.Format.Records.{RecordValue}
use Rattle.cwr_devices.proofs.lemmas.Adding.{adds_as, adds_both, adds_nothing}
use Rattle.cwr_encode.proofs.lemmas.PutRows.{none_within}
use Rattle.cwr_tables.specs.Format.WorkTables.{is_on, names}
use Rattle.cwr_tables.specs.Steps.WorkTexts.{within}
use Rattle.cwr_tables.proofs.lemmas.NamesJoined.{has_owners_more, names_more, names_none}
use Rattle.cwr_tables.proofs.work_texts.names.Goals as goal

pub loop-shown-init : goal.loop-shown-init
loop-shown-init g c = record {
  inside = omega arith;
  later = refl;
  adds = adds_as (sym (names_none c.args.encoding c.args.side c.args.quoted)) adds_nothing;
}

pub loop-shown-smaller : goal.loop-shown-smaller
loop-shown-smaller g c =
    omega (arith, slice_get_within c.args.transaction.now c.loop-shown.i c.in-Some.shown (sym c.in-Some.ensures.value))

pub loop-shown-preserved : goal.loop-shown-preserved
loop-shown-preserved g c = record {
  inside = omega (arith, slice_get_within c.args.transaction.now c.loop-shown.i c.in-Some.shown (sym c.in-Some.ensures.value));
  later =
      ap (λ (b : Bool). c.loop-shown.later || b) c.is_on-later.ensures
      ∙ ap (λ (b : Bool). b || is_on c.args.side c.in-Some.shown) c.loop-shown.invariant.later
      ∙ sym (has_owners_more c.args.side c.args.transaction.now c.loop-shown.i c.in-Some.shown c.in-Some.ensures.value);
  adds =
      adds_as (sym (names_more c.args.encoding c.args.side c.args.quoted c.loop-shown.later c.args.transaction.now c.loop-shown.i
      c.in-Some.shown c.in-Some.ensures.value c.loop-shown.invariant.later))
      (adds_both c.loop-shown.invariant.adds c.owner_text.ensures);
}

pub returns : goal.returns
returns g c =
    let t : List RecordValue = c.args.transaction.now in
    let all : take c.loop-shown.i t ≡ t = take_all c.loop-shown.i t (none_within t c.loop-shown.i c.in_default.ensures.value) in
    adds_as (ap (λ (l : List RecordValue). within c.args.quoted (names c.args.encoding c.args.side l)) all)
    c.loop-shown.invariant.adds

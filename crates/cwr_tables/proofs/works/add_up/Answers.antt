use Rattle.std.proofs.Common.{◌≡◌, ℕ, Bool, cond, List, take, sym, ap, ◌∙◌, arith}
use Rattle.std.specs.Prelude.{Option, None}
use Rattle.std.proofs.lemmas.List.{take_all}
use Rattle.cwr_lines.specs.Format.Records.{RecordValue}
use Rattle.cwr_encode.proofs.lemmas.PutRows.{found_within, none_within}
use Rattle.cwr_tables.specs.Format.WorkTables.{is_on, owners, total}
use Rattle.cwr_tables.specs.Steps.WorkTexts.{both, stated_share}
use Rattle.cwr_tables.proofs.lemmas.Owners.{same_sums, total_more}
use Rattle.cwr_tables.proofs.works.add_up.Goals as goal

pub loop-shown-preserved : goal.loop-shown-preserved
loop-shown-preserved c =
    let t : List RecordValue = c.args.transaction.now in
    let i : ℕ = c.loop-shown.i in
    let on : Bool = is_on c.args.side c.in-Some.shown in
    let more = c.with_shares-sums.ensures in
    record {
      within = let h = found_within t i c.in-Some.shown c.in-Some.ensures.value in omega (arith, h);
      performing =
          more.performing.sum
          ∙ ap (λ (o : Option ℕ). both o (cond on (stated_share "pr share" c.in-Some.shown) None))
          c.loop-shown.invariant.performing
          ∙ sym (total_more "pr share" c.args.side t i c.in-Some.shown c.in-Some.ensures.value);
      mechanical =
          more.mechanical.sum
          ∙ ap (λ (o : Option ℕ). both o (cond on (stated_share "mr share" c.in-Some.shown) None))
          c.loop-shown.invariant.mechanical
          ∙ sym (total_more "mr share" c.args.side t i c.in-Some.shown c.in-Some.ensures.value);
      synchronization =
          more.synchronization.sum
          ∙ ap (λ (o : Option ℕ). both o (cond on (stated_share "sr share" c.in-Some.shown) None))
          c.loop-shown.invariant.synchronization
          ∙ sym (total_more "sr share" c.args.side t i c.in-Some.shown c.in-Some.ensures.value);
      performing_few = omega (arith, more.performing.few, c.loop-shown.invariant.performing_few);
      mechanical_few = omega (arith, more.mechanical.few, c.loop-shown.invariant.mechanical_few);
      synchronization_few = omega (arith, more.synchronization.few, c.loop-shown.invariant.synchronization_few);
    }

pub with_shares-sums-requires-clause-performing : goal.with_shares-sums-requires-clause-performing
with_shares-sums-requires-clause-performing c =
    let h =
    found_within c.args.transaction.now c.loop-shown.i c.in-Some.shown c.in-Some.ensures.value in
    omega (arith, h, c.requires, c.loop-shown.invariant.performing_few)

pub with_shares-sums-requires-clause-mechanical : goal.with_shares-sums-requires-clause-mechanical
with_shares-sums-requires-clause-mechanical c =
    let h =
    found_within c.args.transaction.now c.loop-shown.i c.in-Some.shown c.in-Some.ensures.value in
    omega (arith, h, c.requires, c.loop-shown.invariant.mechanical_few)

pub with_shares-sums-requires-clause-synchronization : goal.with_shares-sums-requires-clause-synchronization
with_shares-sums-requires-clause-synchronization c =
    let h =
    found_within c.args.transaction.now c.loop-shown.i c.in-Some.shown c.in-Some.ensures.value in
    omega (arith, h, c.requires, c.loop-shown.invariant.synchronization_few)

pub loop-shown-smaller : goal.loop-shown-smaller
loop-shown-smaller c =
    let h = found_within c.args.transaction.now c.loop-shown.i c.in-Some.shown c.in-Some.ensures.value in omega (arith, h)

pub returns : goal.returns
returns c =
    let t : List RecordValue = c.args.transaction.now in
    let all : take c.loop-shown.i t ≡ t = take_all c.loop-shown.i t (none_within t c.loop-shown.i c.in_default.ensures.value) in
    same_sums c.loop-shown.sums _ _ _
    (c.loop-shown.invariant.performing ∙ ap (λ (l : List RecordValue). total "pr share" (owners c.args.side l)) all)
    (c.loop-shown.invariant.mechanical ∙ ap (λ (l : List RecordValue). total "mr share" (owners c.args.side l)) all)
    (c.loop-shown.invariant.synchronization ∙ ap (λ (l : List RecordValue). total "sr share" (owners c.args.side l)) all)

use Rattle.std.proofs.Common.{ℕ, Bool, List, [], Option, take, refl, ap, sym, ◌∙◌, arith, if◌then◌else◌}
use Rattle.std.specs.Prelude.{flat_map}
use Rattle.cwr_lines.specs.Format.Records.{RecordValue}
use Rattle.cwr_summary.specs.Format.Summaries.{share_parts}
use Rattle.cwr_summary.specs.Steps.Counted.{counted}
use Rattle.cwr_summary.specs.Steps.Shares.{joined, owned_in}
use Rattle.cwr_summary.proofs.lemmas.Counting.{counted_both, found_within, front_more, listed_more, none_within}
use Rattle.cwr_summary.specs.declared.columns.Column.TheVariants.{WorksOff, WorksWithout}
use Rattle.cwr_summary.proofs.lemmas.Owned.{all_owned, nothing_owned, one_of, right_end, something_owned}
use Rattle.cwr_summary.proofs.summaries.Summary.add_right.Goals as goal

pub loop-shown-preserved : goal.loop-shown-preserved
loop-shown-preserved c =
    let t : List RecordValue = c.args.transaction.now in
    let i : ℕ = c.loop-shown.i in
    let old : List ℕ = c.args.self.now.numbers in
    record {
      within = omega (arith, found_within t i c.in-Some.shown c.in-Some.ensures.value);
      owned =
          c.joined-owned.ensures ∙ ap (λ (share : Option ℕ). joined share c.add_share.result) c.loop-shown.invariant.owned
          ∙ c.add_share.ensures.owned (take i t)
          ∙ ap (owned_in c.args.right) (sym (front_more t i c.in-Some.shown c.in-Some.ensures.value));
      counted =
          counted_both old c.loop-shown.self.numbers c.add_share.new.self.numbers (flat_map (share_parts c.args.right) (take i t))
          (share_parts c.args.right c.in-Some.shown) c.loop-shown.invariant.counted c.add_share.ensures.added
          ∙ ap (counted old) (sym (listed_more (share_parts c.args.right) t i c.in-Some.shown c.in-Some.ensures.value));
    }

pub loop-shown-smaller : goal.loop-shown-smaller
loop-shown-smaller c = omega (arith, found_within c.args.transaction.now c.loop-shown.i c.in-Some.shown c.in-Some.ensures.value)

pub returns-in-None : goal.returns-in-None
returns-in-None c =
    let all = none_within c.args.transaction.now c.loop-shown.i c.in_default.ensures.value in
    right_end c.args.right c.args.transaction.now c.args.self.now.numbers c.loop-shown.self.numbers c.add.new.self.numbers c.loop-shown.i
    (one_of (WorksWithout c.args.right)) all c.loop-shown.invariant.counted c.add.ensures
    (nothing_owned c.args.right c.args.transaction.now (sym c.in-None.is
    ∙ all_owned c.args.right c.args.transaction.now c.loop-shown.i c.loop-shown.owned all c.loop-shown.invariant.owned))

pub returns-then-is_off : goal.returns-then-is_off
returns-then-is_off c =
    let all = none_within c.args.transaction.now c.loop-shown.i c.in_default.ensures.value in
    right_end c.args.right c.args.transaction.now c.args.self.now.numbers c.loop-shown.self.numbers c.add-then-is_off.new.self.numbers
    c.loop-shown.i (one_of (WorksOff c.args.right)) all c.loop-shown.invariant.counted c.add-then-is_off.ensures
    (something_owned c.args.right c.args.transaction.now c.in-Some-owned.sum c.is_off.result (sym c.in-Some-owned.is
    ∙ all_owned c.args.right c.args.transaction.now c.loop-shown.i c.loop-shown.owned all c.loop-shown.invariant.owned) c.is_off.ensures
    ∙ ap (λ (b : Bool). if b then one_of (WorksOff c.args.right) else []) c.if-is_off.true)

pub returns-else-is_off : goal.returns-else-is_off
returns-else-is_off c =
    let all = none_within c.args.transaction.now c.loop-shown.i c.in_default.ensures.value in
    right_end c.args.right c.args.transaction.now c.args.self.now.numbers c.loop-shown.self.numbers c.loop-shown.self.numbers
    c.loop-shown.i [] all c.loop-shown.invariant.counted refl
    (something_owned c.args.right c.args.transaction.now c.in-Some-owned.sum c.is_off.result (sym c.in-Some-owned.is
    ∙ all_owned c.args.right c.args.transaction.now c.loop-shown.i c.loop-shown.owned all c.loop-shown.invariant.owned) c.is_off.ensures
    ∙ ap (λ (b : Bool). if b then one_of (WorksOff c.args.right) else []) c.if-is_off.false)

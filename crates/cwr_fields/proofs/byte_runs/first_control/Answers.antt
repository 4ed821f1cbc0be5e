use Rattle.std.proofs.Common.{◌≡◌, ◌+◌, ◌-◌, ℕ, length, drop, take, option_map, sym, ap, ◌∙◌, arith, false, List}
use Rattle.std.specs.Prelude.{Option, Some, None}
use Rattle.std.specs.List.{position, position_from}
use Rattle.std.proofs.lemmas.List.{drop-drop, take_all, length-drop}
use Rattle.std.proofs.lemmas.Iterator.Adapters.{position_from-zero}
use Rattle.cwr_fields.specs.Format.Bytes.{is_control, has_control}
use Rattle.cwr_fields.proofs.lemmas.FirstFound.{passed, begun_at}
use Rattle.cwr_fields.proofs.byte_runs.first_control.Goals as goal

pub loop-at-preserved : goal.loop-at-preserved
loop-at-preserved c =
    let none : has_control (take 32 (drop c.loop-at.at c.args.text.now)) ≡ false =
    sym c.has_control_in_lanes.ensures ∙ c.if-has_control_in_lanes.false in
    let step = passed is_control c.loop-at.at 32 (drop c.loop-at.at c.args.text.now) none in
    let there : drop 32 (drop c.loop-at.at c.args.text.now) ≡ drop (c.loop-at.at + 32) c.args.text.now =
    drop-drop 32 c.loop-at.at c.args.text.now in
    record {
      within = omega arith;
      passed = ap (position_from is_control (c.loop-at.at + 32)) (sym there) ∙ sym step ∙ c.loop-at.invariant.passed;
    }

-- what follows a place is all that is left there
rest_whole : (at : ℕ) (text : List ℕ) → take (length text - at) (drop at text) ≡ drop at text
rest_whole at text = take_all (length text - at) (drop at text) (omega (arith, length-drop at text))

from_here : (at : ℕ) (text : List ℕ) (o : Option ℕ) → position_from is_control at (drop at text) ≡ position_from is_control 0 text
    → o ≡ position is_control (take (length text - at) (drop at text)) → option_map (λ k. at + k) o ≡ position is_control text
from_here at text o h e =
    ap (option_map (λ k. at + k))
    (e ∙ ap (position is_control) (rest_whole at text) ∙ position_from-zero is_control (drop at text))
    ∙ sym (begun_at is_control at (drop at text)) ∙ h ∙ sym (position_from-zero is_control text)

pub returns-in-Some : goal.returns-in-Some
returns-in-Some c = from_here c.loop-at.at c.args.text.now (Some c.in-Some.place) c.loop-at.invariant.passed c.in-Some.ensures

pub returns-in-None : goal.returns-in-None
returns-in-None c = from_here c.loop-at.at c.args.text.now None c.loop-at.invariant.passed c.in-None.ensures

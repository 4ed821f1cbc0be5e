use Rattle.std.proofs.Common.{◌≡◌, ◌-◌, ◌≤◌, Bool, ◌||◌, length, take, drop, ap, ◌∙◌, arith}
use Rattle.std.proofs.lemmas.List.{take_all, length-drop}
use Rattle.cwr_fields.specs.Format.Bytes.{is_control, has_control}
use Rattle.cwr_fields.proofs.lemmas.Covers.{covers, one_block_between}
use Rattle.cwr_fields.proofs.byte_runs.has_control_by_lanes.Goals as goal

pub loop-at-init : goal.loop-at-init
loop-at-init c =
    let text = c.args.text.now in
    let last = length text - 32 in
    let rest : length (drop last text) ≤ 32 = omega (arith, length-drop last text, c.requires) in
    let tail : take 32 (drop last text) ≡ drop last text = take_all 32 (drop last text) rest in
    record {
      within = omega (arith, c.requires);
      near = omega (arith, c.requires);
      found = c.of-seen.ensures ∙ ap has_control tail;
    }

pub loop-at-preserved : goal.loop-at-preserved
loop-at-preserved c =
    let before = c.loop-at.invariant in
    record {
      within = before.within;
      near = omega (arith, c.loop-at-test.true);
      found =
          c.with-seen.ensures
          ∙ ap (λ (b : Bool). b || has_control (take 32 (drop c.loop-at.at c.args.text.now))) before.found
          ∙ one_block_between is_control c.loop-at.at 32 c.args.text.now
          (has_control (drop (length c.args.text.now - 32) c.args.text.now));
    }

pub returns : goal.returns
returns c =
    let text = c.args.text.now in
    let last = length text - 32 in
    c.has_control.ensures ∙ c.loop-at.invariant.found
    ∙ covers is_control c.loop-at.at last text (omega (arith, c.loop-at-test.false))

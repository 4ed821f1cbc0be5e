use Rattle.std.proofs.Common.{ℕ, ◌∙◌, arith}
use Rattle.std.proofs.lemmas.List.{take_rest, length-take, length-drop}
use Rattle.cwr_devices.proofs.lemmas.Moves.{writes_on}
use Rattle.cwr_files.proofs.markings.write_whole.Goals as goal

pub loop-written-preserved : goal.loop-written-preserved
loop-written-preserved g c =
    let more = simp take_rest at c.in-Ok.ensures.bytes in
    record {
      within = omega (arith, c.in-Ok.ensures.bound, length-take {A = ℕ}, length-drop {A = ℕ});
      appended = writes_on _ _ _ c.args.text.now c.loop-written.written c.in-Ok.count c.loop-written.invariant.appended more;
      failures = c.in-Ok.ensures.failures.0 ∙ c.loop-written.invariant.failures;
    }

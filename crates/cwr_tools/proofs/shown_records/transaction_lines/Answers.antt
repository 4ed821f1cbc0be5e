use Rattle.std.proofs.Common.{ℕ, ◌+◌, arith}
use Rattle.std.specs.List.{enumerate_from}
use Rattle.cwr_encode.proofs.lemmas.PutRows.{found_within}
use Rattle.cwr_lines.specs.Format.Records.{RecordValue}
use Rattle.cwr_devices.proofs.lemmas.Adding.{adds_all, adds_next, adds_nothing, numbered_none, numbered_there}
use Rattle.cwr_notes.specs.Format.RecordTexts.{record_lines}
use Rattle.cwr_tools.proofs.shown_records.transaction_lines.Goals as goal

pub loop-shown-init : goal.loop-shown-init
loop-shown-init g c = record { within = omega arith; adds = adds_nothing }

pub loop-shown-smaller : goal.loop-shown-smaller
loop-shown-smaller g c =
    let h = found_within c.args.transaction.now c.loop-shown.i c.in-Some.shown c.in-Some.ensures.value in omega (arith, h)

pub loop-shown-preserved : goal.loop-shown-preserved
loop-shown-preserved g c = record {
  within = let h = found_within c.args.transaction.now c.loop-shown.i c.in-Some.shown c.in-Some.ensures.value in omega (arith, h);
  adds =
      adds_next (λ (p : ℕ × RecordValue). record_lines p.0 p.1) (enumerate_from c.args.first c.args.transaction.now) c.loop-shown.i
      (c.args.first + c.loop-shown.i, c.in-Some.shown)
      (numbered_there c.args.first c.loop-shown.i c.args.transaction.now c.in-Some.shown c.in-Some.ensures.value)
      c.loop-shown.invariant.adds c.record_lines.ensures;
}

pub returns : goal.returns
returns g c =
    adds_all (λ (p : ℕ × RecordValue). record_lines p.0 p.1) (enumerate_from c.args.first c.args.transaction.now) c.loop-shown.i
    (numbered_none c.args.first c.loop-shown.i c.args.transaction.now c.in_default.ensures.value) c.loop-shown.invariant.adds

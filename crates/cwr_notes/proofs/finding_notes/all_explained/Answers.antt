use Rattle.std.proofs.Common.{◌≡◌, length, Some, refl, sym, arith}
use Rattle.std.specs.Prelude.{slice_get}
use Rattle.std.proofs.lemmas.Option.{slice_get_past, slice_get_read}
use Rattle.cwr_devices.proofs.lemmas.Adding.{adds_all, adds_next, adds_nothing}
use Rattle.cwr_notes.specs.Format.FindingNotes.{explained_finding}
use Rattle.cwr_notes.proofs.finding_notes.all_explained.Goals as goal

pub loop-finding-init : goal.loop-finding-init
loop-finding-init g c = record { within = omega arith; passed = c.none-passed.ensures.passed c.args.transaction.now; adds = adds_nothing }

pub loop-finding-preserved : goal.loop-finding-preserved
loop-finding-preserved g c =
    let there : Some c.in-Some.finding.now ≡ slice_get c.args.found.now c.loop-finding.i
    = sym (slice_get_read c.args.found.now (length c.args.found.now) c.loop-finding.i c.in-Some.finding.now refl
    c.in-Some.ensures.lookup.3.0 c.in-Some.ensures.lookup.1) in
    record {
      within = omega (arith, c.in-Some.ensures.lookup.3.0);
      passed = c.explained_finding.ensures.passed;
      adds =
          adds_next (explained_finding c.args.apart c.args.group c.args.sequence c.args.first c.args.transaction.now) c.args.found.now c.loop-finding.i c.in-Some.finding.now there c.loop-finding.invariant.adds
          c.explained_finding.ensures.adds;
    }

pub returns : goal.returns
returns g c =
    adds_all (explained_finding c.args.apart c.args.group c.args.sequence c.args.first c.args.transaction.now) c.args.found.now c.loop-finding.i
    (sym (slice_get_past c.args.found.now c.loop-finding.i (grind (arith, c.in_default.ensures.lookup.0)))) c.loop-finding.invariant.adds

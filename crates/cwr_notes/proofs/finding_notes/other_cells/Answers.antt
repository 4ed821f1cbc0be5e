use Rattle.std.proofs.Common.{◌≡◌, length, Some, refl, sym, arith}
use Rattle.std.specs.Prelude.{slice_get}
use Rattle.std.proofs.lemmas.Option.{slice_get_past, slice_get_read}
use Rattle.cwr_devices.proofs.lemmas.Adding.{adds_all, adds_next, adds_nothing}
use Rattle.cwr_notes.specs.Format.FindingNotes.{noted_at}
use Rattle.cwr_notes.proofs.finding_notes.other_cells.Goals as goal

pub loop-position-init : goal.loop-position-init
loop-position-init g c = record { within = omega arith; adds = adds_nothing }

pub loop-position-preserved : goal.loop-position-preserved
loop-position-preserved g c =
    let there : Some c.in-Some.position.now ≡ slice_get c.args.positions.now c.loop-position.i
    = sym (slice_get_read c.args.positions.now (length c.args.positions.now) c.loop-position.i c.in-Some.position.now refl
    c.in-Some.ensures.lookup.3.0 c.in-Some.ensures.lookup.1) in
    record {
      within = omega (arith, c.in-Some.ensures.lookup.3.0);
      adds =
          adds_next (noted_at c.args.first c.args.transaction.now c.args.rule) c.args.positions.now c.loop-position.i c.in-Some.position.now there c.loop-position.invariant.adds
          c.noted_at.ensures;
    }

pub returns : goal.returns
returns g c =
    adds_all (noted_at c.args.first c.args.transaction.now c.args.rule) c.args.positions.now c.loop-position.i
    (sym (slice_get_past c.args.positions.now c.loop-position.i (grind (arith, c.in_default.ensures.lookup.0)))) c.loop-position.invariant.adds

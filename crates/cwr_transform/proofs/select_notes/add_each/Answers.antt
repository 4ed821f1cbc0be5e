use Rattle.std.proofs.Common.{◌≡◌, ℕ, length, Some, refl, sym, subst, arith}
use Rattle.std.specs.Prelude.{slice_get}
use Rattle.std.proofs.lemmas.Option.{slice_get_past, slice_get_read}
use Rattle.cwr_devices.specs.Steps.Pens.{Adds}
use Rattle.cwr_devices.proofs.lemmas.Adding.{adds_all, adds_next, adds_nothing}
use Rattle.cwr_transform.specs.declared.sought.Further.{Further}
use Rattle.cwr_transform.specs.Format.Told.{twice_line}
use Rattle.cwr_transform.specs.Steps.Found.{place_at}
use Rattle.cwr_transform.proofs.select_notes.add_each.Goals as goal

pub loop-it-init : goal.loop-it-init
loop-it-init g c = record { within = omega arith; adds = λ can. adds_nothing }

pub loop-it-preserved : goal.loop-it-preserved
loop-it-preserved g c =
    let there : Some c.in-Some.it.now ≡ slice_get c.args.further.now c.loop-it.i
    = sym (slice_get_read c.args.further.now (length c.args.further.now) c.loop-it.i c.in-Some.it.now refl
    c.in-Some.ensures.lookup.3.0 c.in-Some.ensures.lookup.1) in
    record {
      within = omega (arith, c.in-Some.ensures.lookup.3.0);
      adds = λ can. adds_next (λ (f : Further). twice_line c.args.number.now (place_at c.args.sought.now.starts.items f.count))
          c.args.further.now c.loop-it.i c.in-Some.it.now there (c.loop-it.invariant.adds can)
          (subst (λ (p : ℕ × ℕ). Adds g.W.Target.contents g.W.Target.failures (twice_line c.args.number.now p) c.loop-it.pen c.add_twice.new.pen) (c.place_of.ensures can)
          c.add_twice.ensures);
    }

pub returns : goal.returns
returns g c = λ can.
    adds_all (λ (f : Further). twice_line c.args.number.now (place_at c.args.sought.now.starts.items f.count)) c.args.further.now c.loop-it.i
    (sym (slice_get_past c.args.further.now c.loop-it.i (grind (arith, c.in_default.ensures.lookup.0)))) (c.loop-it.invariant.adds can)

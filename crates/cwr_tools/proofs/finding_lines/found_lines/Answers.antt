use Rattle.std.proofs.Common.{◌≡◌, length, Some, refl, sym, arith}
use Rattle.std.specs.Prelude.{slice_get}
use Rattle.std.proofs.lemmas.Option.{slice_get_past, slice_get_read}
use Rattle.cwr_devices.proofs.lemmas.Adding.{adds_all, adds_next, adds_nothing}
use Rattle.cwr_findings.specs.Format.ReportLines.{finding_line}
use Rattle.cwr_tools.proofs.finding_lines.found_lines.Goals as goal

pub loop-finding-init : goal.loop-finding-init
loop-finding-init g c = record { within = omega arith; adds = adds_nothing }

pub loop-finding-preserved : goal.loop-finding-preserved
loop-finding-preserved g c =
    let there : Some c.in-Some.finding.now ≡ slice_get c.args.found.now c.loop-finding.i
    = sym (slice_get_read c.args.found.now (length c.args.found.now) c.loop-finding.i c.in-Some.finding.now refl
    c.in-Some.ensures.lookup.3.0 c.in-Some.ensures.lookup.1) in
    record {
      within = omega (arith, c.in-Some.ensures.lookup.3.0);
      adds =
          adds_next (finding_line c.args.group c.args.sequence) c.args.found.now c.loop-finding.i c.in-Some.finding.now there
          c.loop-finding.invariant.adds c.finding_line.ensures;
    }

pub returns : goal.returns
returns g c =
    adds_all (finding_line c.args.group c.args.sequence) c.args.found.now c.loop-finding.i
    (sym (slice_get_past c.args.found.now c.loop-finding.i (grind (arith, c.in_default.ensures.lookup.0))))
    c.loop-finding.invariant.adds

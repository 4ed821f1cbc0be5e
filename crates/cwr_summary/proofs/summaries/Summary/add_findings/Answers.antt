use Rattle.std.proofs.Common.{◌≡◌, ℕ, List, length, map, take, Some, refl, ap, sym, ◌∙◌, arith}
use Rattle.std.specs.Prelude.{slice_get}
use Rattle.std.proofs.lemmas.List.{take_all}
use Rattle.std.proofs.lemmas.Bool.{ltb-false}
use Rattle.std.proofs.lemmas.Option.{slice_get_read}
use Rattle.cwr_findings.specs.declared.rules.Finding.{Finding}
use Rattle.cwr_summary.specs.Format.Summaries.{finding_part}
use Rattle.cwr_summary.specs.Steps.Counted.{counted}
use Rattle.cwr_summary.proofs.lemmas.Counting.{counted_one, mapped_more}
use Rattle.cwr_summary.proofs.summaries.Summary.add_findings.Goals as goal

pub loop-finding-preserved : goal.loop-finding-preserved
loop-finding-preserved c =
    let found : List Finding = c.args.found.now in
    let i : ℕ = c.loop-finding.i in
    let old : List ℕ = c.args.self.now.numbers in
    let there : Some c.in-Some.finding.now ≡ slice_get found i =
    sym (slice_get_read found (length found) i c.in-Some.finding.now refl c.in-Some.ensures.lookup.3.0 c.in-Some.ensures.lookup.1) in
    record {
      within = omega (arith, c.in-Some.ensures.lookup.3.0);
      counted =
          counted_one old c.loop-finding.self.numbers c.add.new.self.numbers (map finding_part (take i found))
          (finding_part c.in-Some.finding.now) c.loop-finding.invariant.counted c.add.ensures
          ∙ ap (counted old) (sym (mapped_more finding_part found i c.in-Some.finding.now there));
    }

pub returns : goal.returns
returns c =
    let found : List Finding = c.args.found.now in
    let all : take c.loop-finding.i found ≡ found = take_all c.loop-finding.i found
    (omega (arith, ltb-false c.loop-finding.i (length found) (sym c.in_default.ensures.lookup.0))) in
    c.loop-finding.invariant.counted ∙ ap (λ (l : List Finding). counted c.args.self.now.numbers (map finding_part l)) all

use Rattle.std.proofs.Common.{List, ℕ, Option, refl, sym, subst, Bor}
use Rattle.std.specs.Prelude.{option_map}
use Rattle.cwr_files.specs.Format.Files.{Turns}
use Rattle.cwr_endings.proofs.lemmas.Outs.{stays}
use Rattle.cwr_reports.specs.Format.Exports.{IsExportAt}
use Rattle.cwr.specs.Format.Files.{LeavesOut}
use Rattle.cwr_files.proofs.lemmas.Counts.{same_count}
use Rattle.cwr.proofs.lemmas.FailsOuts.{no_out_fails, out_fails}
use Rattle.cwr.proofs.program.write_data.Goals as goal

pub returns-in-None-clause-files : goal.returns-in-None-clause-files
returns-in-None-clause-files g c =
    λ told none.
    let s0 = c.args.store.now in
    let s1 = c.report_file.new.store in
    let is : List ℕ → Type 0
    = IsExportAt c.args.telling c.args.asked.now.limits (g.S.Store.held s0) (g.I.Read.remaining c.args.standard)
    (option_map (λ n. n.now) c.args.name) in
    subst
    (λ (o : Option (Bor (List ℕ))). Turns (g.S.Store.held s0) (g.S.Store.held s1)
    (LeavesOut (option_map (λ n. n.now) o) (g.S.Store.failures s0) (g.S.Store.failures s1) is c.report_file.result.1)) (sym c.in-None.is)
    (stays (g.S.Store.held s0) (g.S.Store.held s1) c.report_file.ensures.kept)

pub returns-in-Some-clause-failed : goal.returns-in-Some-clause-failed
returns-in-Some-clause-failed g c =
    let s0 = c.args.store.now in
    let s1 = c.export-ended.new.store in
    out_fails (g.S.Store.making s0) (g.S.Store.held s0) (g.S.Store.held s1) c.args.out c.in-Some.out (g.S.Store.making s0) (g.S.Store.held s0)
    c.export-ended.result (g.S.Store.failures s0) (g.S.Store.failures s0) (g.S.Store.failures s1) c.in-Some.is refl refl
    (same_count (g.S.Store.failures s0) (g.S.Store.failures s0) refl) c.export-ended.ensures.failed

pub returns-in-None-clause-failed : goal.returns-in-None-clause-failed
returns-in-None-clause-failed g c =
    let s0 = c.args.store.now in
    let s1 = c.report_file.new.store in
    no_out_fails (g.S.Store.making s0) (g.S.Store.held s0) (g.S.Store.held s1) c.args.out c.report_file.result.1 (g.S.Store.failures s0)
    (g.S.Store.failures s0) (g.S.Store.failures s1) c.in-None.is (same_count (g.S.Store.failures s0) (g.S.Store.failures s0) refl)
    c.report_file.ensures.failed

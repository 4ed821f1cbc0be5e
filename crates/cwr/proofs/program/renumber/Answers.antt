use Rattle.std.proofs.Common.{ap, refl, subst}
use Rattle.std.specs.Prelude.{option_map}
use Rattle.cwr_renumber.specs.Steps.Renumbered.{renumbered_text}
use Rattle.cwr_files.specs.Steps.Inputs.{remaining_of}
use Rattle.cwr_endings.specs.declared.endings.Wanted.{Wanted}
use Rattle.cwr.specs.Format.Files.{RunsRepair}
use Rattle.cwr_files.proofs.lemmas.Counts.{same_count}
use Rattle.cwr.proofs.lemmas.FailsOuts.{no_out_fails, out_fails, out_unopened}
use Rattle.cwr.proofs.lemmas.Renumberings.{file_runs, output_runs}
use Rattle.cwr.proofs.program.renumber.Goals as goal

pub returns-in-Some-clause-runs : goal.returns-in-Some-clause-runs
returns-in-Some-clause-runs g c =
    let s0 = c.args.store.now in
    let s1 = c.open_input.new.store in
    let s2 = c.repair_file.new.store in
    subst
    (λ (w : Wanted). RunsRepair renumbered_text c.args.task.now.limits w c.args.words.now (g.I.Read.remaining c.args.standard)
    (g.S.Store.held s0) (g.S.Store.held s2) (g.S.Store.making s0) (g.S.Store.failures s0) (g.S.Store.failures s2) c.repair_file.result.1)
    c.wanted_by.ensures
    (file_runs renumbered_text c.args.task.now.limits c.wanted_by.result c.args.words.now (g.I.Read.remaining c.args.standard)
    c.in-Some.out.now (g.S.Store.held s0) (g.S.Store.held s1) (g.S.Store.held s2) (g.S.Store.making s0) (g.S.Store.making s1)
    (remaining_of g.S.Reader.Read.remaining g.I.Read.remaining c.in-Ok.input) (g.S.Store.failures s0) (g.S.Store.failures s1)
    (g.S.Store.failures s2) c.repair_file.result.1 (ap (option_map (λ n. n.now)) c.in-Some.is) c.open_input.ensures.kept
    c.in-Ok.ensures.opened c.open_input.ensures.making c.in-Ok.ensures.left c.repair_file.ensures.ends c.repair_file.ensures.files)

pub returns-in-None-clause-runs : goal.returns-in-None-clause-runs
returns-in-None-clause-runs g c =
    let s0 = c.args.store.now in
    let s1 = c.open_input.new.store in
    let s2 = c.repair_input.new.store in
    subst
    (λ (w : Wanted). RunsRepair renumbered_text c.args.task.now.limits w c.args.words.now (g.I.Read.remaining c.args.standard)
    (g.S.Store.held s0) (g.S.Store.held s2) (g.S.Store.making s0) (g.S.Store.failures s0) (g.S.Store.failures s2) c.repair_input.result.1)
    c.wanted_by.ensures
    (output_runs renumbered_text c.args.task.now.limits c.wanted_by.result c.args.words.now (g.I.Read.remaining c.args.standard)
    (g.S.Store.held s0) (g.S.Store.held s1) (g.S.Store.held s2) (g.S.Store.making s0)
    (remaining_of g.S.Reader.Read.remaining g.I.Read.remaining c.in-Ok.input) (g.S.Store.failures s0) (g.S.Store.failures s2)
    c.repair_input.result.1 (ap (option_map (λ n. n.now)) c.in-None.is) c.open_input.ensures.kept c.repair_input.ensures.kept
    c.in-Ok.ensures.left c.repair_input.ensures.ends)

pub returns-in-Err-clause-failed : goal.returns-in-Err-clause-failed
returns-in-Err-clause-failed g c =
    let s0 = c.args.store.now in
    let s1 = c.open_input.new.store in
    out_unopened (g.S.Store.making s0) (g.S.Store.held s0) (g.S.Store.held s1)
    (option_map (λ n. n.now) c.args.words.now.file) c.args.standard c.args.words.now.out c.in-Err.fault
    (g.S.Store.failures s0) (g.S.Store.failures s0) (g.S.Store.failures s1)
    (same_count (g.S.Store.failures s0) (g.S.Store.failures s0) refl) c.in-Err.ensures.unopened

pub returns-in-Some-clause-failed : goal.returns-in-Some-clause-failed
returns-in-Some-clause-failed g c =
    let s0 = c.args.store.now in
    let s1 = c.open_input.new.store in
    let s2 = c.repair_file.new.store in
    out_fails (g.S.Store.making s0) (g.S.Store.held s0) (g.S.Store.held s2) c.args.words.now.out c.in-Some.out (g.S.Store.making s1)
    (g.S.Store.held s1) c.repair_file.result.1 (g.S.Store.failures s0) (g.S.Store.failures s1) (g.S.Store.failures s2) c.in-Some.is
    c.open_input.ensures.making c.open_input.ensures.kept
    (same_count (g.S.Store.failures s0) (g.S.Store.failures s1) c.in-Ok.ensures.opened) c.repair_file.ensures.failed

pub returns-in-None-clause-failed : goal.returns-in-None-clause-failed
returns-in-None-clause-failed g c =
    let s0 = c.args.store.now in
    let s1 = c.open_input.new.store in
    let s2 = c.repair_input.new.store in
    no_out_fails (g.S.Store.making s0) (g.S.Store.held s0) (g.S.Store.held s2) c.args.words.now.out c.repair_input.result.1
    (g.S.Store.failures s0) (g.S.Store.failures s1) (g.S.Store.failures s2) c.in-None.is
    (same_count (g.S.Store.failures s0) (g.S.Store.failures s1) c.in-Ok.ensures.opened) c.repair_input.ensures.failed

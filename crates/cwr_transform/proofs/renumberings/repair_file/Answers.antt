use Rattle.std.proofs.Common.{◌≡◌, ℕ, List, Option, None, refl, sym, subst}
use Rattle.std.specs.Prelude.{Err, Result}
use Rattle.cwr_files.specs.declared.faults.Fault.TheVariants as faults
use Rattle.cwr_files.specs.declared.faults.Name.TheVariants.{File}
use Rattle.cwr_files.specs.Format.Faults.{IfErr}
use Rattle.cwr_files.specs.Steps.Inputs.{remaining_of}
use Rattle.cwr_endings.specs.declared.stops.Stop.{Stop}
use Rattle.cwr_endings.specs.declared.stops.Stop.TheVariants as stops
use Rattle.cwr_tools.specs.declared.verdicts.ToolFault.TheVariants.{Output}
use Rattle.cwr_endings.specs.Format.Endings.{FindsFrom, WritesOut}
use Rattle.cwr_endings.specs.Format.Failures.{FailsToWrite}
use Rattle.cwr_endings.proofs.lemmas.Outs.{settled_untold, turns_so}
use Rattle.cwr_renumber.specs.Steps.Renumbered.{renumbered_text}
use Rattle.cwr_transform.specs.Format.Repairs.{IsRepairOf}
use Rattle.cwr_transform.specs.Steps.Repairs.{faults_by, keeps_repaired}
use Rattle.cwr_transform.proofs.lemmas.RepairFails.{repair_fails}
use Rattle.cwr_transform.proofs.lemmas.RepairFiles.{repair_leaves, unmade_in}
use Rattle.cwr_transform.proofs.lemmas.RepairsJudged.{repair_ends}
use Rattle.cwr_transform.proofs.renumberings.repair_file.Goals as goal

pub returns-in-Ok-handed-clause-ends : goal.returns-in-Ok-handed-clause-ends
returns-in-Ok-handed-clause-ends g c =
    repair_ends c.args.repair.now.limits c.args.repair.now.wanted c.args.repair.now.anyway
    (remaining_of g.S.Reader.Read.remaining g.I.Read.remaining c.args.input) c.in-Ok.file.repaired
    (stops.Fault (faults.Write c.in-Ok.file.written)) (stops.Fault (faults.Output (File c.args.out) None)) c.in-Ok.file.repaired.outcome
    c.file_ending.result refl c.in-Ok.ensures.judged c.file_ending.ensures

pub returns-in-Ok-handed-clause-files : goal.returns-in-Ok-handed-clause-files
returns-in-Ok-handed-clause-files g c =
    λ none.
    let s0 = c.args.store.now in
    let s1 = c.write_repaired.new.store in
    let repaired = c.in-Ok.file.repaired in
    let left : Option (List ℕ) = remaining_of g.S.Reader.Read.remaining g.I.Read.remaining c.args.input in
    let is : List ℕ → Type 0 = IsRepairOf renumbered_text c.args.repair.now.limits c.args.repair.now.wanted left in
    turns_so (g.S.Store.held s0) (g.S.Store.held s1) _ _
    (λ texts new h. repair_leaves c.args.out.now c.in-Ok.file.written (g.S.Store.failures s0) (g.S.Store.failures s1) is texts new
    c.args.repair.now.wanted.whole (stops.Fault (faults.Output (File c.args.out) None)) repaired repaired.outcome c.file_ending.result refl
    (unmade_in renumbered_text c.args.repair.now.limits (λ items. FindsFrom c.args.repair.now.wanted.fail_on items repaired.found) left repaired.outcome c.in-Ok.ensures.judged.judged) c.file_ending.ensures h)
    (c.in-Ok.ensures.files none)

pub returns-in-Err-handed-clause-files : goal.returns-in-Err-handed-clause-files
returns-in-Err-handed-clause-files g c =
    λ none.
    let s0 = c.args.store.now in
    let s1 = c.write_repaired.new.store in
    let repaired = c.in-Ok.file.repaired in
    let left : Option (List ℕ) = remaining_of g.S.Reader.Read.remaining g.I.Read.remaining c.args.input in
    let is : List ℕ → Type 0 = IsRepairOf renumbered_text c.args.repair.now.limits c.args.repair.now.wanted left in
    let untold : c.in-Err-handed.stop ≡ stops.Output
    = subst (λ (r : Result (Unit {0}) Stop). IfErr r (λ stop. stop ≡ stops.Output)) c.in-Err-handed.is c.put_repaired-lines.ensures in
    turns_so (g.S.Store.held s0) (g.S.Store.held s1) _ _
    (λ texts new h. subst
    (λ (s : Stop). WritesOut c.args.out.now (g.S.Store.failures s0) (g.S.Store.failures s1) is (Err s) texts new) (sym untold)
    (settled_untold c.args.out.now (g.S.Store.failures s0) (faults_by repaired.outcome repaired.look) (g.S.Store.failures s1) is
    (keeps_repaired c.args.repair.now.wanted.whole repaired) texts new h))
    (c.in-Ok.ensures.files none)

pub returns-in-Err-clause-failed : goal.returns-in-Err-clause-failed
returns-in-Err-clause-failed g c = c.in-Err.ensures.unmade

pub returns-in-Ok-handed-clause-failed : goal.returns-in-Ok-handed-clause-failed
returns-in-Ok-handed-clause-failed g c =
    let s0 = c.args.store.now in
    let s1 = c.write_repaired.new.store in
    let repaired = c.in-Ok.file.repaired in
    let left : Option (List ℕ) = remaining_of g.S.Reader.Read.remaining g.I.Read.remaining c.args.input in
    repair_fails c.args.out (g.S.Store.making s0) (g.S.Store.held s0) (g.S.Store.held s1) (g.S.Store.failures s0) (g.S.Store.failures s1)
    repaired c.args.repair.now.wanted.whole c.in-Ok.file.written repaired.outcome c.file_ending.result
    (λ e. unmade_in renumbered_text c.args.repair.now.limits (λ items. FindsFrom c.args.repair.now.wanted.fail_on items repaired.found) left
    repaired.outcome c.in-Ok.ensures.judged.judged Output e refl)
    c.in-Ok.ensures.counted c.file_ending.ensures

pub returns-in-Err-handed-clause-failed : goal.returns-in-Err-handed-clause-failed
returns-in-Err-handed-clause-failed g c =
    let s0 = c.args.store.now in
    let s1 = c.write_repaired.new.store in
    let untold : c.in-Err-handed.stop ≡ stops.Output
    = subst (λ (r : Result (Unit {0}) Stop). IfErr r (λ stop. stop ≡ stops.Output)) c.in-Err-handed.is c.put_repaired-lines.ensures in
    subst (λ (s : Stop). FailsToWrite c.args.out (g.S.Store.making s0) (g.S.Store.held s0) (g.S.Store.held s1) (Err s)
    (g.S.Store.failures s0) (g.S.Store.failures s1)) (sym untold) tt

use Rattle.std.proofs.Common.{◌≡◌, ℕ, ◌≤◌, ◌+◌, Bool, List, [], Option, Some, sym, subst, ◌∙◌}
use Rattle.cwr_devices.specs.Steps.Counted.{failures_of}
use Rattle.cwr_files.specs.declared.faults.Name.TheVariants.{File}
use Rattle.cwr_files.specs.Format.Files.{Texts, Turns, counted_on}
use Rattle.cwr_files.specs.Format.NewFiles.{LeavesAll}
use Rattle.cwr_files.specs.Format.Written.{times_failed, writer_in}
use Rattle.cwr_files.specs.Steps.Gathering.{written_to}
use Rattle.cwr_files.specs.Steps.Inputs.{remaining_of}
use Rattle.cwr_files.specs.Steps.NewFiles.{IsBegun}
use Rattle.cwr_files.proofs.lemmas.Counts.{kept_then_counted}
use Rattle.cwr_endings.specs.Format.Endings.{SettlesOut}
use Rattle.cwr_endings.proofs.lemmas.Fails.{made_fails, unkept_fails}
use Rattle.cwr_endings.proofs.lemmas.Outs.{Begins, empty_so, out_dropped, settles, turns_so, unkept_so}
use Rattle.cwr_renumber.specs.Steps.Renumbered.{renumbered_text}
use Rattle.cwr_renumber.specs.Steps.Renumberings.{CountsWriter}
use Rattle.cwr_transform.specs.Format.Repairs.{IsRepairOf}
use Rattle.cwr_transform.specs.Steps.Repairs.{CountsRead, faults_by}
use Rattle.cwr_transform.proofs.lemmas.RepairFails.{file_counted, read_kept}
use Rattle.cwr_transform.proofs.lemmas.RepairFiles.{few_kept, few_repaired, text_kept}
use Rattle.cwr_transform.proofs.renumberings.make_repaired.Goals as goal

pub returns-in_default-clause-files : goal.returns-in_default-clause-files
returns-in_default-clause-files g c =
    λ none.
    let made = c.in-Ok.made.0 in
    let s0 = c.args.store.now in
    let s1 = c.create_output.new.store in
    let begun : Begins made (g.S.Store.making s1) (g.S.Store.held s0) (g.S.Store.held s1)
    = turns_so (g.S.Store.held s0) (g.S.Store.held s1) _ _ (λ texts new h. h.0) (c.in-Ok.ensures.begun none) in
    out_dropped made c.args.out.now (g.S.Store.making s1) (counted_on 0 (g.S.Store.failures s1)) (g.S.Store.failures s0)
    (g.S.Store.failures c.discard.new.store) (g.S.Store.held s0) (g.S.Store.held s1) (g.S.Store.held c.discard.new.store)
    c.in-Ok.ensures.named begun c.discard.ensures.dropped
    (λ le lt. subst (λ (n : ℕ). g.S.Store.failures c.discard.new.store ≤ n) (sym c.in-Ok.ensures.unfailed) le)

pub returns-in-Err-settle-clause-files : goal.returns-in-Err-settle-clause-files
returns-in-Err-settle-clause-files g c =
    λ none.
    let made = c.in-Ok.made.0 in
    let s0 = c.args.store.now in
    let s1 = c.create_output.new.store in
    let s2 = c.run-writer.new.store in
    let s3 = c.settle.new.store in
    let left : Option (List ℕ) = remaining_of g.S.Reader.Read.remaining g.I.Read.remaining c.args.input in
    let is : List ℕ → Type 0 = IsRepairOf renumbered_text c.args.repair.now.limits c.args.repair.now.wanted left in
    let repaired = c.run-writer.result.0 in
    let begun : Begins made (g.S.Store.making s1) (g.S.Store.held s0) (g.S.Store.held s1)
    = turns_so (g.S.Store.held s0) (g.S.Store.held s1) _ _ (λ texts new h. h.0) (c.in-Ok.ensures.begun none) in
    let on : Begins made (g.S.Store.making s2) (g.S.Store.held s0) (g.S.Store.held s2)
    = subst (λ (o : Option Texts). Begins made (g.S.Store.making s2) (g.S.Store.held s0) o) (sym c.run-writer.ensures.kept)
    (subst (λ (m : Option (List ℕ)). Begins made m (g.S.Store.held s0) (g.S.Store.held s1)) (sym c.run-writer.ensures.making) begun) in
    let reads : CountsRead repaired.outcome repaired.look (g.S.Store.failures s0) (g.S.Store.failures s2)
    = subst (λ (n : ℕ). CountsRead repaired.outcome repaired.look n (g.S.Store.failures s2)) c.in-Ok.ensures.unfailed c.run-writer.ensures.reads in
    turns_so (g.S.Store.held s0) (g.S.Store.held s3) (LeavesAll c.args.out.now (g.S.Store.failures s0 + 1) (g.S.Store.failures s3)) _
    (λ texts new h. unkept_so c.args.out.now (g.S.Store.failures s0) (g.S.Store.failures s3) is (File c.args.out) c.in-Err-settle.fault texts new
    c.in-Err-settle.ensures.fault.1 h)
    (out_dropped made c.args.out.now (g.S.Store.making s2) (g.S.Store.failures s2 + 1) (g.S.Store.failures s0 + 1) (g.S.Store.failures s3)
    (g.S.Store.held s0) (g.S.Store.held s2) (g.S.Store.held s3) c.in-Ok.ensures.named on
    (c.in-Err-settle.ensures.unkept c.in-Err-settle.ensures.fault.0)
    (λ le lt. few_kept repaired.outcome repaired.look (g.S.Store.failures s0) (g.S.Store.failures s2) (g.S.Store.failures s3) reads le lt))

pub returns-in-Ok-settle-clause-files : goal.returns-in-Ok-settle-clause-files
returns-in-Ok-settle-clause-files g c =
    λ none.
    let made = c.in-Ok.made.0 in
    let s0 = c.args.store.now in
    let s1 = c.create_output.new.store in
    let s2 = c.run-writer.new.store in
    let s3 = c.settle.new.store in
    let left : Option (List ℕ) = remaining_of g.S.Reader.Read.remaining g.I.Read.remaining c.args.input in
    let is : List ℕ → Type 0 = IsRepairOf renumbered_text c.args.repair.now.limits c.args.repair.now.wanted left in
    let repaired = c.run-writer.result.0 in
    let begun : Begins made (g.S.Store.making s1) (g.S.Store.held s0) (g.S.Store.held s1)
    = turns_so (g.S.Store.held s0) (g.S.Store.held s1) _ _ (λ texts new h. h.0) (c.in-Ok.ensures.begun none) in
    let on : Begins made (g.S.Store.making s2) (g.S.Store.held s0) (g.S.Store.held s2)
    = subst (λ (o : Option Texts). Begins made (g.S.Store.making s2) (g.S.Store.held s0) o) (sym c.run-writer.ensures.kept)
    (subst (λ (m : Option (List ℕ)). Begins made m (g.S.Store.held s0) (g.S.Store.held s1)) (sym c.run-writer.ensures.making) begun) in
    let reads : CountsRead repaired.outcome repaired.look (g.S.Store.failures s0) (g.S.Store.failures s2)
    = subst (λ (n : ℕ). CountsRead repaired.outcome repaired.look n (g.S.Store.failures s2)) c.in-Ok.ensures.unfailed c.run-writer.ensures.reads in
    let written = c.take_back-written.result.1 in
    let writes : CountsWriter repaired.outcome 0 (times_failed written)
    = subst (λ (n : ℕ). CountsWriter repaired.outcome 0 n) (sym c.take_back-written.ensures.failures)
    (subst (λ (n : ℕ). CountsWriter repaired.outcome n (failures_of c.run-writer.result.1)) c.in-Ok-gathered.ensures.failures
    c.run-writer.ensures.failures) in
    subst
    (λ (b : Bool). Turns (g.S.Store.held s0) (g.S.Store.held s3) (SettlesOut c.args.out.now
    (g.S.Store.failures s0 + faults_by repaired.outcome repaired.look) (g.S.Store.failures s3) is b))
    c.is_wanted-is_kept.ensures
    (settles c.args.out.now is g.S.Writer.Write.contents written (g.S.Writer.Write.contents c.in-Ok.made.1) made (g.S.Store.making s2)
    (g.S.Store.failures s2) (g.S.Store.failures s0 + faults_by repaired.outcome repaired.look) (g.S.Store.failures s3) (g.S.Store.held s0)
    (g.S.Store.held s2) (g.S.Store.held s3) c.is_wanted-is_kept.result c.in-Ok.ensures.named on
    (λ le lt. few_repaired repaired.outcome repaired.look (times_failed written) (g.S.Store.failures s0) (g.S.Store.failures s2)
    (g.S.Store.failures s3) reads writes le lt)
    (λ keeps whole fresh. text_kept renumbered_text c.args.repair.now.limits c.args.repair.now.wanted left (written_to g.S.Writer.Write.contents)
    c.in-Ok-gathered.writer c.run-writer.result.1 repaired (g.S.Writer.Write.contents (writer_in written))
    (sym c.is_wanted-is_kept.ensures ∙ keeps) c.run-writer.ensures.repairs (c.in-Ok-gathered.ensures.contents ∙ fresh)
    (c.take_back-written.ensures.whole whole))
    (λ texts known. empty_so (g.S.Store.held s0) (g.S.Store.held s1) texts (g.S.Writer.Write.contents c.in-Ok.made.1 ≡ Some [])
    (λ t n. IsBegun made (g.S.Store.making s1) t n) known (c.in-Ok.ensures.begun none))
    c.in-Ok-settle.ensures.whole c.in-Ok-settle.ensures.kept c.in-Ok-settle.ensures.dropped)

pub returns-in-Err-clause-unmade : goal.returns-in-Err-clause-unmade
returns-in-Err-clause-unmade g c =
    let s0 = c.args.store.now in
    let s1 = c.create_output.new.store in
    made_fails c.args.out (g.S.Store.making s0) (g.S.Store.held s0) (g.S.Store.held s1) c.in-Err.fault (g.S.Store.failures s0)
    (g.S.Store.failures s1) c.in-Err.ensures.unmade c.in-Err.ensures.failed

pub returns-in-Err-settle-clause-unmade : goal.returns-in-Err-settle-clause-unmade
returns-in-Err-settle-clause-unmade g c =
    let s0 = c.args.store.now in
    let s2 = c.run-writer.new.store in
    let s3 = c.settle.new.store in
    let repaired = c.run-writer.result.0 in
    let reads : CountsRead repaired.outcome repaired.look (g.S.Store.failures s0) (g.S.Store.failures s2)
    = subst (λ (n : ℕ). CountsRead repaired.outcome repaired.look n (g.S.Store.failures s2)) c.in-Ok.ensures.unfailed c.run-writer.ensures.reads in
    unkept_fails c.args.out (g.S.Store.making s0) (g.S.Store.held s0) (g.S.Store.held s3) c.in-Err-settle.fault (g.S.Store.failures s0)
    (g.S.Store.failures s3) c.in-Err-settle.ensures.fault.1
    (kept_then_counted (g.S.Store.failures s0) (g.S.Store.failures s2) (g.S.Store.failures s3)
    (read_kept repaired.outcome repaired.look (g.S.Store.failures s0) (g.S.Store.failures s2) reads) c.in-Err-settle.ensures.counted)

pub returns-in-Ok-settle-clause-counted : goal.returns-in-Ok-settle-clause-counted
returns-in-Ok-settle-clause-counted g c =
    let s0 = c.args.store.now in
    let s2 = c.run-writer.new.store in
    let s3 = c.settle.new.store in
    let repaired = c.run-writer.result.0 in
    let written = c.take_back-written.result.1 in
    let reads : CountsRead repaired.outcome repaired.look (g.S.Store.failures s0) (g.S.Store.failures s2)
    = subst (λ (n : ℕ). CountsRead repaired.outcome repaired.look n (g.S.Store.failures s2)) c.in-Ok.ensures.unfailed c.run-writer.ensures.reads in
    let writes : CountsWriter repaired.outcome 0 (times_failed written)
    = subst (λ (n : ℕ). CountsWriter repaired.outcome 0 n) (sym c.take_back-written.ensures.failures)
    (subst (λ (n : ℕ). CountsWriter repaired.outcome n (failures_of c.run-writer.result.1)) c.in-Ok-gathered.ensures.failures
    c.run-writer.ensures.failures) in
    file_counted repaired.outcome repaired.look _ _ _ c.is_wanted-is_kept.result (times_failed written) (g.S.Store.failures s0) (g.S.Store.failures s2)
    (g.S.Store.failures s3) writes c.is_wanted-is_kept.ensures reads c.settle.ensures.failures c.settle.ensures.given_up

use Rattle.std.proofs.Common.{◌≡◌, ℕ, ◌≤◌, ◌+◌, Bool, List, [], Option, Some, sym, subst, ◌∙◌}
use Rattle.cwr_devices.specs.Steps.Counted.{failures_of}
use Rattle.cwr_files.specs.declared.faults.Name.TheVariants.{File}
use Rattle.cwr_files.specs.Format.Files.{Turns, counted_on}
use Rattle.cwr_files.specs.Format.NewFiles.{LeavesAll}
use Rattle.cwr_files.specs.Format.Written.{times_failed, writer_in}
use Rattle.cwr_files.specs.Steps.Gathering.{written_to}
use Rattle.cwr_files.specs.Steps.Inputs.{remaining_of}
use Rattle.cwr_files.specs.Steps.NewFiles.{IsBegun}
use Rattle.cwr_files.proofs.lemmas.Counts.{kept_then_counted}
use Rattle.cwr_endings.specs.Format.Endings.{SettlesOut}
use Rattle.cwr_endings.proofs.lemmas.Fails.{made_fails, unkept_fails}
use Rattle.cwr_endings.proofs.lemmas.Outs.{Begins, empty_so, out_dropped, settles, turns_so, unkept_so}
use Rattle.cwr_reports.specs.Format.Exports.{IsExportOf, is_good}
use Rattle.cwr_reports.specs.Steps.Tellings.{CountsInput, CountsWriting}
use Rattle.cwr_reports.proofs.lemmas.ExportFails.{export_fails, input_kept}
use Rattle.cwr_reports.proofs.lemmas.ExportFiles.{export_leaves, few_judged, few_unkept, good_written, judged_faults}
use Rattle.cwr_reports.proofs.exports.report_to_file.Goals as goal

pub returns-in_default-clause-files : goal.returns-in_default-clause-files
returns-in_default-clause-files g c =
    λ told none.
    let made = c.in-Ok.made.0 in
    let s0 = c.args.store.now in
    let s1 = c.create_output.new.store in
    let begun : Begins made (g.S.Store.making s1) (g.S.Store.held s0) (g.S.Store.held s1)
    = turns_so (g.S.Store.held s0) (g.S.Store.held s1) _ _ (λ texts new h. h.0) (c.in-Ok.ensures.begun none) in
    out_dropped made c.args.out.now (g.S.Store.making s1) (counted_on 0 (g.S.Store.failures s1)) (g.S.Store.failures s0)
    (g.S.Store.failures c.discard.new.store) (g.S.Store.held s0) (g.S.Store.held s1) (g.S.Store.held c.discard.new.store)
    c.in-Ok.ensures.named begun c.discard.ensures.dropped
    (λ le lt. subst (λ (n : ℕ). g.S.Store.failures c.discard.new.store ≤ n) (sym c.in-Ok.ensures.unfailed) le)

pub returns-in-Err-settle-clause-files : goal.returns-in-Err-settle-clause-files
returns-in-Err-settle-clause-files g c =
    λ told none.
    let made = c.in-Ok.made.0 in
    let s0 = c.args.store.now in
    let s1 = c.create_output.new.store in
    let s2 = c.judge_input-lines.new.store in
    let s3 = c.settle.new.store in
    let judged = c.judge_input-lines.result.1 in
    let is : List ℕ → Type 0
    = IsExportOf c.args.telling c.args.asked.now.limits (remaining_of g.S.Reader.Read.remaining g.I.Read.remaining c.args.input) in
    let begun : Begins made (g.S.Store.making s1) (g.S.Store.held s0) (g.S.Store.held s1)
    = turns_so (g.S.Store.held s0) (g.S.Store.held s1) _ _ (λ texts new h. h.0) (c.in-Ok.ensures.begun none) in
    let on : Begins made (g.S.Store.making s2) (g.S.Store.held s0) (g.S.Store.held s2)
    = subst (λ (o : Option _). Begins made (g.S.Store.making s2) (g.S.Store.held s0) o) (sym c.judge_input-lines.ensures.kept)
    (subst (λ (m : Option (List ℕ)). Begins made m (g.S.Store.held s0) (g.S.Store.held s1)) (sym c.judge_input-lines.ensures.making) begun) in
    let reads : CountsInput judged (g.S.Store.failures s0) (g.S.Store.failures s2)
    = subst (λ (n : ℕ). CountsInput judged n (g.S.Store.failures s2)) c.in-Ok.ensures.unfailed c.judge_input-lines.ensures.reader_failures in
    turns_so (g.S.Store.held s0) (g.S.Store.held s3) (LeavesAll c.args.out.now (g.S.Store.failures s0 + 1) (g.S.Store.failures s3)) _
    (λ texts new h. unkept_so c.args.out.now (g.S.Store.failures s0) (g.S.Store.failures s3) is (File c.args.out) c.in-Err-settle.fault texts new
    c.in-Err-settle.ensures.fault.1 h)
    (out_dropped made c.args.out.now (g.S.Store.making s2) (g.S.Store.failures s2 + 1) (g.S.Store.failures s0 + 1) (g.S.Store.failures s3)
    (g.S.Store.held s0) (g.S.Store.held s2) (g.S.Store.held s3) c.in-Ok.ensures.named on
    (c.in-Err-settle.ensures.unkept c.in-Err-settle.ensures.fault.0)
    (λ le lt. few_unkept judged (g.S.Store.failures s0) (g.S.Store.failures s2) (g.S.Store.failures s3) reads le lt))

pub returns-clause-files : goal.returns-clause-files
returns-clause-files g c =
    λ told none.
    let made = c.in-Ok.made.0 in
    let s0 = c.args.store.now in
    let s1 = c.create_output.new.store in
    let s2 = c.judge_input-lines.new.store in
    let s3 = c.settle.new.store in
    let judged = c.judge_input-lines.result.1 in
    let written = c.take_back-written.result.1 in
    let left : Option (List ℕ) = remaining_of g.S.Reader.Read.remaining g.I.Read.remaining c.args.input in
    let is : List ℕ → Type 0 = IsExportOf c.args.telling c.args.asked.now.limits left in
    let begun : Begins made (g.S.Store.making s1) (g.S.Store.held s0) (g.S.Store.held s1)
    = turns_so (g.S.Store.held s0) (g.S.Store.held s1) _ _ (λ texts new h. h.0) (c.in-Ok.ensures.begun none) in
    let on : Begins made (g.S.Store.making s2) (g.S.Store.held s0) (g.S.Store.held s2)
    = subst (λ (o : Option _). Begins made (g.S.Store.making s2) (g.S.Store.held s0) o) (sym c.judge_input-lines.ensures.kept)
    (subst (λ (m : Option (List ℕ)). Begins made m (g.S.Store.held s0) (g.S.Store.held s1)) (sym c.judge_input-lines.ensures.making) begun) in
    let reads : CountsInput judged (g.S.Store.failures s0) (g.S.Store.failures s2)
    = subst (λ (n : ℕ). CountsInput judged n (g.S.Store.failures s2)) c.in-Ok.ensures.unfailed c.judge_input-lines.ensures.reader_failures in
    let writes : CountsWriting judged 0 (times_failed written)
    = subst (λ (n : ℕ). CountsWriting judged 0 n) (sym c.take_back-written.ensures.failures)
    (subst (λ (n : ℕ). CountsWriting judged n (failures_of c.judge_input-lines.result.0)) c.in-Ok-gathered.ensures.failures
    c.judge_input-lines.ensures.writer_failures) in
    turns_so (g.S.Store.held s0) (g.S.Store.held s3)
    (SettlesOut c.args.out.now (g.S.Store.failures s0 + judged_faults judged) (g.S.Store.failures s3) is (is_good judged)) _
    (λ texts new h. export_leaves c.args.out.now (g.S.Store.failures s0) (g.S.Store.failures s3) is texts new c.judge_input-lines.result.2
    c.take_back-written.result.0 judged c.export_ending.result c.export_ending.ensures h)
    (subst
    (λ (b : Bool). Turns (g.S.Store.held s0) (g.S.Store.held s3)
    (SettlesOut c.args.out.now (g.S.Store.failures s0 + judged_faults judged) (g.S.Store.failures s3) is b))
    c.is_good-is_wanted.ensures
    (settles c.args.out.now is g.S.Writer.Write.contents written (g.S.Writer.Write.contents c.in-Ok.made.1) made (g.S.Store.making s2)
    (g.S.Store.failures s2) (g.S.Store.failures s0 + judged_faults judged) (g.S.Store.failures s3) (g.S.Store.held s0) (g.S.Store.held s2)
    (g.S.Store.held s3) c.is_good-is_wanted.result c.in-Ok.ensures.named on
    (λ le lt. few_judged judged (times_failed written) (g.S.Store.failures s0) (g.S.Store.failures s2) (g.S.Store.failures s3) reads writes
    le lt)
    (λ keeps whole empty. good_written c.args.telling c.args.asked.now.limits left (written_to g.S.Writer.Write.contents)
    c.in-Ok-gathered.lines c.judge_input-lines.result.0 judged (g.S.Writer.Write.contents (writer_in written)) told
    (sym c.is_good-is_wanted.ensures ∙ keeps) (c.in-Ok-gathered.ensures.contents ∙ empty) (c.take_back-written.ensures.whole whole)
    c.judge_input-lines.ensures.told)
    (λ texts known. empty_so (g.S.Store.held s0) (g.S.Store.held s1) texts (g.S.Writer.Write.contents c.in-Ok.made.1 ≡ Some [])
    (λ t n. IsBegun made (g.S.Store.making s1) t n) known (c.in-Ok.ensures.begun none))
    c.in_default-settle.ensures.whole c.in_default-settle.ensures.kept c.in_default-settle.ensures.dropped))

pub returns-in-Err-clause-failed : goal.returns-in-Err-clause-failed
returns-in-Err-clause-failed g c =
    let s0 = c.args.store.now in
    let s1 = c.create_output.new.store in
    made_fails c.args.out (g.S.Store.making s0) (g.S.Store.held s0) (g.S.Store.held s1) c.in-Err.fault (g.S.Store.failures s0)
    (g.S.Store.failures s1) c.in-Err.ensures.unmade c.in-Err.ensures.failed

pub returns-in-Err-settle-clause-failed : goal.returns-in-Err-settle-clause-failed
returns-in-Err-settle-clause-failed g c =
    let s0 = c.args.store.now in
    let s2 = c.judge_input-lines.new.store in
    let s3 = c.settle.new.store in
    let judged = c.judge_input-lines.result.1 in
    let reads : CountsInput judged (g.S.Store.failures s0) (g.S.Store.failures s2)
    = subst (λ (n : ℕ). CountsInput judged n (g.S.Store.failures s2)) c.in-Ok.ensures.unfailed c.judge_input-lines.ensures.reader_failures in
    unkept_fails c.args.out (g.S.Store.making s0) (g.S.Store.held s0) (g.S.Store.held s3) c.in-Err-settle.fault (g.S.Store.failures s0)
    (g.S.Store.failures s3) c.in-Err-settle.ensures.fault.1
    (kept_then_counted (g.S.Store.failures s0) (g.S.Store.failures s2) (g.S.Store.failures s3)
    (input_kept judged (g.S.Store.failures s0) (g.S.Store.failures s2) reads) c.in-Err-settle.ensures.counted)

pub returns-clause-failed : goal.returns-clause-failed
returns-clause-failed g c =
    let s0 = c.args.store.now in
    let s2 = c.judge_input-lines.new.store in
    let s3 = c.settle.new.store in
    let judged = c.judge_input-lines.result.1 in
    let written = c.take_back-written.result.1 in
    let reads : CountsInput judged (g.S.Store.failures s0) (g.S.Store.failures s2)
    = subst (λ (n : ℕ). CountsInput judged n (g.S.Store.failures s2)) c.in-Ok.ensures.unfailed c.judge_input-lines.ensures.reader_failures in
    let writes : CountsWriting judged 0 (times_failed written)
    = subst (λ (n : ℕ). CountsWriting judged 0 n) (sym c.take_back-written.ensures.failures)
    (subst (λ (n : ℕ). CountsWriting judged n (failures_of c.judge_input-lines.result.0)) c.in-Ok-gathered.ensures.failures
    c.judge_input-lines.ensures.writer_failures) in
    export_fails c.args.out (g.S.Store.making s0) (g.S.Store.held s0) (g.S.Store.held s3) c.judge_input-lines.result.2
    c.take_back-written.result.0 (g.S.Store.failures s0) (g.S.Store.failures s2) (g.S.Store.failures s3) (times_failed written)
    c.is_good-is_wanted.result c.settle.ensures.failures c.settle.ensures.given_up judged c.export_ending.result c.is_good-is_wanted.ensures
    c.judge_input-lines.ensures.read reads writes c.export_ending.ensures

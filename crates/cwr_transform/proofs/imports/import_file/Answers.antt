use Rattle.std.proofs.Common.{◌≡◌, ℕ, ◌≤◌, ◌+◌, List, [], Option, Some, sym, subst, ◌∙◌}
use Rattle.cwr_devices.specs.Steps.Counted.{failures_of}
use Rattle.cwr_files.specs.Format.NewFiles.{LeavesAll}
use Rattle.cwr_files.specs.Format.Files.{counted_on}
use Rattle.cwr_files.specs.Format.Written.{is_whole, times_failed, writer_in}
use Rattle.cwr_files.specs.Steps.Gathering.{written_to}
use Rattle.cwr_files.specs.Steps.Inputs.{remaining_of}
use Rattle.cwr_files.specs.Steps.NewFiles.{IsBegun}
use Rattle.cwr_files.specs.declared.faults.Name.TheVariants.{File}
use Rattle.cwr_files.proofs.lemmas.Counts.{kept_then_counted}
use Rattle.cwr_endings.proofs.lemmas.Fails.{made_fails, unkept_fails}
use Rattle.cwr_endings.proofs.lemmas.Outs.{Begins, empty_so, out_dropped, turns_so, unkept_so, where_known}
use Rattle.cwr_write.specs.Format.Imports.{CountsReaderFault, CountsWriterFault}
use Rattle.cwr_transform.specs.Format.Imports.{IsImportOf}
use Rattle.cwr_transform.proofs.lemmas.ImportFails.{import_fails, reads_kept}
use Rattle.cwr_transform.proofs.lemmas.ImportFiles.{few_more, import_out}
use Rattle.cwr_transform.proofs.lemmas.ImportsEnd.{file_ends}
use Rattle.cwr_transform.proofs.imports.import_file.Goals as goal

pub returns-clause-ends : goal.returns-clause-ends
returns-clause-ends g c = file_ends c.args.import.now _ _ _ _ _ c.import_from-writer.ensures.judges c.import_ending.ensures

pub returns-in_default-clause-files : goal.returns-in_default-clause-files
returns-in_default-clause-files g c =
    λ none.
    let made = c.in-Ok.made.0 in
    let s0 = c.args.store.now in
    let s1 = c.create_output.new.store in
    let begun : Begins made (g.S.Store.making s1) (g.S.Store.held s0) (g.S.Store.held s1)
    = turns_so (g.S.Store.held s0) (g.S.Store.held s1) _ _ (λ texts new h. h.0) (c.in-Ok.ensures.begun none) in
    out_dropped made c.args.out.now (g.S.Store.making s1) (counted_on 0 (g.S.Store.failures s1)) (g.S.Store.failures s0)
    (g.S.Store.failures c.discard.new.store) (g.S.Store.held s0) (g.S.Store.held s1) (g.S.Store.held c.discard.new.store)
    c.in-Ok.ensures.named begun c.discard.ensures.dropped
    (λ le lt. subst (λ (n : ℕ). g.S.Store.failures c.discard.new.store ≤ n) (sym c.in-Ok.ensures.unfailed) le)

pub returns-in-Err-settle-clause-files : goal.returns-in-Err-settle-clause-files
returns-in-Err-settle-clause-files g c =
    λ none.
    let made = c.in-Ok.made.0 in
    let s0 = c.args.store.now in
    let s1 = c.create_output.new.store in
    let s2 = c.import_from-writer.new.store in
    let s3 = c.settle.new.store in
    let is : List ℕ → Type 0 = IsImportOf c.args.import.now (remaining_of g.S.Reader.Read.remaining g.I.Read.remaining c.args.input) in
    let begun : Begins made (g.S.Store.making s1) (g.S.Store.held s0) (g.S.Store.held s1)
    = turns_so (g.S.Store.held s0) (g.S.Store.held s1) _ _ (λ texts new h. h.0) (c.in-Ok.ensures.begun none) in
    let on : Begins made (g.S.Store.making s2) (g.S.Store.held s0) (g.S.Store.held s2)
    = subst (λ (o : Option _). Begins made (g.S.Store.making s2) (g.S.Store.held s0) o) (sym c.import_from-writer.ensures.kept)
    (subst (λ (m : Option (List ℕ)). Begins made m (g.S.Store.held s0) (g.S.Store.held s1)) (sym c.import_from-writer.ensures.making) begun) in
    let reads : CountsReaderFault c.import_from-writer.result.1 (g.S.Store.failures s0) (g.S.Store.failures s2)
    = subst (λ (n : ℕ). CountsReaderFault c.import_from-writer.result.1 n (g.S.Store.failures s2)) c.in-Ok.ensures.unfailed
    c.import_from-writer.ensures.reads in
    turns_so (g.S.Store.held s0) (g.S.Store.held s3) (LeavesAll c.args.out.now (g.S.Store.failures s0 + 1) (g.S.Store.failures s3)) _
    (λ texts new h. unkept_so c.args.out.now (g.S.Store.failures s0) (g.S.Store.failures s3) is (File c.args.out) c.in-Err-settle.fault texts new
    c.in-Err-settle.ensures.fault.1 h)
    (out_dropped made c.args.out.now (g.S.Store.making s2) (g.S.Store.failures s2 + 1) (g.S.Store.failures s0 + 1) (g.S.Store.failures s3)
    (g.S.Store.held s0) (g.S.Store.held s2) (g.S.Store.held s3) c.in-Ok.ensures.named on
    (c.in-Err-settle.ensures.unkept c.in-Err-settle.ensures.fault.0)
    (λ le lt. few_more c.import_from-writer.result.1 (g.S.Store.failures s0) (g.S.Store.failures s2) (g.S.Store.failures s3) reads le lt))

pub returns-clause-files : goal.returns-clause-files
returns-clause-files g c =
    λ none.
    let made = c.in-Ok.made.0 in
    let s0 = c.args.store.now in
    let s1 = c.create_output.new.store in
    let s2 = c.import_from-writer.new.store in
    let s3 = c.settle.new.store in
    let left : Option (List ℕ) = remaining_of g.S.Reader.Read.remaining g.I.Read.remaining c.args.input in
    let written = c.take_back-written.result.1 in
    let begun : Begins made (g.S.Store.making s1) (g.S.Store.held s0) (g.S.Store.held s1)
    = turns_so (g.S.Store.held s0) (g.S.Store.held s1) _ _ (λ texts new h. h.0) (c.in-Ok.ensures.begun none) in
    let on : Begins made (g.S.Store.making s2) (g.S.Store.held s0) (g.S.Store.held s2)
    = subst (λ (o : Option _). Begins made (g.S.Store.making s2) (g.S.Store.held s0) o) (sym c.import_from-writer.ensures.kept)
    (subst (λ (m : Option (List ℕ)). Begins made m (g.S.Store.held s0) (g.S.Store.held s1)) (sym c.import_from-writer.ensures.making) begun) in
    let reads : CountsReaderFault c.import_from-writer.result.1 (g.S.Store.failures s0) (g.S.Store.failures s2)
    = subst (λ (n : ℕ). CountsReaderFault c.import_from-writer.result.1 n (g.S.Store.failures s2)) c.in-Ok.ensures.unfailed
    c.import_from-writer.ensures.reads in
    let writes : CountsWriterFault c.import_from-writer.result.1 0 (times_failed written)
    = subst (λ (n : ℕ). CountsWriterFault c.import_from-writer.result.1 0 n) (sym c.take_back-written.ensures.failures)
    (subst (λ (n : ℕ). CountsWriterFault c.import_from-writer.result.1 n (failures_of c.import_from-writer.result.0)) c.in-Ok-gathered.ensures.failures c.import_from-writer.ensures.failures) in
    where_known (g.S.Store.held s0) (g.S.Store.held s3) _
    (λ texts e. import_out c.args.import.now left (written_to g.S.Writer.Write.contents) c.in-Ok-gathered.writer
    c.import_from-writer.result.0 (g.S.Writer.Write.contents (writer_in written)) c.args.out.now made (g.S.Store.making s2)
    (g.S.Store.failures s0) (g.S.Store.failures s2) (g.S.Store.failures s3) (times_failed written) (g.S.Store.held s0)
    (g.S.Store.held s2) (g.S.Store.held s3) c.is_ok.result (is_whole written) c.import_from-writer.result.2 c.take_back-written.result.0
    c.in-Ok.ensures.named on
    (c.in-Ok-gathered.ensures.contents ∙ empty_so (g.S.Store.held s0) (g.S.Store.held s1) texts
    (g.S.Writer.Write.contents c.in-Ok.made.1 ≡ Some []) (λ t n. IsBegun made (g.S.Store.making s1) t n) e (c.in-Ok.ensures.begun none))
    c.take_back-written.ensures.whole c.in_default-settle.ensures.whole c.in_default-settle.ensures.kept
    c.in_default-settle.ensures.dropped c.import_from-writer.result.1 c.import_ending.result c.is_ok.ensures.value
    c.import_from-writer.ensures.written reads writes c.import_ending.ensures)

pub returns-in-Err-clause-failed : goal.returns-in-Err-clause-failed
returns-in-Err-clause-failed g c =
    let s0 = c.args.store.now in
    let s1 = c.create_output.new.store in
    made_fails c.args.out (g.S.Store.making s0) (g.S.Store.held s0) (g.S.Store.held s1) c.in-Err.fault (g.S.Store.failures s0)
    (g.S.Store.failures s1) c.in-Err.ensures.unmade c.in-Err.ensures.failed

pub returns-in-Err-settle-clause-failed : goal.returns-in-Err-settle-clause-failed
returns-in-Err-settle-clause-failed g c =
    let s0 = c.args.store.now in
    let s2 = c.import_from-writer.new.store in
    let s3 = c.settle.new.store in
    let reads : CountsReaderFault c.import_from-writer.result.1 (g.S.Store.failures s0) (g.S.Store.failures s2)
    = subst (λ (n : ℕ). CountsReaderFault c.import_from-writer.result.1 n (g.S.Store.failures s2)) c.in-Ok.ensures.unfailed
    c.import_from-writer.ensures.reads in
    unkept_fails c.args.out (g.S.Store.making s0) (g.S.Store.held s0) (g.S.Store.held s3) c.in-Err-settle.fault (g.S.Store.failures s0)
    (g.S.Store.failures s3) c.in-Err-settle.ensures.fault.1
    (kept_then_counted (g.S.Store.failures s0) (g.S.Store.failures s2) (g.S.Store.failures s3)
    (reads_kept c.import_from-writer.result.1 (g.S.Store.failures s0) (g.S.Store.failures s2) reads) c.in-Err-settle.ensures.counted)

pub returns-clause-failed : goal.returns-clause-failed
returns-clause-failed g c =
    let s0 = c.args.store.now in
    let s2 = c.import_from-writer.new.store in
    let s3 = c.settle.new.store in
    let written = c.take_back-written.result.1 in
    let reads : CountsReaderFault c.import_from-writer.result.1 (g.S.Store.failures s0) (g.S.Store.failures s2)
    = subst (λ (n : ℕ). CountsReaderFault c.import_from-writer.result.1 n (g.S.Store.failures s2)) c.in-Ok.ensures.unfailed
    c.import_from-writer.ensures.reads in
    let writes : CountsWriterFault c.import_from-writer.result.1 0 (times_failed written)
    = subst (λ (n : ℕ). CountsWriterFault c.import_from-writer.result.1 0 n) (sym c.take_back-written.ensures.failures)
    (subst (λ (n : ℕ). CountsWriterFault c.import_from-writer.result.1 n (failures_of c.import_from-writer.result.0)) c.in-Ok-gathered.ensures.failures c.import_from-writer.ensures.failures) in
    import_fails c.args.out (g.S.Store.making s0) (g.S.Store.held s0) (g.S.Store.held s3) c.import_from-writer.result.2
    c.take_back-written.result.0 (g.S.Store.failures s0) (g.S.Store.failures s2) (g.S.Store.failures s3) (times_failed written) c.is_ok.result
    c.settle.ensures.failures c.settle.ensures.given_up c.import_from-writer.result.1 c.import_ending.result c.is_ok.ensures.value reads writes
    c.import_ending.ensures

use Rattle.std.proofs.Common.{◌≡◌, List, ℕ, Option, subst, sym}
use Rattle.std.specs.Prelude.{Err, Result}
use Rattle.cwr_devices.specs.Steps.Sources.{failures_of}
use Rattle.cwr_files.specs.Format.Faults.{IfErr, IsFaultOfPart}
use Rattle.cwr_files.specs.Format.Files.{Turns}
use Rattle.cwr_files.specs.Steps.Inputs.{remaining_of}
use Rattle.cwr_files.specs.Steps.NewFiles.{HasKeptCount}
use Rattle.cwr_endings.specs.declared.stops.Stop.{Stop}
use Rattle.cwr_endings.specs.declared.stops.Stop.TheVariants as stops
use Rattle.cwr_endings.proofs.lemmas.StatusesOnTexts.{from_source}
use Rattle.cwr_transform.specs.Format.Splits.{EndsAsSplit, FailsToCut, LeavesCut}
use Rattle.cwr_transform.specs.Steps.Splits.{CountsCut}
use Rattle.cwr_transform.proofs.lemmas.SplitFails.{cut_fails}
use Rattle.cwr_transform.proofs.lemmas.SplitFiles.{ends_so, files_left, holds_so, kept_counted, starts, stops_holding, stops_so, texts_some}
use Rattle.cwr_transform.proofs.lemmas.SplitsEnd.{split_ends}
use Rattle.cwr_transform.proofs.splits.split_file.Goals as goal

pub cut_into_files-outcome-requires : goal.cut_into_files-outcome-requires
cut_into_files-outcome-requires g c =
    let store = c.part_of_input.new.store in
    starts c.args.cut.now.created (g.S.Store.making store) (g.S.Store.held store) (g.S.Store.failures store) c.args.cut.now.prefix.now

pub returns-clause-ends : goal.returns-clause-ends
returns-clause-ends g c =
    from_source (λ (known : Option (List ℕ)). EndsAsSplit c.args.cut.now.limits c.args.cut.now.wanted known c.split_ending-ended.result)
    (remaining_of g.S.Reader.Read.remaining g.I.Read.remaining) c.args.input c.new-reader.result.inner _
    c.new-reader.ensures.inner c.new-reader.ensures.ahead
    (split_ends c.args.cut.now.limits c.args.cut.now.wanted _ c.end_input-told.result c.cut_into_files-outcome.result.3.fault
    c.cut_into_files-outcome.result.0 c.cut_into_files-outcome.result.1 c.cut_into_files-outcome.result.2 c.reaches-found.result
    c.split_ending-ended.result c.cut_into_files-outcome.ensures.judged c.cut_into_files-outcome.ensures.counted c.reaches-found.ensures
    c.split_ending-ended.ensures)

pub returns-clause-failed : goal.returns-clause-failed
returns-clause-failed g c = λ quiet known.
    let s0 = c.args.store.now in
    let s1 = c.part_of_input.new.store in
    let s2 = c.cut_into_files-outcome.new.store in
    let s3 = c.end_input-told.new.store in
    let answered = c.cut_into_files-outcome.result.0 in
    let look = c.cut_into_files-outcome.result.1 in
    let reader = c.cut_into_files-outcome.new.reader in
    let some = texts_some (g.S.Store.making s0) (g.S.Store.making s1) (g.S.Store.held s0) (g.S.Store.held s1) quiet
    known c.part_of_input.ensures.making c.part_of_input.ensures.kept in
    let reads = subst (λ (n : ℕ). CountsCut answered look n (failures_of reader)) c.new-reader.ensures.failures
    c.cut_into_files-outcome.ensures.reads in
    cut_fails c.end_input-told.result c.cut_into_files-outcome.result.3.fault (failures_of reader) (g.S.Store.failures s0)
    (g.S.Store.failures s2) (g.S.Store.failures s3)
    (subst (λ (n : ℕ). HasKeptCount n (g.S.Store.failures s2)) c.part_of_input.ensures.failures
    (c.cut_into_files-outcome.ensures.failures some))
    c.end_input-told.ensures.failures
    (subst (λ (n : ℕ). IsFaultOfPart n (g.S.Store.failures s2) c.cut_into_files-outcome.result.3.fault) c.part_of_input.ensures.failures
    (c.cut_into_files-outcome.ensures.failed some))
    c.args.cut.now.wanted look c.reaches-found.result answered c.split_ending-ended.result reads c.split_ending-ended.ensures

pub returns-clause-files : goal.returns-clause-files
returns-clause-files g c = λ quiet.
    let cut = c.args.cut.now in
    let n = cut.transactions.value in
    let s0 = c.args.store.now in
    let s1 = c.part_of_input.new.store in
    let s2 = c.cut_into_files-outcome.new.store in
    let s3 = c.end_input-told.new.store in
    let answered = c.cut_into_files-outcome.result.0 in
    from_source (λ (known : Option (List ℕ)). Turns (g.S.Store.held s0) (g.S.Store.held s3)
    (LeavesCut cut.limits n cut.prefix.now cut.created known (g.S.Store.failures s0) (g.S.Store.failures s3) c.split_ending-ended.result))
    (remaining_of g.S.Reader.Read.remaining g.I.Read.remaining) c.args.input c.new-reader.result.inner _
    c.new-reader.ensures.inner c.new-reader.ensures.ahead
    (files_left cut.limits n cut.prefix.now cut.created _ (g.S.Store.making s0) (g.S.Store.making s1) (g.S.Store.held s0) (g.S.Store.held s1)
    (g.S.Store.held s2) (g.S.Store.held s3) (g.S.Store.failures s0) (g.S.Store.failures s1) (g.S.Store.failures s2) (g.S.Store.failures s3)
    answered c.split_ending-ended.result quiet c.part_of_input.ensures.making c.part_of_input.ensures.kept
    c.part_of_input.ensures.failures c.end_input-told.ensures.kept
    (kept_counted _ (g.S.Store.failures s2) (g.S.Store.failures s3) c.end_input-told.ensures.failures)
    c.cut_into_files-outcome.ensures.files
    (λ answer parts s is. ends_so cut.limits n _ parts answer answered c.end_input-told.result
    c.cut_into_files-outcome.result.3.fault _ c.split_ending-ended.result c.split_ending-ended.ensures s is)
    (λ answer parts texts new is. holds_so cut.prefix.now parts answer answered c.end_input-told.result
    c.cut_into_files-outcome.result.3.fault _ c.split_ending-ended.result texts new c.split_ending-ended.ensures is))

pub returns-in-Err-handed-clause-files : goal.returns-in-Err-handed-clause-files
returns-in-Err-handed-clause-files g c = λ quiet.
    let cut = c.args.cut.now in
    let n = cut.transactions.value in
    let s0 = c.args.store.now in
    let s1 = c.part_of_input.new.store in
    let s2 = c.cut_into_files-outcome.new.store in
    let s3 = c.end_input-told.new.store in
    let answered = c.cut_into_files-outcome.result.0 in
    from_source (λ (known : Option (List ℕ)). Turns (g.S.Store.held s0) (g.S.Store.held s3)
    (LeavesCut cut.limits n cut.prefix.now cut.created known (g.S.Store.failures s0) (g.S.Store.failures s3) (Err c.in-Err-handed.stop)))
    (remaining_of g.S.Reader.Read.remaining g.I.Read.remaining) c.args.input c.new-reader.result.inner _
    c.new-reader.ensures.inner c.new-reader.ensures.ahead
    (files_left cut.limits n cut.prefix.now cut.created _ (g.S.Store.making s0) (g.S.Store.making s1) (g.S.Store.held s0) (g.S.Store.held s1)
    (g.S.Store.held s2) (g.S.Store.held s3) (g.S.Store.failures s0) (g.S.Store.failures s1) (g.S.Store.failures s2) (g.S.Store.failures s3)
    answered (Err c.in-Err-handed.stop) quiet c.part_of_input.ensures.making c.part_of_input.ensures.kept
    c.part_of_input.ensures.failures c.end_input-told.ensures.kept
    (kept_counted _ (g.S.Store.failures s2) (g.S.Store.failures s3) c.end_input-told.ensures.failures)
    c.cut_into_files-outcome.ensures.files (λ answer parts s is. stops_so answer c.in-Err-handed.stop)
    (λ answer parts texts new is all. stops_holding cut.prefix.now parts answer c.in-Err-handed.stop texts new))

pub returns-in-Err-handed-clause-failed : goal.returns-in-Err-handed-clause-failed
returns-in-Err-handed-clause-failed g c = λ quiet known.
    let untold : c.in-Err-handed.stop ≡ stops.Output
    = subst (λ (r : Result (Unit {0}) Stop). IfErr r (λ stop. stop ≡ stops.Output)) c.in-Err-handed.is c.hand_on-lines.ensures.stopped in
    subst (λ (stop : Stop). FailsToCut (Err stop) (g.S.Store.failures c.args.store.now) (g.S.Store.failures c.end_input-told.new.store))
    (sym untold) tt

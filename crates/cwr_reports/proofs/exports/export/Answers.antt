use Rattle.std.proofs.Common.{ℕ, false, List, Option, sym, subst, ◌∙◌}
use Rattle.std.specs.Prelude.{option_map}
use Rattle.cwr_files.specs.Format.Files.{Texts}
use Rattle.cwr_files.specs.Steps.Inputs.{IsLeftOf, remaining_of}
use Rattle.cwr_files.specs.Steps.NewFiles.{HasKeptCount}
use Rattle.cwr_endings.proofs.lemmas.Fails.{out_since, refused_fails, unread_fails, write_on}
use Rattle.cwr_endings.proofs.lemmas.Outs.{turns_so, writes_as, writes_on, writes_since}
use Rattle.cwr_reports.specs.Format.Exports.{IsExportAt, IsExportOf}
use Rattle.cwr_reports.proofs.lemmas.ExportFiles.{export_at}
use Rattle.cwr_reports.proofs.exports.export.Goals as goal

pub returns-clause-files : goal.returns-clause-files
returns-clause-files g c =
    λ told none.
    let s0 = c.args.store.now in
    let s1 = c.refuse_out.new.store in
    let s2 = c.open_input.new.store in
    let s3 = c.report_to_file.new.store in
    let out : List ℕ = c.args.out.now in
    let limits = c.args.asked.now.limits in
    let name : Option (List ℕ) = option_map (λ n. n.now) c.args.name in
    let standard : Option (List ℕ) = g.I.Read.remaining c.args.standard in
    let left : Option (List ℕ) = remaining_of g.S.Reader.Read.remaining g.I.Read.remaining c.in-Ok.input in
    let is : List ℕ → Type 0 = IsExportOf c.args.telling limits left in
    let other : List ℕ → Type 0 = IsExportAt c.args.telling limits (g.S.Store.held s0) standard name in
    let opened : IsLeftOf (g.S.Store.held s0) standard name left
    = subst (λ (h : Option Texts). IsLeftOf h standard name left) c.refuse_out.ensures.kept c.in-Ok.ensures.left in
    let kept : HasKeptCount (g.S.Store.failures s0) (g.S.Store.failures s2)
    = subst (λ (n : ℕ). HasKeptCount (g.S.Store.failures s0) n) (sym c.in-Ok.ensures.opened) c.refuse_out.ensures.failures in
    writes_on (g.S.Store.held s0) (g.S.Store.held s2) (g.S.Store.held s3) _ (c.open_input.ensures.kept ∙ c.refuse_out.ensures.kept)
    (turns_so (g.S.Store.held s2) (g.S.Store.held s3) _ _
    (λ texts new h. writes_since out (g.S.Store.failures s0) (g.S.Store.failures s2) (g.S.Store.failures s3) other c.report_to_file.result
    texts new kept
    (writes_as out (g.S.Store.failures s2) (g.S.Store.failures s3) is other c.report_to_file.result texts new
    (λ text has. export_at c.args.telling limits (g.S.Store.held s0) standard name left text opened has) h))
    (c.report_to_file.ensures.files told (c.open_input.ensures.making ∙ c.refuse_out.ensures.making ∙ none)))

pub returns-in-Err-clause-failed : goal.returns-in-Err-clause-failed
returns-in-Err-clause-failed g c =
    let s0 = c.args.store.now in
    let s1 = c.refuse_out.new.store in
    refused_fails c.args.out false (g.S.Store.making s0) (g.S.Store.held s0) (g.S.Store.held s1) c.in-Err.fault (g.S.Store.failures s0)
    (g.S.Store.failures s1) c.in-Err.ensures.refused

pub returns-in-Err-open_input-clause-failed : goal.returns-in-Err-open_input-clause-failed
returns-in-Err-open_input-clause-failed g c =
    let s0 = c.args.store.now in
    let s1 = c.refuse_out.new.store in
    let s2 = c.open_input.new.store in
    out_since c.args.out (g.S.Store.making s0) (g.S.Store.held s0) (g.S.Store.held s2) c.in-Err-open_input.fault (g.S.Store.failures s0)
    (g.S.Store.failures s1) (g.S.Store.failures s2) c.refuse_out.ensures.failures
    (unread_fails (option_map (λ n. n.now) c.args.name) c.args.standard c.args.out (g.S.Store.making s0) (g.S.Store.held s0) (g.S.Store.held s2) c.in-Err-open_input.fault
    (g.S.Store.failures s1) (g.S.Store.failures s2) c.in-Err-open_input.ensures.unopened)

pub returns-clause-failed : goal.returns-clause-failed
returns-clause-failed g c =
    let s0 = c.args.store.now in
    let s2 = c.open_input.new.store in
    let s3 = c.report_to_file.new.store in
    let kept : HasKeptCount (g.S.Store.failures s0) (g.S.Store.failures s2)
    = subst (λ (n : ℕ). HasKeptCount (g.S.Store.failures s0) n) (sym c.in-Ok.ensures.opened) c.refuse_out.ensures.failures in
    write_on c.args.out (g.S.Store.making s0) (g.S.Store.making s2) (g.S.Store.held s0) (g.S.Store.held s2) (g.S.Store.held s3)
    c.report_to_file.result (g.S.Store.failures s0) (g.S.Store.failures s2) (g.S.Store.failures s3)
    (c.open_input.ensures.making ∙ c.refuse_out.ensures.making) (c.open_input.ensures.kept ∙ c.refuse_out.ensures.kept) kept
    c.report_to_file.ensures.failed

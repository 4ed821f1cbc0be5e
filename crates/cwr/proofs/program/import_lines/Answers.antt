use Rattle.std.proofs.Common.{ℕ, List, Option, Bor, sym, subst, ◌∙◌}
use Rattle.std.specs.Prelude.{option_map}
use Rattle.cwr_files.specs.Format.Files.{Texts, Turns}
use Rattle.cwr_files.specs.Steps.Inputs.{IsLeftOf, remaining_of}
use Rattle.cwr_files.specs.Steps.NewFiles.{HasKeptCount}
use Rattle.cwr_endings.proofs.lemmas.Outs.{turns_so, writes_as, writes_on, writes_since}
use Rattle.cwr_transform.specs.Format.Imports.{IsImportOf}
use Rattle.cwr.specs.Format.Endings.{import_of}
use Rattle.cwr.specs.Format.Files.{IsImportAt, LeavesOut}
use Rattle.cwr.proofs.lemmas.FailsOuts.{no_out_fails, out_fails, out_refused, out_unopened}
use Rattle.cwr.proofs.lemmas.Leaves.{import_at}
use Rattle.cwr.proofs.lemmas.Printed.{filed, handed, kept_in, printed}
use Rattle.cwr.proofs.lemmas.WorkEnds.{file_written, output_written}
use Rattle.cwr.proofs.program.import_lines.Goals as goal

-- src/program.rt:239:1
pub returns-in-Some-clause-ends : goal.returns-in-Some-clause-ends
returns-in-Some-clause-ends g c =
    file_written c.args.task.now.limits c.args.words.now c.encoding_of.result (g.S.Store.held c.args.store.now)
    (g.S.Store.held c.refuse_written.new.store) (g.I.Read.remaining c.args.standard)
    (remaining_of g.S.Reader.Read.remaining g.I.Read.remaining c.in-Ok.input) c.import_file-ended.result c.encoding_of.ensures
    c.refuse_written.ensures.kept c.in-Ok.ensures.left c.import_file-ended.ensures.ends

-- src/program.rt:239:1
pub returns-in-None-clause-ends : goal.returns-in-None-clause-ends
returns-in-None-clause-ends g c =
    output_written c.args.task.now.limits c.args.words.now c.encoding_of.result (g.S.Store.held c.args.store.now)
    (g.S.Store.held c.refuse_written.new.store) (g.I.Read.remaining c.args.standard)
    (remaining_of g.S.Reader.Read.remaining g.I.Read.remaining c.in-Ok.input) c.import_input.result.1 c.encoding_of.ensures
    c.refuse_written.ensures.kept c.in-Ok.ensures.left c.import_input.ensures.ends

pub returns-in-Some-clause-files : goal.returns-in-Some-clause-files
returns-in-Some-clause-files g c =
    λ none.
    let s0 = c.args.store.now in
    let s1 = c.refuse_written.new.store in
    let s2 = c.open_input.new.store in
    let s3 = c.import_file-ended.new.store in
    let words = c.args.words.now in
    let limits = c.args.task.now.limits in
    let out : List ℕ = c.in-Some.name.now in
    let ending = c.import_file-ended.result in
    let name : Option (List ℕ) = option_map (λ n. n.now) words.file in
    let standard : Option (List ℕ) = g.I.Read.remaining c.args.standard in
    let left : Option (List ℕ) = remaining_of g.S.Reader.Read.remaining g.I.Read.remaining c.in-Ok.input in
    let is : List ℕ → Type 0 = IsImportOf (record { limits = limits; encoding = c.encoding_of.result; most = words.line }) left in
    let other : List ℕ → Type 0 = IsImportAt (import_of limits words) (g.S.Store.held s0) standard name in
    let opened : IsLeftOf (g.S.Store.held s0) standard name left
    = subst (λ (h : Option Texts). IsLeftOf h standard name left) c.refuse_written.ensures.kept c.in-Ok.ensures.left in
    let kept : HasKeptCount (g.S.Store.failures s0) (g.S.Store.failures s2)
    = subst (λ (n : ℕ). HasKeptCount (g.S.Store.failures s0) n) (sym c.in-Ok.ensures.opened) c.refuse_written.ensures.failures in
    subst
    (λ (o : Option (Bor (List ℕ))). Turns (g.S.Store.held s0) (g.S.Store.held s3)
    (LeavesOut (option_map (λ n. n.now) o) (g.S.Store.failures s0) (g.S.Store.failures s3) other ending)) (sym c.in-Some.is)
    (writes_on (g.S.Store.held s0) (g.S.Store.held s2) (g.S.Store.held s3) _ (c.open_input.ensures.kept ∙ c.refuse_written.ensures.kept)
    (turns_so (g.S.Store.held s2) (g.S.Store.held s3) _ _
    (λ texts new h. writes_since out (g.S.Store.failures s0) (g.S.Store.failures s2) (g.S.Store.failures s3) other ending texts new kept
    (writes_as out (g.S.Store.failures s2) (g.S.Store.failures s3) is other ending texts new
    (λ text has. import_at limits words c.encoding_of.result (g.S.Store.held s0) standard name left text c.encoding_of.ensures opened has) h))
    (c.import_file-ended.ensures.files (c.open_input.ensures.making ∙ c.refuse_written.ensures.making ∙ none))))

pub returns-in-Err-clause-failed : goal.returns-in-Err-clause-failed
returns-in-Err-clause-failed g c =
    let s0 = c.args.store.now in
    let s1 = c.refuse_written.new.store in
    out_refused (g.S.Store.making s0) (g.S.Store.held s0) (g.S.Store.held s1) c.args.words.now.out c.in-Err.fault (g.S.Store.failures s0)
    (g.S.Store.failures s1) c.in-Err.ensures.refused c.in-Err.ensures.free

pub returns-in-Err-open_input-clause-failed : goal.returns-in-Err-open_input-clause-failed
returns-in-Err-open_input-clause-failed g c =
    let s0 = c.args.store.now in
    let s1 = c.refuse_written.new.store in
    let s2 = c.open_input.new.store in
    out_unopened (g.S.Store.making s0) (g.S.Store.held s0) (g.S.Store.held s2)
    (option_map (λ n. n.now) c.args.words.now.file) c.args.standard c.args.words.now.out c.in-Err-open_input.fault
    (g.S.Store.failures s0) (g.S.Store.failures s1) (g.S.Store.failures s2) c.refuse_written.ensures.failures
    c.in-Err-open_input.ensures.unopened

pub returns-in-Some-clause-failed : goal.returns-in-Some-clause-failed
returns-in-Some-clause-failed g c =
    let s0 = c.args.store.now in
    let s2 = c.open_input.new.store in
    let s3 = c.import_file-ended.new.store in
    let kept : HasKeptCount (g.S.Store.failures s0) (g.S.Store.failures s2)
    = subst (λ (n : ℕ). HasKeptCount (g.S.Store.failures s0) n) (sym c.in-Ok.ensures.opened) c.refuse_written.ensures.failures in
    out_fails (g.S.Store.making s0) (g.S.Store.held s0) (g.S.Store.held s3) c.args.words.now.out c.in-Some.name (g.S.Store.making s2)
    (g.S.Store.held s2) c.import_file-ended.result (g.S.Store.failures s0) (g.S.Store.failures s2) (g.S.Store.failures s3) c.in-Some.is
    (c.open_input.ensures.making ∙ c.refuse_written.ensures.making) (c.open_input.ensures.kept ∙ c.refuse_written.ensures.kept) kept
    c.import_file-ended.ensures.failed

pub returns-in-None-clause-failed : goal.returns-in-None-clause-failed
returns-in-None-clause-failed g c =
    let s0 = c.args.store.now in
    let s2 = c.open_input.new.store in
    let s3 = c.import_input.new.store in
    let kept : HasKeptCount (g.S.Store.failures s0) (g.S.Store.failures s2)
    = subst (λ (n : ℕ). HasKeptCount (g.S.Store.failures s0) n) (sym c.in-Ok.ensures.opened) c.refuse_written.ensures.failures in
    no_out_fails (g.S.Store.making s0) (g.S.Store.held s0) (g.S.Store.held s3) c.args.words.now.out c.import_input.result.1
    (g.S.Store.failures s0) (g.S.Store.failures s2) (g.S.Store.failures s3) c.in-None.is kept c.import_input.ensures.failed

pub returns-in-None-clause-told : goal.returns-in-None-clause-told
returns-in-None-clause-told g c =
    printed g.W.Target.contents c.args.output c.import_input.result.0 c.args.task.now.limits c.args.words.now (g.S.Store.held c.args.store.now)
    (g.I.Read.remaining c.args.standard) c.encoding_of.result
    (remaining_of g.S.Reader.Read.remaining g.I.Read.remaining c.in-Ok.input) (g.S.Store.held c.refuse_written.new.store)
    c.import_input.result.1 c.encoding_of.ensures c.in-None.is c.refuse_written.ensures.kept c.in-Ok.ensures.left c.import_input.ensures.told

pub returns-in-None-clause-handed_on : goal.returns-in-None-clause-handed_on
returns-in-None-clause-handed_on g c =
    handed c.args.words.now.out c.import_input.result.1 (g.W.Target.handed_on c.import_input.result.0) c.in-None.is
    c.import_input.ensures.handed_on

pub returns-in-Some-clause-told : goal.returns-in-Some-clause-told
returns-in-Some-clause-told g c =
    filed g.W.Target.contents c.args.output c.args.output c.args.task.now.limits c.args.words.now (g.S.Store.held c.args.store.now)
    (g.I.Read.remaining c.args.standard) c.in-Some.name c.import_file-ended.result c.in-Some.is

pub returns-in-Some-clause-handed_on : goal.returns-in-Some-clause-handed_on
returns-in-Some-clause-handed_on g c =
    kept_in c.args.words.now.out c.in-Some.name c.import_file-ended.result (g.W.Target.handed_on c.args.output) c.in-Some.is

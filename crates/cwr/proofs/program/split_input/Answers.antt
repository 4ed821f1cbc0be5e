use Rattle.std.proofs.Common.{ℕ, List, Option, inl, sym, subst, ◌∙◌}
use Rattle.std.specs.Prelude.{Some, IsSome}
use Rattle.cwr_files.specs.Format.Files.{Same, Texts, Turns}
use Rattle.cwr_files.specs.Steps.Inputs.{remaining_of}
use Rattle.cwr_endings.proofs.lemmas.Outs.{stays, turns_so, writes_on}
use Rattle.cwr_transform.specs.Format.Splits.{FailsToCut}
use Rattle.cwr_transform.proofs.lemmas.SplitFails.{unopened_cut}
use Rattle.cwr.specs.Format.Files.{LeavesCutOf}
use Rattle.cwr.proofs.lemmas.Leaves.{cut_at}
use Rattle.cwr.proofs.program.split_input.Goals as goal

pub returns-clause-files : goal.returns-clause-files
returns-clause-files g c =
    λ none.
    let s0 = c.args.store.now in
    let s1 = c.open_input.new.store in
    let s2 = c.split_file.new.store in
    let words = c.args.words.now in
    let limits = c.args.task.now.limits in
    let standard : Option (List ℕ) = g.I.Read.remaining c.args.standard in
    let left : Option (List ℕ) = remaining_of g.S.Reader.Read.remaining g.I.Read.remaining c.in-Ok.input in
    writes_on (g.S.Store.held s0) (g.S.Store.held s1) (g.S.Store.held s2) _ c.open_input.ensures.kept
    (subst
    (λ (n : ℕ). Turns (g.S.Store.held s1) (g.S.Store.held s2)
    (LeavesCutOf limits words.transactions.value words.prefix.now words.created (g.S.Store.held s0) standard words.file.now n (g.S.Store.failures s2)
    c.split_file.result.1)) c.in-Ok.ensures.opened
    (turns_so (g.S.Store.held s1) (g.S.Store.held s2) _ _
    (λ texts new h. cut_at limits words.transactions.value words.prefix.now words.created (g.S.Store.held s0) standard words.file.now left
    (g.S.Store.failures s1) (g.S.Store.failures s2) c.split_file.result.1 texts new c.in-Ok.ensures.left h)
    (c.split_file.ensures.files (c.open_input.ensures.making ∙ none))))

pub returns-in-Err-clause-files : goal.returns-in-Err-clause-files
returns-in-Err-clause-files g c =
    λ none.
    let held = g.S.Store.held c.args.store.now in
    turns_so held (g.S.Store.held c.open_input.new.store) Same _ (λ texts new same. inl same)
    (stays held (g.S.Store.held c.open_input.new.store) c.open_input.ensures.kept)

pub returns-in-Err-clause-failed : goal.returns-in-Err-clause-failed
returns-in-Err-clause-failed g c = λ quiet known.
    unopened_cut (Some c.args.words.now.file.now) c.args.standard c.in-Err.fault (g.S.Store.failures c.args.store.now)
    (g.S.Store.failures c.open_input.new.store) c.in-Err.ensures.unopened

pub returns-clause-failed : goal.returns-clause-failed
returns-clause-failed g c = λ quiet known.
    subst (λ (n : ℕ). FailsToCut c.split_file.result.1 n (g.S.Store.failures c.split_file.new.store)) c.in-Ok.ensures.opened
    (c.split_file.ensures.failed (c.open_input.ensures.making ∙ quiet)
    (subst (λ (t : Option Texts). IsSome t) (sym c.open_input.ensures.kept) known))

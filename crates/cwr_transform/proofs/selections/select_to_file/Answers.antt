use Rattle.std.proofs.Common.{◌≡◌, inl, ℕ, List, Option, sym, subst, ◌∙◌}
use Rattle.std.specs.Prelude.{Err, Result}
use Rattle.cwr_files.specs.declared.faults.Name.TheVariants.{File}
use Rattle.cwr_files.specs.Format.Faults.{IfErr}
use Rattle.cwr_files.specs.Steps.Inputs.{remaining_of}
use Rattle.cwr_endings.specs.declared.stops.Stop.{Stop}
use Rattle.cwr_endings.specs.declared.stops.Stop.TheVariants as stops
use Rattle.cwr_endings.specs.Format.Endings.{WritesOut}
use Rattle.cwr_endings.proofs.lemmas.Outs.{settled_untold, turns_so, writes_on, writes_since}
use Rattle.cwr_transform.specs.Format.Selections.{Asking, IsSelectionFrom}
use Rattle.cwr_transform.specs.Steps.Selections.{asked_by, keeps_selected, selected_faults}
use Rattle.cwr_transform.proofs.lemmas.SelectionStatuses.{status_ends}
use Rattle.cwr_transform.proofs.lemmas.SelectionsLeft.{select_ends, select_leaves, selection_since}
use Rattle.cwr_transform.proofs.lemmas.SelectionsTold.{handed_so, ok_fault, ok_lines, ok_so, told_ends}
use Rattle.cwr_transform.proofs.selections.select_to_file.Goals as goal

pub returns-in-Ok-put-clause-ends : goal.returns-in-Ok-put-clause-ends
returns-in-Ok-put-clause-ends g c =
    select_ends c.args.selection.now.limits c.args.selection.now.wanted c.args.selection.now.changes (g.C.Chooses.choice c.args.choice.now)
    (remaining_of g.S.Reader.Read.remaining g.I.Read.remaining c.args.input) c.in-Ok.file.selected c.ending.result _ _
    c.in-Ok.ensures.judged c.ending.ensures

pub returns-in-Ok-put-clause-files : goal.returns-in-Ok-put-clause-files
returns-in-Ok-put-clause-files g c =
    λ none.
    let s0 = c.args.store.now in
    let s1 = c.refuse_out.new.store in
    let s2 = c.write_selected.new.store in
    let out : List ℕ = c.args.out.now in
    let left : Option (List ℕ) = remaining_of g.S.Reader.Read.remaining g.I.Read.remaining c.args.input in
    let is : List ℕ → Type 0 = IsSelectionFrom c.args.selection.now.limits c.args.selection.now.wanted.whole c.args.selection.now.changes
    (g.C.Chooses.choice c.args.choice.now) left in
    writes_on (g.S.Store.held s0) (g.S.Store.held s1) (g.S.Store.held s2) _ c.refuse_out.ensures.kept
    (turns_so (g.S.Store.held s1) (g.S.Store.held s2) _ _
    (λ texts new h. selection_since out (g.S.Store.failures s0) (g.S.Store.failures s1) (g.S.Store.failures s2) is c.ending.result texts new
    c.refuse_out.ensures.failures
    (select_leaves c.args.selection.now.limits c.args.selection.now.wanted (g.C.Chooses.choice c.args.choice.now) left c.in-Ok.file.selected
    c.ending.result out (g.S.Store.failures s1) (g.S.Store.failures s2) is texts new c.in-Ok.file.written (File c.args.out)
    c.in-Ok.ensures.judged c.ending.ensures h))
    (c.in-Ok.ensures.files (c.refuse_out.ensures.making ∙ none)))

pub returns-in-Err-put-clause-files : goal.returns-in-Err-put-clause-files
returns-in-Err-put-clause-files g c =
    λ none.
    let s0 = c.args.store.now in
    let s1 = c.refuse_out.new.store in
    let s2 = c.write_selected.new.store in
    let out : List ℕ = c.args.out.now in
    let left : Option (List ℕ) = remaining_of g.S.Reader.Read.remaining g.I.Read.remaining c.args.input in
    let is : List ℕ → Type 0 = IsSelectionFrom c.args.selection.now.limits c.args.selection.now.wanted.whole c.args.selection.now.changes
    (g.C.Chooses.choice c.args.choice.now) left in
    let selected = c.in-Ok.file.selected in
    let untold : c.in-Err-put.stop ≡ stops.Output
    = subst (λ (r : Result (Unit {0}) Stop). IfErr r (λ stop. stop ≡ stops.Output)) c.in-Err-put.is c.put_file_lines-lines.ensures.stopped in
    writes_on (g.S.Store.held s0) (g.S.Store.held s1) (g.S.Store.held s2) _ c.refuse_out.ensures.kept
    (turns_so (g.S.Store.held s1) (g.S.Store.held s2) _ _
    (λ texts new h. inl (writes_since out (g.S.Store.failures s0) (g.S.Store.failures s1) (g.S.Store.failures s2) is (Err c.in-Err-put.stop)
    texts new c.refuse_out.ensures.failures
    (subst (λ (s : Stop). WritesOut out (g.S.Store.failures s1) (g.S.Store.failures s2) is (Err s) texts new) (sym untold)
    (settled_untold out (g.S.Store.failures s1) (selected_faults selected.outcome selected.look) (g.S.Store.failures s2) is
    (keeps_selected c.args.selection.now.wanted selected) texts new h))))
    (c.in-Ok.ensures.files (c.refuse_out.ensures.making ∙ none)))

pub returns-in-Err-write_selected-clause-files : goal.returns-in-Err-write_selected-clause-files
returns-in-Err-write_selected-clause-files g c =
    λ none.
    let s0 = c.args.store.now in
    let s1 = c.refuse_out.new.store in
    let s2 = c.write_selected.new.store in
    let out : List ℕ = c.args.out.now in
    let left : Option (List ℕ) = remaining_of g.S.Reader.Read.remaining g.I.Read.remaining c.args.input in
    let is : List ℕ → Type 0 = IsSelectionFrom c.args.selection.now.limits c.args.selection.now.wanted.whole c.args.selection.now.changes
    (g.C.Chooses.choice c.args.choice.now) left in
    writes_on (g.S.Store.held s0) (g.S.Store.held s1) (g.S.Store.held s2) _ c.refuse_out.ensures.kept
    (turns_so (g.S.Store.held s1) (g.S.Store.held s2) _ _
    (λ texts new h. inl (writes_since out (g.S.Store.failures s0) (g.S.Store.failures s1) (g.S.Store.failures s2) is
    (Err (stops.Fault c.in-Err-write_selected.fault)) texts new c.refuse_out.ensures.failures h))
    (c.in-Err-write_selected.ensures.files (c.refuse_out.ensures.making ∙ none)))

pub returns-in-Ok-put-clause-status : goal.returns-in-Ok-put-clause-status
returns-in-Ok-put-clause-status g c =
    status_ends (asked_by c.args.selection.now.limits c.args.selection.now.wanted g.C.Chooses.choice c.args.view.now)
    (remaining_of g.S.Reader.Read.remaining g.I.Read.remaining c.args.input) c.in-Ok.file.selected c.ending.result _ _
    c.in-Ok.ensures.sees c.ending.ensures

pub returns-in-Ok-put-clause-told : goal.returns-in-Ok-put-clause-told
returns-in-Ok-put-clause-told g c = λ numbers places say.
    let a : Asking = asked_by c.args.selection.now.limits c.args.selection.now.wanted g.C.Chooses.choice c.args.view.now in
    let lines = c.put_file_lines-lines in
    let put : Result (Unit {0}) Stop = lines.result.1 in
    told_ends g.W.Target.contents a numbers places (remaining_of g.S.Reader.Read.remaining g.I.Read.remaining c.args.input)
    c.in-Ok.file.selected c.args.lists.now c.write_selected.new.view.sought c.args.lines lines.result.0 c.ending.result _ _
    c.in-Ok.ensures.told say
    (λ ps say knows has. ok_lines _ c.in-Ok.file.selected.outcome put c.in-Ok-put.is (lines.ensures.told numbers places ps say knows has))
    (ok_fault _ c.in-Ok.file.selected.outcome put c.in-Ok-put.is lines.ensures.fault)
    (λ none. ok_so put c.in-Ok-put.is (lines.ensures.none none)) c.ending.ensures

pub returns-in-Ok-put-clause-handed_on : goal.returns-in-Ok-put-clause-handed_on
returns-in-Ok-put-clause-handed_on g c =
    handed_so c.put_file_lines-lines.result.1 c.args.out.now c.ending.result (g.W.Target.handed_on c.put_file_lines-lines.result.0)
    c.in-Ok-put.is c.put_file_lines-lines.ensures.handed_on

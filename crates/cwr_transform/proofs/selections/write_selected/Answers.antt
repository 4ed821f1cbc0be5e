use Rattle.std.proofs.Common.{◌≡◌, ℕ, ◌≤◌, ◌+◌, Bool, List, [], Option, Some, sym, subst, ◌∙◌}
use Rattle.cwr_devices.specs.Steps.Counted.{failures_of}
use Rattle.cwr_files.specs.declared.faults.Name.TheVariants.{File}
use Rattle.cwr_files.specs.Format.Files.{Turns, counted_on}
use Rattle.cwr_files.specs.Format.NewFiles.{LeavesAll}
use Rattle.cwr_files.specs.Format.Written.{times_failed, writer_in}
use Rattle.cwr_files.specs.Steps.Gathering.{written_to}
use Rattle.cwr_files.specs.Steps.Inputs.{remaining_of}
use Rattle.cwr_files.specs.Steps.NewFiles.{IsBegun}
use Rattle.cwr_endings.specs.Format.Endings.{SettlesOut}
use Rattle.cwr_endings.proofs.lemmas.Outs.{Begins, empty_so, out_dropped, settles, turns_so, unkept_so}
use Rattle.cwr_parts.specs.Format.Splitting.{CountsSplitWriter}
use Rattle.cwr_transform.specs.Format.Selections.{IsSelectionFrom}
use Rattle.cwr_transform.specs.Steps.Selections.{CountsSelecting, selected_faults}
use Rattle.cwr_transform.proofs.lemmas.SelectionsJudged.{is_judged, kept_text}
use Rattle.cwr_transform.proofs.lemmas.SelectionsLeft.{few_selected, few_unsettled}
use Rattle.cwr_transform.proofs.selections.write_selected.Goals as goal

pub returns-in_default-clause-files : goal.returns-in_default-clause-files
returns-in_default-clause-files g c =
    λ none.
    let made = c.in-Ok.made.0 in
    let s0 = c.args.store.now in
    let s1 = c.create_output.new.store in
    let begun : Begins made (g.S.Store.making s1) (g.S.Store.held s0) (g.S.Store.held s1)
    = turns_so (g.S.Store.held s0) (g.S.Store.held s1) _ _ (λ texts new h. h.0) (c.in-Ok.ensures.begun none) in
    out_dropped made c.args.out.now (g.S.Store.making s1) (counted_on 0 (g.S.Store.failures s1)) (g.S.Store.failures s0)
    (g.S.Store.failures c.discard.new.store) (g.S.Store.held s0) (g.S.Store.held s1) (g.S.Store.held c.discard.new.store)
    c.in-Ok.ensures.named begun c.discard.ensures.dropped
    (λ le lt. subst (λ (n : ℕ). g.S.Store.failures c.discard.new.store ≤ n) (sym c.in-Ok.ensures.unfailed) le)

pub returns-in-Err-settle-clause-files : goal.returns-in-Err-settle-clause-files
returns-in-Err-settle-clause-files g c =
    λ none.
    let made = c.in-Ok.made.0 in
    let s0 = c.args.store.now in
    let s1 = c.create_output.new.store in
    let s2 = c.run-writer.new.store in
    let s3 = c.settle.new.store in
    let selected = c.run-writer.result.0 in
    let is : List ℕ → Type 0 = IsSelectionFrom c.args.selection.now.limits c.args.selection.now.wanted.whole c.args.selection.now.changes
    (g.C.Chooses.choice c.args.choice.now) (remaining_of g.S.Reader.Read.remaining g.I.Read.remaining c.args.input) in
    let begun : Begins made (g.S.Store.making s1) (g.S.Store.held s0) (g.S.Store.held s1)
    = turns_so (g.S.Store.held s0) (g.S.Store.held s1) _ _ (λ texts new h. h.0) (c.in-Ok.ensures.begun none) in
    let on : Begins made (g.S.Store.making s2) (g.S.Store.held s0) (g.S.Store.held s2)
    = subst (λ (o : Option _). Begins made (g.S.Store.making s2) (g.S.Store.held s0) o) (sym c.run-writer.ensures.kept)
    (subst (λ (m : Option (List ℕ)). Begins made m (g.S.Store.held s0) (g.S.Store.held s1)) (sym c.run-writer.ensures.making) begun) in
    let reads : CountsSelecting selected.outcome selected.look (g.S.Store.failures s0) (g.S.Store.failures s2)
    = subst (λ (n : ℕ). CountsSelecting selected.outcome selected.look n (g.S.Store.failures s2)) c.in-Ok.ensures.unfailed
    c.run-writer.ensures.reads in
    turns_so (g.S.Store.held s0) (g.S.Store.held s3) (LeavesAll c.args.out.now (g.S.Store.failures s0 + 1) (g.S.Store.failures s3)) _
    (λ texts new h. unkept_so c.args.out.now (g.S.Store.failures s0) (g.S.Store.failures s3) is (File c.args.out) c.in-Err-settle.fault texts new
    c.in-Err-settle.ensures.fault.1 h)
    (out_dropped made c.args.out.now (g.S.Store.making s2) (g.S.Store.failures s2 + 1) (g.S.Store.failures s0 + 1) (g.S.Store.failures s3)
    (g.S.Store.held s0) (g.S.Store.held s2) (g.S.Store.held s3) c.in-Ok.ensures.named on
    (c.in-Err-settle.ensures.unkept c.in-Err-settle.ensures.fault.0)
    (λ le lt. few_unsettled selected.outcome selected.look (g.S.Store.failures s0) (g.S.Store.failures s2) (g.S.Store.failures s3) reads le lt))

pub returns-in-Ok-settle-clause-judged : goal.returns-in-Ok-settle-clause-judged
returns-in-Ok-settle-clause-judged g c =
    is_judged c.args.selection.now.limits c.args.selection.now.changes (g.C.Chooses.choice c.args.choice.now) _
    (written_to g.S.Writer.Write.contents) c.in-Ok-gathered.writer c.run-writer.result.1 c.run-writer.result.0 c.run-writer.ensures.judges

pub returns-in-Ok-settle-clause-files : goal.returns-in-Ok-settle-clause-files
returns-in-Ok-settle-clause-files g c =
    λ none.
    let made = c.in-Ok.made.0 in
    let s0 = c.args.store.now in
    let s1 = c.create_output.new.store in
    let s2 = c.run-writer.new.store in
    let s3 = c.settle.new.store in
    let selected = c.run-writer.result.0 in
    let written = c.take_back-written.result.1 in
    let left : Option (List ℕ) = remaining_of g.S.Reader.Read.remaining g.I.Read.remaining c.args.input in
    let is : List ℕ → Type 0 = IsSelectionFrom c.args.selection.now.limits c.args.selection.now.wanted.whole c.args.selection.now.changes
    (g.C.Chooses.choice c.args.choice.now) left in
    let begun : Begins made (g.S.Store.making s1) (g.S.Store.held s0) (g.S.Store.held s1)
    = turns_so (g.S.Store.held s0) (g.S.Store.held s1) _ _ (λ texts new h. h.0) (c.in-Ok.ensures.begun none) in
    let on : Begins made (g.S.Store.making s2) (g.S.Store.held s0) (g.S.Store.held s2)
    = subst (λ (o : Option _). Begins made (g.S.Store.making s2) (g.S.Store.held s0) o) (sym c.run-writer.ensures.kept)
    (subst (λ (m : Option (List ℕ)). Begins made m (g.S.Store.held s0) (g.S.Store.held s1)) (sym c.run-writer.ensures.making) begun) in
    let reads : CountsSelecting selected.outcome selected.look (g.S.Store.failures s0) (g.S.Store.failures s2)
    = subst (λ (n : ℕ). CountsSelecting selected.outcome selected.look n (g.S.Store.failures s2)) c.in-Ok.ensures.unfailed
    c.run-writer.ensures.reads in
    let writes : CountsSplitWriter selected.outcome 0 (times_failed written)
    = subst (λ (n : ℕ). CountsSplitWriter selected.outcome 0 n) (sym c.take_back-written.ensures.failures)
    (subst (λ (n : ℕ). CountsSplitWriter selected.outcome n (failures_of c.run-writer.result.1)) c.in-Ok-gathered.ensures.failures
    c.run-writer.ensures.failures) in
    subst
    (λ (b : Bool). Turns (g.S.Store.held s0) (g.S.Store.held s3)
    (SettlesOut c.args.out.now (g.S.Store.failures s0 + selected_faults selected.outcome selected.look) (g.S.Store.failures s3) is b))
    c.is_wanted-is_kept.ensures
    (settles c.args.out.now is g.S.Writer.Write.contents written (written_to g.S.Writer.Write.contents c.in-Ok-gathered.writer) made
    (g.S.Store.making s2) (g.S.Store.failures s2) (g.S.Store.failures s0 + selected_faults selected.outcome selected.look)
    (g.S.Store.failures s3) (g.S.Store.held s0) (g.S.Store.held s2) (g.S.Store.held s3) c.is_wanted-is_kept.result c.in-Ok.ensures.named on
    (λ le lt. few_selected selected.outcome selected.look (times_failed written) (g.S.Store.failures s0) (g.S.Store.failures s2)
    (g.S.Store.failures s3) reads writes le lt)
    (λ keeps whole fresh. kept_text c.args.selection.now.limits c.args.selection.now.wanted c.args.selection.now.changes
    (g.C.Chooses.choice c.args.choice.now) left (written_to g.S.Writer.Write.contents) c.in-Ok-gathered.writer c.run-writer.result.1 selected
    (g.S.Writer.Write.contents (writer_in written)) c.run-writer.ensures.judges (sym c.is_wanted-is_kept.ensures ∙ keeps) fresh
    (c.take_back-written.ensures.whole whole))
    (λ texts known. c.in-Ok-gathered.ensures.contents ∙ empty_so (g.S.Store.held s0) (g.S.Store.held s1) texts
    (g.S.Writer.Write.contents c.in-Ok.made.1 ≡ Some []) (λ t n. IsBegun made (g.S.Store.making s1) t n) known (c.in-Ok.ensures.begun none))
    c.in-Ok-settle.ensures.whole c.in-Ok-settle.ensures.kept c.in-Ok-settle.ensures.dropped)

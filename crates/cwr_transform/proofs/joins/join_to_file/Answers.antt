use Rattle.std.proofs.Common.{◌≡◌, ℕ, ◌≤◌, ◌+◌, Bool, true, List, [], Some, sym, ap, subst, ◌∙◌, arith}
use Rattle.std.specs.Prelude.{IfOk, Result}
use Rattle.cwr_files.specs.declared.faults.Fault.{Fault}
use Rattle.cwr_files.specs.Format.Faults.{IfErr}
use Rattle.cwr_files.specs.declared.faults.Name.TheVariants.{File}
use Rattle.cwr_files.specs.Format.Files.{HasCounted, Turns, counted_on}
use Rattle.cwr_files.specs.Format.NewFiles.{LeavesAll}
use Rattle.cwr_files.specs.Format.Written.{times_failed}
use Rattle.cwr_files.specs.Steps.NewFiles.{IsBegun}
use Rattle.cwr_endings.specs.Format.Endings.{SettlesOut}
use Rattle.cwr_endings.proofs.lemmas.Fails.{made_fails, unkept_fails}
use Rattle.cwr_endings.proofs.lemmas.Outs.{Begins, empty_so, out_dropped, settles, turns_so, unkept_so}
use Rattle.cwr_transform.specs.declared.joins.Joined.{Joined}
use Rattle.cwr_transform.specs.Format.Joins.{IsRefusedSender}
use Rattle.cwr_transform.specs.Steps.Joins.{CountsWriter, IsTextOfReaders, StopsAs, WritesJoin, judged_faults, keeps_file, writer_faults}
use Rattle.cwr_transform.proofs.lemmas.JoinFails.{sender_fails, writer_counted}
use Rattle.cwr_transform.proofs.lemmas.JoinFiles.{few_counted, sender_leaves}
use Rattle.cwr_transform.proofs.joins.join_to_file.Goals as goal

pub returns-in_default-clause-files : goal.returns-in_default-clause-files
returns-in_default-clause-files g c =
    λ none.
    let made = c.in-Ok.made.0 in
    let s0 = c.args.store.now in
    let s1 = c.create_output.new.store in
    let begun : Begins made (g.S.Store.making s1) (g.S.Store.held s0) (g.S.Store.held s1)
    = turns_so (g.S.Store.held s0) (g.S.Store.held s1) _ _ (λ texts new h. h.0) (c.in-Ok.ensures.begun none) in
    out_dropped made c.args.union.now.out.now (g.S.Store.making s1) (counted_on 0 (g.S.Store.failures s1)) (g.S.Store.failures s0)
    (g.S.Store.failures c.discard.new.store) (g.S.Store.held s0) (g.S.Store.held s1) (g.S.Store.held c.discard.new.store)
    c.in-Ok.ensures.named begun c.discard.ensures.dropped
    (λ le lt. subst (λ (n : ℕ). g.S.Store.failures c.discard.new.store ≤ n) (sym c.in-Ok.ensures.unfailed) le)

pub returns-in-Err-judged-clause-files : goal.returns-in-Err-judged-clause-files
returns-in-Err-judged-clause-files g c =
    λ none.
    let made = c.in-Ok.made.0 in
    let s0 = c.args.store.now in
    let s1 = c.create_output.new.store in
    let s2 = c.give_up.new.store in
    let times : ℕ = times_failed c.in-Some.written in
    let is : List ℕ → Type 0 = IsTextOfReaders c.args.union.now.limits c.args.union.now.wanted g.R.Source.remaining c.args.readers.now in
    let begun : Begins made (g.S.Store.making s1) (g.S.Store.held s0) (g.S.Store.held s1)
    = turns_so (g.S.Store.held s0) (g.S.Store.held s1) _ _ (λ texts new h. h.0) (c.in-Ok.ensures.begun none) in
    turns_so (g.S.Store.held s0) (g.S.Store.held s2) (LeavesAll c.args.union.now.out.now (g.S.Store.failures s0) (g.S.Store.failures s2)) _
    (λ texts new h. sender_leaves c.args.union.now.out.now (g.S.Store.failures s0) (g.S.Store.failures s2) is c.args.union.now.same_sender
    c.in-Err-judged.fault texts new
    (subst (λ (r : Result Joined Fault). IfErr r (IsRefusedSender c.args.union.now.same_sender)) c.in-Err-judged.is c.in-Some.ensures.fault) h)
    (out_dropped made c.args.union.now.out.now (g.S.Store.making s1) (counted_on times (g.S.Store.failures s1)) (g.S.Store.failures s0)
    (g.S.Store.failures s2) (g.S.Store.held s0) (g.S.Store.held s1) (g.S.Store.held s2) c.in-Ok.ensures.named begun c.give_up.ensures.dropped
    (λ le lt. few_counted times 0 (g.S.Store.failures s1) (g.S.Store.failures s2)
    (c.in-Some.ensures.failures ∙ ap judged_faults c.in-Err-judged.is)
    (subst (λ (n : ℕ). g.S.Store.failures s2 ≤ n + 0) (sym c.in-Ok.ensures.unfailed) (omega (arith, le))) lt))

pub returns-in-Ok-settle-clause-files : goal.returns-in-Ok-settle-clause-files
returns-in-Ok-settle-clause-files g c =
    λ none.
    let made = c.in-Ok.made.0 in
    let s0 = c.args.store.now in
    let s1 = c.create_output.new.store in
    let s2 = c.settle.new.store in
    let joined = c.in-Ok-judged.joined in
    let written = c.in-Some.written in
    let is : List ℕ → Type 0 = IsTextOfReaders c.args.union.now.limits c.args.union.now.wanted g.R.Source.remaining c.args.readers.now in
    let begun : Begins made (g.S.Store.making s1) (g.S.Store.held s0) (g.S.Store.held s1)
    = turns_so (g.S.Store.held s0) (g.S.Store.held s1) _ _ (λ texts new h. h.0) (c.in-Ok.ensures.begun none) in
    subst
    (λ (b : Bool). Turns (g.S.Store.held s0) (g.S.Store.held s2)
    (SettlesOut c.args.union.now.out.now (g.S.Store.failures s0 + writer_faults joined.outcome) (g.S.Store.failures s2) is b))
    c.is_wanted-is_kept.ensures
    (settles c.args.union.now.out.now is g.S.Writer.Write.contents written (g.S.Writer.Write.contents c.in-Ok.made.1) made
    (g.S.Store.making s1) (g.S.Store.failures s1) (g.S.Store.failures s0 + writer_faults joined.outcome) (g.S.Store.failures s2)
    (g.S.Store.held s0) (g.S.Store.held s1) (g.S.Store.held s2) c.is_wanted-is_kept.result c.in-Ok.ensures.named begun
    (λ le lt. few_counted (times_failed written) (writer_faults joined.outcome) (g.S.Store.failures s1) (g.S.Store.failures s2)
    (c.in-Some.ensures.failures ∙ ap judged_faults c.in-Ok-judged.is)
    (subst (λ (n : ℕ). g.S.Store.failures s2 ≤ n + writer_faults joined.outcome) (sym c.in-Ok.ensures.unfailed) le) lt)
    (λ keeps. subst
    (λ (r : Result Joined Fault). IfOk r (λ it. keeps_file c.args.union.now.wanted.whole it ≡ true
    → WritesJoin c.args.union.now.limits c.args.union.now.wanted g.R.Source.remaining c.args.readers.now
    (g.S.Writer.Write.contents c.in-Ok.made.1) g.S.Writer.Write.contents written)) c.in-Ok-judged.is c.in-Some.ensures.written
    (sym c.is_wanted-is_kept.ensures ∙ keeps))
    (λ texts known. empty_so (g.S.Store.held s0) (g.S.Store.held s1) texts (g.S.Writer.Write.contents c.in-Ok.made.1 ≡ Some [])
    (λ t n. IsBegun made (g.S.Store.making s1) t n) known (c.in-Ok.ensures.begun none))
    c.in-Ok-settle.ensures.whole c.in-Ok-settle.ensures.kept c.in-Ok-settle.ensures.dropped)

pub returns-clause-files : goal.returns-clause-files
returns-clause-files g c =
    λ none.
    let made = c.in-Ok.made.0 in
    let s0 = c.args.store.now in
    let s1 = c.create_output.new.store in
    let s2 = c.settle.new.store in
    let is : List ℕ → Type 0 = IsTextOfReaders c.args.union.now.limits c.args.union.now.wanted g.R.Source.remaining c.args.readers.now in
    let begun : Begins made (g.S.Store.making s1) (g.S.Store.held s0) (g.S.Store.held s1)
    = turns_so (g.S.Store.held s0) (g.S.Store.held s1) _ _ (λ texts new h. h.0) (c.in-Ok.ensures.begun none) in
    turns_so (g.S.Store.held s0) (g.S.Store.held s2) (LeavesAll c.args.union.now.out.now (g.S.Store.failures s0 + 1) (g.S.Store.failures s2)) _
    (λ texts new h. unkept_so c.args.union.now.out.now (g.S.Store.failures s0) (g.S.Store.failures s2) is (File c.args.union.now.out)
    c.in-Err-settle.fault texts new c.in-Err-settle.ensures.fault.1 h)
    (out_dropped made c.args.union.now.out.now (g.S.Store.making s1) (g.S.Store.failures s1 + 1) (g.S.Store.failures s0 + 1)
    (g.S.Store.failures s2) (g.S.Store.held s0) (g.S.Store.held s1) (g.S.Store.held s2) c.in-Ok.ensures.named begun
    (c.in-Err-settle.ensures.unkept c.in-Err-settle.ensures.fault.0)
    (λ le lt. subst (λ (n : ℕ). g.S.Store.failures s2 ≤ n + 1) (sym c.in-Ok.ensures.unfailed) le))

pub returns-in-Err-clause-unmade : goal.returns-in-Err-clause-unmade
returns-in-Err-clause-unmade g c =
    let s0 = c.args.store.now in
    let s1 = c.create_output.new.store in
    made_fails c.args.union.now.out (g.S.Store.making s0) (g.S.Store.held s0) (g.S.Store.held s1) c.in-Err.fault (g.S.Store.failures s0)
    (g.S.Store.failures s1) c.in-Err.ensures.unmade c.in-Err.ensures.failed

pub returns-in-Err-judged-clause-unmade : goal.returns-in-Err-judged-clause-unmade
returns-in-Err-judged-clause-unmade g c =
    let s0 = c.args.store.now in
    let s2 = c.give_up.new.store in
    sender_fails c.args.union.now.out (g.S.Store.making s0) (g.S.Store.held s0) (g.S.Store.held s2) c.args.union.now.same_sender
    c.in-Err-judged.fault (g.S.Store.failures s0) (g.S.Store.failures s2)
    (subst (λ (r : Result Joined Fault). IfErr r (IsRefusedSender c.args.union.now.same_sender)) c.in-Err-judged.is c.in-Some.ensures.fault)

pub returns-in-Ok-settle-clause-counted : goal.returns-in-Ok-settle-clause-counted
returns-in-Ok-settle-clause-counted g c =
    let s1 = c.create_output.new.store in
    let s2 = c.settle.new.store in
    let joined = c.in-Ok-judged.joined in
    subst (λ (n : ℕ). CountsWriter joined.outcome n (g.S.Store.failures s2)) c.in-Ok.ensures.unfailed
    (writer_counted c.args.union.now.wanted.whole joined.outcome joined.found joined.after c.is_wanted-is_kept.result
    (times_failed c.in-Some.written) (g.S.Store.failures s1) (g.S.Store.failures s2)
    (subst (λ (r : Result Joined Fault). IfOk r (λ it. StopsAs it.outcome it.after)) c.in-Ok-judged.is c.in-Some.ensures.stops)
    c.is_wanted-is_kept.ensures (c.in-Some.ensures.failures ∙ ap judged_faults c.in-Ok-judged.is) c.settle.ensures.failures
    c.settle.ensures.given_up)

pub returns-clause-unmade : goal.returns-clause-unmade
returns-clause-unmade g c =
    let s0 = c.args.store.now in
    let s1 = c.create_output.new.store in
    let s2 = c.settle.new.store in
    unkept_fails c.args.union.now.out (g.S.Store.making s0) (g.S.Store.held s0) (g.S.Store.held s2) c.in-Err-settle.fault
    (g.S.Store.failures s0) (g.S.Store.failures s2) c.in-Err-settle.ensures.fault.1
    (subst (λ (n : ℕ). HasCounted n (g.S.Store.failures s2)) c.in-Ok.ensures.unfailed c.in-Err-settle.ensures.counted)

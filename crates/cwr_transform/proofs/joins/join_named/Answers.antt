use Rattle.std.proofs.Common.{rules, ◌<◌, ℕ, ◌+◌, List, Option, map, sym, subst, ◌∙◌, arith}
use Rattle.std.proofs.lemmas.Bool.{eqb-false, eqb-true}
use Rattle.cwr_devices.specs.Steps.Sources.{failures_of}
use Rattle.std.specs.Prelude.{Err}
use Rattle.cwr_files.specs.Format.Files.{HasCounted, Turns}
use Rattle.cwr_files.specs.Steps.NewFiles.{HasKeptCount}
use Rattle.cwr_endings.specs.declared.stops.Stop.TheVariants as stops
use Rattle.cwr_endings.specs.Format.Endings.{SettlesOut}
use Rattle.cwr_endings.proofs.lemmas.Fails.{fault_on, refused_fails, union_fails}
use Rattle.cwr_endings.proofs.lemmas.Outs.{settles_as, settles_since, turns_so, writes_as, writes_on, writes_since}
use Rattle.cwr_transform.specs.Format.Joins.{IsTextOfJoin}
use Rattle.cwr_transform.specs.Steps.Joins.{HasFailed, HaveTexts, IsTextOfReaders, join_faults, keeps_file, left_of, writer_faults}
use Rattle.cwr_transform.proofs.lemmas.JoinFails.{joined_counted, unread_fails}
use Rattle.cwr_transform.proofs.lemmas.JoinFiles.{named_settles}
use Rattle.cwr_transform.proofs.lemmas.JoinInputs.{are_there, as_many, front_same, have_texts}
use Rattle.cwr_transform.proofs.joins.join_named.Goals as goal

pub returns-then-is_empty-clause-some : goal.returns-then-is_empty-clause-some
returns-then-is_empty-clause-some g c =
    sym (as_many (g.S.Store.held c.args.store.now) (g.I.Read.remaining c.args.standard)
    (left_of g.S.Reader.Read.remaining g.I.Read.remaining) c.args.names.now c.in-Ok.readers.items c.in-Ok.ensures.opened)
    ∙ sym c.in-Ok.readers.ok.0 ∙ eqb-true c.in-Ok.readers.len 0 (sym c.is_empty.ensures ∙ c.if-is_empty.true)

pub returns-in-Err-join_to_file-clause-files : goal.returns-in-Err-join_to_file-clause-files
returns-in-Err-join_to_file-clause-files g c =
    λ none.
    let s0 = c.args.store.now in
    let s2 = c.refuse_out.new.store in
    let s3 = c.join_to_file.new.store in
    let out : List ℕ = c.args.union.now.out.now in
    let lefts = left_of g.S.Reader.Read.remaining g.I.Read.remaining in
    let is : List ℕ → Type 0 = IsTextOfReaders c.args.union.now.limits c.args.union.now.wanted lefts c.as_mut_slice.result.now in
    let other : List ℕ → Type 0
    = IsTextOfJoin c.args.union.now.limits c.args.union.now.wanted (g.S.Store.held s0) (g.I.Read.remaining c.args.standard)
    (map (λ name. name.now) c.args.names.now) in
    let kept : HasKeptCount (g.S.Store.failures s0) (g.S.Store.failures s2)
    = subst (λ (n : ℕ). HasKeptCount n (g.S.Store.failures s2)) c.in-Ok.ensures.failures c.refuse_out.ensures.failures in
    writes_on (g.S.Store.held s0) (g.S.Store.held s2) (g.S.Store.held s3) _ (c.refuse_out.ensures.kept ∙ c.open_inputs.ensures.kept)
    (turns_so (g.S.Store.held s2) (g.S.Store.held s3) _ _
    (λ texts new h. writes_since out (g.S.Store.failures s0) (g.S.Store.failures s2) (g.S.Store.failures s3) other
    (Err (stops.Fault c.in-Err-join_to_file.fault)) texts new kept
    (writes_as out (g.S.Store.failures s2) (g.S.Store.failures s3) is other
    (Err (stops.Fault c.in-Err-join_to_file.fault)) texts new
    (λ text has texts are. has texts
    (subst (λ (l : List _). HaveTexts lefts l texts) (sym c.as_mut_slice.ensures.value)
    (have_texts (g.S.Store.held s0) (g.I.Read.remaining c.args.standard) lefts c.args.names.now c.in-Ok.readers.items texts
    c.in-Ok.ensures.opened are))) h))
    (c.in-Err-join_to_file.ensures.files (c.refuse_out.ensures.making ∙ c.open_inputs.ensures.making ∙ none)))

pub returns-clause-some : goal.returns-clause-some
returns-clause-some g c =
    subst (λ (n : ℕ). 0 < n)
    (as_many (g.S.Store.held c.args.store.now) (g.I.Read.remaining c.args.standard)
    (left_of g.S.Reader.Read.remaining g.I.Read.remaining) c.args.names.now c.in-Ok.readers.items c.in-Ok.ensures.opened)
    (omega (arith, c.in-Ok.readers.ok.0, eqb-false c.in-Ok.readers.len 0 (sym c.is_empty.ensures ∙ c.if-is_empty.false)))

pub returns-clause-judged : goal.returns-clause-judged
returns-clause-judged g c = (
  are_there (g.S.Store.held c.args.store.now) (g.I.Read.remaining c.args.standard)
      (left_of g.S.Reader.Read.remaining g.I.Read.remaining) c.args.names.now c.in-Ok.readers.items c.in-Ok.ensures.opened,
  λ texts are. c.in-Ok-join_to_file.ensures.judged texts
      (subst (λ (l : List _). HaveTexts (left_of g.S.Reader.Read.remaining g.I.Read.remaining) l texts) (sym c.as_mut_slice.ensures.value)
      (have_texts (g.S.Store.held c.args.store.now) (g.I.Read.remaining c.args.standard) (left_of g.S.Reader.Read.remaining g.I.Read.remaining) c.args.names.now c.in-Ok.readers.items texts
      c.in-Ok.ensures.opened are)),
  c.in-Ok-join_to_file.ensures.stops,
)

pub returns-clause-files : goal.returns-clause-files
returns-clause-files g c =
    λ none.
    let s0 = c.args.store.now in
    let s2 = c.refuse_out.new.store in
    let s3 = c.join_to_file.new.store in
    let s4 = c.end_inputs-failed.new.store in
    let out : List ℕ = c.args.union.now.out.now in
    let lefts = left_of g.S.Reader.Read.remaining g.I.Read.remaining in
    let joined = c.in-Ok-join_to_file.joined in
    let is : List ℕ → Type 0 = IsTextOfReaders c.args.union.now.limits c.args.union.now.wanted lefts c.as_mut_slice.result.now in
    let other : List ℕ → Type 0
    = IsTextOfJoin c.args.union.now.limits c.args.union.now.wanted (g.S.Store.held s0) (g.I.Read.remaining c.args.standard)
    (map (λ name. name.now) c.args.names.now) in
    let kept : HasKeptCount (g.S.Store.failures s0) (g.S.Store.failures s2)
    = subst (λ (n : ℕ). HasKeptCount n (g.S.Store.failures s2)) c.in-Ok.ensures.failures c.refuse_out.ensures.failures in
    writes_on (g.S.Store.held s0) (g.S.Store.held s2) (g.S.Store.held s4) _ (c.refuse_out.ensures.kept ∙ c.open_inputs.ensures.kept)
    (subst (λ (o : Option _). Turns (g.S.Store.held s2) o (SettlesOut out (g.S.Store.failures s0 + join_faults joined.outcome joined.after)
    (g.S.Store.failures s4) other (keeps_file c.args.union.now.wanted.whole joined))) (sym c.end_inputs-failed.ensures.kept)
    (turns_so (g.S.Store.held s2) (g.S.Store.held s3) _ _
    (λ texts new h. named_settles failures_of c.join_to_file.new.readers joined.outcome joined.after out other (keeps_file c.args.union.now.wanted.whole joined)
    (g.S.Store.failures s0) (g.S.Store.failures s3) (g.S.Store.failures s4) texts new
    c.in-Ok-join_to_file.ensures.failed c.end_inputs-failed.ensures.failures
    (subst
    (λ (l : List _). HasFailed failures_of l → HasCounted (g.S.Store.failures s3) (g.S.Store.failures s4))
    (front_same c.in-Ok.readers.len c.join_to_file.new.readers _ (search rules)) c.end_inputs-failed.ensures.failed)
    (settles_since out (g.S.Store.failures s0) (g.S.Store.failures s2) (writer_faults joined.outcome) (g.S.Store.failures s3) other
    (keeps_file c.args.union.now.wanted.whole joined) texts new kept
    (settles_as out (g.S.Store.failures s2 + writer_faults joined.outcome) (g.S.Store.failures s3) is other
    (keeps_file c.args.union.now.wanted.whole joined) texts new (λ text has texts are. has texts
    (subst (λ (l : List _). HaveTexts lefts l texts) (sym c.as_mut_slice.ensures.value)
    (have_texts (g.S.Store.held s0) (g.I.Read.remaining c.args.standard) lefts c.args.names.now c.in-Ok.readers.items texts
    c.in-Ok.ensures.opened are))) h)))
    (c.in-Ok-join_to_file.ensures.files (c.refuse_out.ensures.making ∙ c.open_inputs.ensures.making ∙ none))))

pub returns-in-Err-clause-failed : goal.returns-in-Err-clause-failed
returns-in-Err-clause-failed g c =
    let s0 = c.args.store.now in
    let s1 = c.open_inputs.new.store in
    unread_fails c.args.union.now.out (g.S.Store.making s0) (g.S.Store.held s0) (g.S.Store.held s1) c.in-Err.fault (g.S.Store.failures s0)
    (g.S.Store.failures s1) c.in-Err.ensures.counted

pub returns-in-Err-refuse_out-clause-failed : goal.returns-in-Err-refuse_out-clause-failed
returns-in-Err-refuse_out-clause-failed g c =
    let s0 = c.args.store.now in
    let s2 = c.refuse_out.new.store in
    union_fails c.args.union.now.out (g.S.Store.making s0) (g.S.Store.held s0) (g.S.Store.held s2) c.in-Err-refuse_out.fault
    (g.S.Store.failures s0) (g.S.Store.failures s2)
    (refused_fails c.args.union.now.out c.args.union.now.only_new (g.S.Store.making s0) (g.S.Store.held s0) (g.S.Store.held s2)
    c.in-Err-refuse_out.fault (g.S.Store.failures s0) (g.S.Store.failures s2) c.in-Err-refuse_out.ensures.refused)

pub returns-in-Err-join_to_file-clause-failed : goal.returns-in-Err-join_to_file-clause-failed
returns-in-Err-join_to_file-clause-failed g c =
    let s0 = c.args.store.now in
    let s2 = c.refuse_out.new.store in
    let s3 = c.join_to_file.new.store in
    let out = c.args.union.now.out in
    let fault = c.in-Err-join_to_file.fault in
    let kept : HasKeptCount (g.S.Store.failures s0) (g.S.Store.failures s2)
    = subst (λ (n : ℕ). HasKeptCount n (g.S.Store.failures s2)) c.in-Ok.ensures.failures c.refuse_out.ensures.failures in
    union_fails out (g.S.Store.making s0) (g.S.Store.held s0) (g.S.Store.held s3) fault (g.S.Store.failures s0) (g.S.Store.failures s3)
    (fault_on out (g.S.Store.making s0) (g.S.Store.making s2) (g.S.Store.held s0) (g.S.Store.held s2) (g.S.Store.held s3) fault
    (g.S.Store.failures s0) (g.S.Store.failures s2) (g.S.Store.failures s3) (c.refuse_out.ensures.making ∙ c.open_inputs.ensures.making)
    (c.refuse_out.ensures.kept ∙ c.open_inputs.ensures.kept) kept c.in-Err-join_to_file.ensures.unmade)

pub returns-clause-counted : goal.returns-clause-counted
returns-clause-counted g c =
    let s0 = c.args.store.now in
    let s2 = c.refuse_out.new.store in
    let s3 = c.join_to_file.new.store in
    let s4 = c.end_inputs-failed.new.store in
    let joined = c.in-Ok-join_to_file.joined in
    let kept : HasKeptCount (g.S.Store.failures s0) (g.S.Store.failures s2)
    = subst (λ (n : ℕ). HasKeptCount n (g.S.Store.failures s2)) c.in-Ok.ensures.failures c.refuse_out.ensures.failures in
    joined_counted (g.S.Store.failures s0) (g.S.Store.failures s2) (g.S.Store.failures s3) (g.S.Store.failures s4) kept
    c.end_inputs-failed.ensures.failures failures_of c.join_to_file.new.readers joined.outcome joined.after
    c.in-Ok-join_to_file.ensures.failed c.in-Ok-join_to_file.ensures.stops c.in-Ok-join_to_file.ensures.counted
    (subst (λ (l : List _). HasFailed failures_of l → HasCounted (g.S.Store.failures s3) (g.S.Store.failures s4))
    (front_same c.in-Ok.readers.len c.join_to_file.new.readers _ (search rules)) c.end_inputs-failed.ensures.failed)

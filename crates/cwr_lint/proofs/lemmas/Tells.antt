-- A whole lint: a check up to the first fault, and what follows it.
use Rattle.std.proofs.Common.{◌≡◌, ℕ, ◌-◌, ◌≤◌, List, [], ◌∷◌, ◌++◌, length, Option, Some, None, refl, sym, ap, subst, ◌∙◌, arith}
use Rattle.std.proofs.Common.{inl, inr, append_assoc, append-nil, ap₂, drop}
use Rattle.std.specs.Prelude.{◌⊎◌, ◌^◌, Bool, true, false, Result, Ok, Err, IfErr, IfOk, IfSome, IsFalse, IsSomeAnd, OnOk}
use Rattle.std.specs.List.{AllByRecursion, list_any}
use Rattle.std.specs.Io.KnownBytes.{Appends, Consumes, IsAtEnd}
use Rattle.std.proofs.lemmas.List.{length-append}
use Rattle.cwr_values.specs.Format.Begins.{rows_so_far}
use Rattle.cwr_values.proofs.lemmas.RowAt.{length-rows_so_far}
use Rattle.cwr_judge.proofs.lemmas.LineRecords.{as_many}
use Rattle.cwr_decode.specs.declared.machine.State.{State}
use Rattle.cwr_decode.specs.declared.readings.LastRead.{LastRead}
use Rattle.cwr_decode.specs.declared.readings.ReadFault.TheVariants as read_faults
use Rattle.cwr_decode.specs.Steps.Represents.{IsStopped, RepresentsIn, text_of}
use Rattle.cwr_decode.specs.Steps.Runs.{StopsRun}
use Rattle.cwr_decode.proofs.lemmas.ClosedTexts.{text_of-push}
use Rattle.cwr_causes.proofs.lemmas.RefusedLines.{refused_last}
use Rattle.cwr_tools.specs.Steps.Verdicts.{IsReadLast, IsRightVerdict, StopsAfter, StopsAt}
use Rattle.cwr_advise.specs.Format.AdviceLines.{said_in}
use Rattle.cwr_advise.specs.Steps.AdviceCounts.{counts_of}
use Rattle.cwr_lint.specs.Format.FaultsOfLines.{Asking}
use Rattle.cwr_lint.specs.Format.Wanted.{Wanted, advice_when, asking_for, asking_so, lines_before_fault, lines_linted, lines_up_to}
use Rattle.cwr_lint.specs.Format.Wanted.{lines_with}
use Rattle.cwr_lint.specs.declared.raw_lines.RawLine.{RawLine}
use Rattle.cwr_lint.specs.Steps.CutShort.{AppendsUpTo, IsToldUpTo, IsUnread, TellsAfterUpTo, TellsLastUpTo}
use Rattle.cwr_lint.specs.Steps.LinesRead.{GoesOn, HoldsRaw, IsAllRead, IsTextOf, ReadsLast, spelled}
use Rattle.cwr_lint.specs.Steps.Runs.{AreWords, TellsAfter, TellsRun}
use Rattle.cwr_lint_lines.specs.Steps.Fronts.{state_at}
use Rattle.cwr_lint.specs.Steps.Walks.{IsTold, Walk, begins_at}
use Rattle.cwr_shape.specs.declared.stages.Stage.{Stage}
use Rattle.cwr_shape.specs.declared.tallies.Counts.{Counts}
use Rattle.std.proofs.KnownBytes.{Appends-nil, Appends-trans, Consumes-nil, Consumes-trans}
use Rattle.cwr_shape.specs.declared.limits.Limits.{Limits}
use Rattle.cwr_judge.specs.declared.refusals.Refusal.{Refusal}
use Rattle.cwr_tools.specs.Format.Reports.{ItemLines, JudgesAccepted, text_on}
use Rattle.cwr_tools.specs.Format.Watching.{findings_with}
use Rattle.cwr_tools.specs.Format.Verdicts.{JudgesText}
use Rattle.cwr_tools.specs.declared.verdicts.Verdict.{Verdict}
use Rattle.cwr_tools.specs.declared.verdicts.Verdict.TheVariants.{Good, Refused, Truncated}
use Rattle.cwr_tools.specs.declared.verdicts.ToolFault.{ToolFault}
use Rattle.cwr_tools.specs.Format.Texts.{good_verdict}
use Rattle.cwr_values.specs.declared.items.Item.{Item}
use Rattle.cwr_values.specs.Format.Values.{TransmissionValue}
use Rattle.cwr_judge.specs.Format.Ends.{IsAccepted}
use Rattle.cwr_judge.specs.Format.Items.{value_items}
use Rattle.cwr_judge.proofs.lemmas.Accepted.{accepted_once}
use Rattle.cwr_tools.specs.Steps.LastSteps.{GoesOnAfter}
use Rattle.cwr_tools.specs.Steps.Reports.{Reports, StandsAfter, StandsAtEnd}
use Rattle.cwr_tools.proofs.lemmas.LastSteps.{nothing_more}
use Rattle.cwr_advice.specs.declared.said.Said.{Said}
use Rattle.cwr_lines.specs.Format.Lines.{is_lf}
use Rattle.cwr_lint.specs.Steps.Lints.{AreLinesRead, AreWordsUpTo, HasBegun, Lints, SaysFaults, Tells, TellsFaults, TellsOn, TellsUpToFault}
use Rattle.cwr_lint.specs.Steps.Puts.{AppendsSuch}
use Rattle.cwr_lint.proofs.lemmas.CutShort.{cut_as}

-- a fault is no verdict
err_ok : (fault : ToolFault) (verdict : Verdict) → Err fault ≡ Ok verdict → ⊥
err_ok fault verdict e = subst (λ (r : Result Verdict ToolFault). IfOk r (λ v. ⊥)) e tt

-- nothing follows a verdict that is no refusal: what was written is what a check writes
tells_good : {W : Type 0} (wanted : Wanted) (limits : Limits) (before after : Option (List ℕ))
    (contents : W → Option (List ℕ)) (old new : W) (groups transactions records : ℕ)
    → Reports (lines_up_to wanted) limits before after contents old new (Ok (Good groups transactions records))
    → Tells wanted limits before after contents old new (Good groups transactions records)
tells_good wanted limits before after contents old new groups transactions records h =
    good_with wanted.advised wanted.explained wanted.all h
  where
    good_with : (a e m : Bool)
        → Reports (lines_before_fault a e m) limits before after contents old new (Ok (Good groups transactions records))
        → Reports (lines_with a e m) limits before after contents old new (Ok (Good groups transactions records))
    good_with false e m h = h
    good_with true e m h = h

tells_truncated : {W : Type 0} (wanted : Wanted) (limits : Limits) (before after : Option (List ℕ))
    (contents : W → Option (List ℕ)) (old new : W) (records : ℕ)
    → Reports (lines_up_to wanted) limits before after contents old new (Ok (Truncated records))
    → Reports (lines_linted wanted) limits before after contents old new (Ok (Truncated records))
tells_truncated wanted limits before after contents old new records h =
    truncated_with wanted.advised wanted.explained wanted.all h
  where
    truncated_with : (a e m : Bool)
        → Reports (lines_before_fault a e m) limits before after contents old new (Ok (Truncated records))
        → Reports (lines_with a e m) limits before after contents old new (Ok (Truncated records))
    truncated_with false e m h = h
    truncated_with true e m h = h

-- all was read, by the bytes that are known
at_end_kept : (left after : Option (List ℕ)) (bytes : List ℕ) → Consumes left after bytes → IsAtEnd left
    → IfSome left (λ known. IsAtEnd after)
at_end_kept None after bytes c e = tt
at_end_kept (Some xs) None bytes c e = absurd c
at_end_kept (Some xs) (Some ys) bytes c e = nil_end bytes ys (sym c ∙ e)
  where
    nil_end : (bytes ys : List ℕ) → bytes ++ ys ≡ [] → ys ≡ []
    nil_end [] ys e = e
    nil_end (b ∷ bytes) ys e = absurd (omega (arith, ap length e))

all_read : (before left between after : Option (List ℕ)) (input first later : List ℕ) → Consumes before left input
    → Consumes left between first → Consumes between after later → IsAllRead left between first ⊎ IsAllRead between after later
    → IfSome before (λ known. IsAtEnd after ⊎ (2 ^ 64 - 1 ≤ length known))
all_read None left between after input first later a b c r = tt
all_read (Some known) None between after input first later a b c r = absurd a
all_read (Some known) (Some xs) None after input first later a b c r = absurd b
all_read (Some known) (Some xs) (Some ys) None input first later a b c r = absurd c
all_read (Some known) (Some xs) (Some ys) (Some zs) input first later a b c (inl (inl e)) =
    inl (at_end_kept (Some ys) (Some zs) later c e)
all_read (Some known) (Some xs) (Some ys) (Some zs) input first later a b c (inl (inr n)) =
    inr (omega (arith, n, ap length a, length-append input xs, ap length b, length-append first ys))
all_read (Some known) (Some xs) (Some ys) (Some zs) input first later a b c (inr (inl e)) = inl e
all_read (Some known) (Some xs) (Some ys) (Some zs) input first later a b c (inr (inr n)) =
    inr (omega
    (arith, n, ap length a, length-append input xs, ap length b, length-append first ys, ap length c, length-append later zs))

-- of a refusal nothing is written
refused_text : (advised explained all : Bool) (given : List Item) (refusal : Refusal)
    → text_on (lines_before_fault advised explained all) given (Refused refusal) ≡ (lines_with advised explained all).lines given
refused_text false explained all given refusal = append-nil ((lines_with false explained all).lines given)
refused_text true explained all given refusal = append-nil ((lines_with true explained all).lines given)

-- what is asked for, how many findings were told, and how much advice came from each rule, by what was heard before the same stop
pub record Hears (wanted : Wanted) (limits : Limits) (before left : Option (List ℕ)) (refusal : Refusal) (asking : Asking)
    (found : ℕ) (advice : List ℕ) : Type 0 where
  pub heard : List Item
  pub stopped : StopsAfter limits (read_faults.Refused refusal) before left heard
  pub asks : asking ≡ asking_for wanted (said_in heard)
  pub counted : found ≡ findings_with 0 heard
  pub advised : advice ≡ counts_of (advice_when wanted.advised heard)

-- what is held at the first fault, where the stage, the counts, the findings and the advice are the same
begins_same : {stage other : Stage} {counts more : Counts} {found told : ℕ} {advice heard : List ℕ} (n : ℕ) → stage ≡ other
    → counts ≡ more → found ≡ told → advice ≡ heard
    → begins_at (state_at stage counts n) found advice ≡ begins_at (state_at other more n) told heard
begins_same n e f g h = λ i. begins_at (state_at (e i) (f i) n) (g i) (h i)

-- the faults follow
built : {W : Type 0} (wanted : Wanted) (limits : Limits) (before left after : Option (List ℕ)) (contents : W → Option (List ℕ))
    (old between new : W) (refusal : Refusal) (asking : Asking) (found : ℕ) (advice : List ℕ) (last : LastRead) (text : List ℕ)
    → Reports (lines_up_to wanted) limits before left contents old between (Ok (Refused refusal))
    → (s : StopsAt limits (read_faults.Refused refusal) before left last)
    → (x : Hears wanted limits before left refusal asking found advice)
    → (t : TellsRun asking (begins_at (state_at last.stage last.counts (refusal.rec - 1)) found advice) refusal last.bytes left after text)
    → Appends (contents between) (contents new) text
    → (refused : List ℕ) → HoldsRaw refused t.raw → IfSome before (λ known. (bytes : List ℕ) × Consumes before after bytes
    × AreLinesRead refusal s.0.decoder.tally t.tells.last bytes refused t.tells.lines)
    → TellsFaults wanted limits before after contents old new refusal
built wanted limits before left after contents old between new refusal asking found advice last text h s x t written refused holds read =
    record {
      given = h.0;
      left = left;
      stopped = h.1;
      more = t.read.bytes ++ t.tells.bytes;
      taken = Consumes-trans left t.between after t.read.bytes t.tells.bytes t.read.taken t.tells.taken;
      refused = refused;
      lines = t.tells.lines;
      over = t.tells.over;
      text = text;
      last = t.tells.last;
      tally = s.0.decoder.tally;
      heard = x.heard;
      heard_before = x.stopped;
      told =
          subst (λ (w : Walk). IsTold (asking_for wanted (said_in x.heard)) w refusal refused t.tells.lines t.tells.over text)
          (begins_same (refusal.rec - 1) s.1.0 s.1.1 x.counted x.advised)
          (subst (λ (a : Asking). IsTold a (begins_at (state_at last.stage last.counts (refusal.rec - 1)) found advice) refusal refused
          t.tells.lines t.tells.over text) x.asks (t.tells.told refused holds));
      written =
          subst (λ (l : List ℕ). Appends (contents old) (contents new) (l ++ text))
          (refused_text wanted.advised wanted.explained wanted.all h.0 refusal)
          (Appends-trans (contents old) (contents between) (contents new) (text_on (lines_up_to wanted) h.0 (Refused refusal)) text
          h.2 written);
      read = read;
      cut =
          λ e. all_read before left t.between after s.0.read.input t.read.bytes t.tells.bytes s.0.read.consumed t.read.taken
          t.tells.taken (rest (t.tells.cut e));
      ends = λ over. t.tells.ends over refused holds;
      all =
          λ e. all_read before left t.between after s.0.read.input t.read.bytes t.tells.bytes s.0.read.consumed t.read.taken
          t.tells.taken (rest (t.tells.all e));
    } where
      rest : (t.raw.ended ≡ false) ⊎ IsAllRead t.between after t.tells.bytes
          → IsAllRead left t.between t.read.bytes ⊎ IsAllRead t.between after t.tells.bytes
      rest (inl e) = inl (t.read.all e)
      rest (inr r) = inr r

-- the bytes that were read are the text of these lines
lines_read : (limits : Limits) (known : List ℕ) (left between after : Option (List ℕ)) (refusal : Refusal) (last : LastRead)
    (raw : RawLine) (more : List ℕ) (lines : List (List ℕ)) (ended : Bool)
    → (s : StopsAt limits (read_faults.Refused refusal) (Some known) left last) → ReadsLast left between last.bytes raw
    → Consumes between after more → GoesOn raw.ended more lines ended
    → AllByRecursion (λ line. IsFalse (list_any is_lf line)) lines
    → (refused : List ℕ) × HoldsRaw refused raw × (bytes : List ℕ) × Consumes (Some known) after bytes
    × AreLinesRead refusal s.0.decoder.tally ended bytes refused lines
lines_read limits known left between after refusal last raw more lines ended s r taken goes no_lf = (
  stopped.line.bytes ++ found.0,
  found.1,
  stop.read.input ++ (r.bytes ++ more),
  Consumes-trans (Some known) left after stop.read.input (r.bytes ++ more) stop.read.consumed
      (Consumes-trans left between after r.bytes more r.taken taken),
  record {
    front = stopped.lines;
    records = stopped.records;
    in_order = stopped.read.in_order;
    rows = stopped.read.rows;
    counted = stopped.read.counted;
    no_lf = (found.1.no_lf, no_lf);
    number =
        omega (
          arith,
          stopped.number,
          as_many (rows_so_far stopped.records) stopped.lines stopped.read.rows,
          length-rows_so_far stopped.records,
        );
    text =
        subst (λ (l : List (List ℕ)). IsTextOf ended (stop.read.input ++ (r.bytes ++ more)) l)
        (append_assoc stopped.lines ((stopped.line.bytes ++ found.0) ∷ []) lines)
        (subst (λ (l : List ℕ). IsTextOf ended l ((stopped.lines ++ (stopped.line.bytes ++ found.0) ∷ []) ++ lines))
        (append_assoc stop.read.input r.bytes more)
        (goes (stop.read.input ++ r.bytes) (stopped.lines ++ (stopped.line.bytes ++ found.0) ∷ [])
        (first_text raw.ended found.2)));
  },
) where
  stop : StopsRun limits (read_faults.Refused refusal) (Some known) left
  stop = s.0

  stopped : IsStopped s.0.decoder s.0.read.input s.0.given refusal
  stopped = subst (λ (state : State). RepresentsIn state s.0.decoder s.0.read.input s.0.given) s.0.leaves s.0.read.stands.here

  found : (rest : List ℕ) × HoldsRaw (stopped.line.bytes ++ rest) raw
      × (s.0.read.input ++ r.bytes ≡ text_of stopped.lines ++ spelled raw.ended (stopped.line.bytes ++ rest))
  found =
      r.line s.0.read.input (text_of stopped.lines) stopped.line.bytes s.2
      (refused_last s.0.decoder s.0.read.input s.0.given refusal stopped)

  first_text : (b : Bool) → s.0.read.input ++ r.bytes ≡ text_of stopped.lines ++ spelled b (stopped.line.bytes ++ found.0)
      → IsTextOf b (s.0.read.input ++ r.bytes) (stopped.lines ++ (stopped.line.bytes ++ found.0) ∷ [])
  first_text true e = e ∙ sym (text_of-push stopped.lines (stopped.line.bytes ++ found.0))
  first_text false e =
      ap (λ (l : List ℕ). l ++ 10 ∷ []) e ∙ append_assoc (text_of stopped.lines) (stopped.line.bytes ++ found.0) (10 ∷ [])
      ∙ sym (text_of-push stopped.lines (stopped.line.bytes ++ found.0))

tells_faults : {W : Type 0} (wanted : Wanted) (limits : Limits) (before left after : Option (List ℕ))
    (contents : W → Option (List ℕ)) (old between new : W) (refusal : Refusal) (asking : Asking) (found : ℕ) (advice : List ℕ) (last : LastRead) (text : List ℕ)
    → Reports (lines_up_to wanted) limits before left contents old between (Ok (Refused refusal))
    → StopsAt limits (read_faults.Refused refusal) before left last → Hears wanted limits before left refusal asking found advice
    → TellsRun asking (begins_at (state_at last.stage last.counts (refusal.rec - 1)) found advice) refusal last.bytes left after text
    → Appends (contents between) (contents new) text
    → Tells wanted limits before after contents old new (Refused refusal)
tells_faults wanted limits None left after contents old between new refusal asking found advice last text h s x t written =
    built wanted limits None left after contents old between new refusal asking found advice last text h s x t written t.held.line t.held.holds
    tt
tells_faults wanted limits (Some known) left after contents old between new refusal asking found advice last text h s x t written =
    let parts =
    lines_read limits known left t.between after refusal last t.raw t.tells.bytes t.tells.lines t.tells.last s t.read t.tells.taken
    t.tells.goes t.tells.no_lf in
    built wanted limits (Some known) left after contents old between new refusal asking found advice last text h s x t written parts.0 parts.1
    (parts.2, parts.3, parts.4)

-- what is told up to a fault
built_up_to : (wanted : Wanted) (limits : Limits) (before left : Option (List ℕ)) (refusal : Refusal) (asking : Asking) (found : ℕ) (advice : List ℕ)
    (last : LastRead) (text : List ℕ) → (s : StopsAt limits (read_faults.Refused refusal) before left last)
    → Hears wanted limits before left refusal asking found advice
    → (t : TellsLastUpTo asking (begins_at (state_at last.stage last.counts (refusal.rec - 1)) found advice) refusal last.bytes left text)
    → (refused : List ℕ) → HoldsRaw refused t.raw
    → IfSome before (λ known. (bytes : List ℕ) × (now : Option (List ℕ)) × Consumes before now bytes
    × AreLinesRead refusal s.0.decoder.tally t.tells.last bytes refused t.tells.lines)
    → TellsUpToFault wanted limits before left refusal text
built_up_to wanted limits before left refusal asking found advice last text s x t refused holds read = record {
  refused = refused;
  lines = t.tells.lines;
  last = t.tells.last;
  tally = s.0.decoder.tally;
  heard = x.heard;
  heard_before = x.stopped;
  told =
      subst (λ (w : Walk). IsToldUpTo (asking_for wanted (said_in x.heard)) w refusal refused t.tells.lines text)
      (begins_same (refusal.rec - 1) s.1.0 s.1.1 x.counted x.advised)
      (subst (λ (a : Asking). IsToldUpTo a (begins_at (state_at last.stage last.counts (refusal.rec - 1)) found advice) refusal refused
      t.tells.lines text) x.asks (t.tells.told refused holds));
  read = read;
}

tells_up_to : (wanted : Wanted) (limits : Limits) (before left : Option (List ℕ)) (refusal : Refusal) (asking : Asking) (found : ℕ) (advice : List ℕ)
    (last : LastRead) (fault : ToolFault) → StopsAt limits (read_faults.Refused refusal) before left last
    → Hears wanted limits before left refusal asking found advice → (text : List ℕ)
    → IsUnread fault text ⊎ TellsAfterUpTo asking last found advice refusal left text
    → IsUnread fault text ⊎ TellsUpToFault wanted limits before left refusal text
tells_up_to wanted limits before left refusal asking found advice last fault s x text (inl e) = inl e
tells_up_to wanted limits None left refusal asking found advice last fault s x text (inr t) =
    inr (built_up_to wanted limits None left refusal asking found advice last text s x t t.held.line t.held.holds tt)
tells_up_to wanted limits (Some known) left refusal asking found advice last fault s x text (inr t) =
    let parts =
    lines_read limits known left t.between t.tells.mid refusal last t.raw t.tells.bytes t.tells.lines t.tells.last s t.read
    t.tells.taken t.tells.goes t.tells.no_lf in
    inr (built_up_to wanted limits (Some known) left refusal asking found advice last text s x t parts.0 parts.1
    (parts.2, t.tells.mid, parts.3, parts.4))

-- ---- an end that comes too early

tells_end : {W : Type 0} (wanted : Wanted) (limits : Limits) (before after : Option (List ℕ)) (contents : W → Option (List ℕ))
    (old between new : W) (records : ℕ) (words : List ℕ)
    → Reports (lines_up_to wanted) limits before after contents old between (Ok (Truncated records))
    → AreWords wanted.explained words → Appends (contents between) (contents new) words
    → Tells wanted limits before after contents old new (Truncated records)
tells_end wanted limits before after contents old between new records words h asked written = record {
  between = between;
  reported = tells_truncated wanted limits before after contents old between records h;
  words = words;
  asked = asked;
  written = written;
}

truncated_unaccepted : {W : Type 0} (wanted : Wanted) (limits : Limits) (before after : Option (List ℕ))
    (contents : W → Option (List ℕ)) (old new : W) (records : ℕ) → JudgesText limits before (Ok (Truncated records))
    → JudgesAccepted (lines_linted wanted) limits before after contents old new (Truncated records)
truncated_unaccepted wanted limits None after contents old new records h = tt
truncated_unaccepted wanted limits (Some text) after contents old new records h = λ v n a. absurd (h.unaccepted v n a)

-- the verdict on an accepted text, and what is written of it
judges_accepted : {W : Type 0} (of : ItemLines) (limits : Limits) (before after : Option (List ℕ))
    (contents : W → Option (List ℕ)) (old new : W) (verdict : Verdict)
    → Reports of limits before after contents old new (Ok verdict)
    → JudgesAccepted of limits before after contents old new verdict
judges_accepted of limits None after contents old new verdict h = tt
judges_accepted of limits (Some text) after contents old new verdict h = λ v n a. by verdict v n a h.1 h.2
  where
    by : (it : Verdict) (v : TransmissionValue) (n : ℕ) → IsAccepted limits text v n
        → IsRightVerdict limits (Some text) it after h.0 → Appends (contents old) (contents new) (text_on of h.0 it)
        → (it ≡ good_verdict v) × (after ≡ Some (drop n text))
        × Appends (contents old) (contents new) (text_on of (value_items v) (good_verdict v))
    by (Good groups transactions records) v n a t written =
        let same = accepted_once limits text t.0 v (length t.1.input) n t.1.front.0 a in
        let verdict_is : Good groups transactions records ≡ good_verdict v = t.3 ∙ ap good_verdict same.0 in
        let items_are : h.0 ≡ value_items v = t.2 ∙ ap value_items same.0 in (
          verdict_is,
          t.1.front.1 ∙ ap (λ (k : ℕ). Some (drop k text)) same.1,
          subst (Appends (contents old) (contents new))
              (ap₂ (λ (items : List Item) (it : Verdict). text_on of items it) items_are verdict_is) written,
        )
    by (Refused refusal) v n a t written = absurd (t.0.right.ends.unaccepted v n a)
    by (Truncated records) v n a t written = absurd (t.0.right.ends.unaccepted v n a)

-- where a text is accepted
accepted_at : {W : Type 0} (wanted : Wanted) (limits : Limits) (before after : Option (List ℕ))
    (contents : W → Option (List ℕ)) (old new : W) (verdict : Verdict) (result : Result Verdict ToolFault) → result ≡ Ok verdict
    → JudgesText limits before result → IfOk result (Tells wanted limits before after contents old new)
    → IfOk result (JudgesAccepted (lines_linted wanted) limits before after contents old new)
accepted_at wanted limits before after contents old new (Good groups transactions records) result e judged told =
    subst (λ (r : Result Verdict ToolFault). IfOk r (JudgesAccepted (lines_linted wanted) limits before after contents old new))
    (sym e)
    (judges_accepted (lines_linted wanted) limits before after contents old new (Good groups transactions records)
    (subst (λ (r : Result Verdict ToolFault). IfOk r (Tells wanted limits before after contents old new)) e told))
accepted_at wanted limits before after contents old new (Truncated records) result e judged told =
    subst (λ (r : Result Verdict ToolFault). IfOk r (JudgesAccepted (lines_linted wanted) limits before after contents old new))
    (sym e)
    (truncated_unaccepted wanted limits before after contents old new records (subst (JudgesText limits before) e judged))
accepted_at wanted limits before after contents old new (Refused refusal) result e judged told =
    subst (λ (r : Result Verdict ToolFault). IfOk r (JudgesAccepted (lines_linted wanted) limits before after contents old new))
    (sym e) (none before (subst (JudgesText limits before) e judged))
  where
    none : (known : Option (List ℕ)) → JudgesText limits known (Ok (Refused refusal))
        → JudgesAccepted (lines_linted wanted) limits known after contents old new (Refused refusal)
    none None h = tt
    none (Some text) h = λ v n a. absurd (h.unaccepted v n a)

-- ---- what the header says, the findings and the advice

hears : (wanted : Wanted) (limits : Limits) (before left : Option (List ℕ)) (refusal : Refusal) (said : Option Said) (found : ℕ)
    (advice : List ℕ) → StandsAfter (HasBegun wanted.advised said found advice) limits before left (Refused refusal)
    → Hears wanted limits before left refusal (asking_so wanted.explained said wanted.all) found advice
hears wanted limits before left refusal said found advice h = record {
  heard = h.0;
  stopped = h.1;
  asks = ap (λ (o : Option Said). asking_so wanted.explained o wanted.all) h.2.0;
  counted = h.2.1;
  advised = h.2.2;
}

-- ---- a check that goes on with the faults

-- what is said of what was read last, which is held
of_last : (P Q : LastRead → Type 0) (last : Option LastRead) → IsSomeAnd last P → IsSomeAnd last Q → (it : LastRead) × P it × Q it
of_last P Q None h said = absurd h
of_last P Q (Some it) h said = (it, h, said)

-- where the test that is passed on says the same
explained_so : {W : Type 0} (wanted : Wanted) (limits : Limits) (before left : Option (List ℕ)) (contents : W → Option (List ℕ))
    (old between : W) (checked : Result Verdict ToolFault) (flag : Bool) → flag ≡ wanted.explained
    → Reports (lines_before_fault wanted.advised flag wanted.all) limits before left contents old between checked
    → Reports (lines_up_to wanted) limits before left contents old between checked
explained_so wanted limits before left contents old between checked flag same h =
    subst (λ (b : Bool). Reports (lines_before_fault wanted.advised b wanted.all) limits before left contents old between checked) same h

pub said_refused : {W : Type 0} (contents : W → Option (List ℕ)) (old new : W) (asking : Asking) (last : LastRead) (found : ℕ)
    (advice : List ℕ) (refusal : Refusal) (left after : Option (List ℕ)) (result : Result Verdict ToolFault)
    → OnOk result (AppendsSuch contents old new (TellsAfter asking last found advice refusal left after))
    → AppendsUpTo contents old new result (TellsAfterUpTo asking last found advice refusal left)
    → (words : List ℕ) × Appends (contents old) (contents new) words
    × TellsOn asking last found advice refusal left after result words
said_refused contents old new asking last found advice refusal left after (Ok verdict) told leaves = (told.0, told.2, told.1)
said_refused contents old new asking last found advice refusal left after (Err fault) told leaves = (leaves.0, leaves.2, leaves.1)

pub lints_run : {W : Type 0} (wanted : Wanted) (limits : Limits) (before left after : Option (List ℕ))
    (contents : W → Option (List ℕ)) (old between new : W) (checked result : Result Verdict ToolFault)
    (begins : Option Said → ℕ → List ℕ → Type 0) (stands : List Item → Type 0)
    → ((said : Option Said) (found : ℕ) (advice : List ℕ) → begins said found advice → (given : List Item) → stands given
    → HasBegun wanted.advised said found advice given)
    → StandsAtEnd stands limits before left checked → (flag : Bool) → flag ≡ wanted.explained
    → Reports (lines_before_fault wanted.advised flag wanted.all) limits before left contents old between checked
    → GoesOnAfter (SaysFaults begins wanted.explained wanted.all) true limits before left after contents between new checked result
    → Lints wanted limits before after contents old new result
lints_run wanted limits before left after contents old between new (Ok verdict) result begins stands so stood flag same h g = record {
  between = between;
  left = left;
  checked = Ok verdict;
  reported = explained_so wanted limits before left contents old between (Ok verdict) flag same h;
  words = g.words;
  written = g.written;
  more = g.more;
  taken = g.taken;
  answered = g.answered;
  leaves = leaves verdict result stood g.held g.says;
} where
  refused_leaves : (refusal : Refusal) (fault : ToolFault) (last : Option LastRead)
      → StandsAfter stands limits before left (Refused refusal)
      → IsSomeAnd last (IsReadLast limits before left (Refused refusal))
      → SaysFaults begins wanted.explained wanted.all (Refused refusal) last left after (Err fault) g.words
      → AreWordsUpTo wanted limits before left (Ok (Refused refusal)) fault g.words
  refused_leaves refusal fault last here held says =
      let asking = asking_so wanted.explained says.0 wanted.all in
      let it = of_last (IsReadLast limits before left (Refused refusal))
      (λ last. TellsOn asking last says.1 says.2 refusal left after (Err fault) g.words) last held says.4 in
      cut_as (λ text. IsUnread fault text ⊎ TellsAfterUpTo asking it.0 says.1 says.2 refusal left text)
      (λ text. IsUnread fault text ⊎ TellsUpToFault wanted limits before left refusal text) fault g.words
      (tells_up_to wanted limits before left refusal asking says.1 says.2 it.0 fault it.1
      (hears wanted limits before left refusal says.0 says.1 says.2
      (here.0, here.1, so says.0 says.1 says.2 says.3 here.0 here.2))) it.2

  leaves : (verdict : Verdict) (result : Result Verdict ToolFault) → StandsAfter stands limits before left verdict
      → (true ≡ true → IsSomeAnd g.last (IsReadLast limits before left verdict))
      → SaysFaults begins wanted.explained wanted.all verdict g.last left after result g.words
      → IfErr result (λ fault. AreWordsUpTo wanted limits before left (Ok verdict) fault g.words)
  leaves verdict (Ok other) here held says = tt
  leaves (Good groups transactions records) (Err fault) here held says = absurd (err_ok fault (Good groups transactions records) says.4.0)
  leaves (Truncated records) (Err fault) here held says = says.4.2
  leaves (Refused refusal) (Err fault) here held says = refused_leaves refusal fault g.last here (held refl) says
lints_run {W = W} wanted limits before left after contents old between new (Err fault) result begins stands so stood flag same h g = record {
  between = between;
  left = left;
  checked = Err fault;
  reported = explained_so wanted limits before left contents old between (Err fault) flag same h;
  words = [];
  written = subst (λ (w : W). Appends (contents between) (contents w) []) (sym g.2) (Appends-nil (contents between));
  more = [];
  taken = subst (λ (o : Option (List ℕ)). Consumes left o []) (sym g.1) (Consumes-nil left);
  answered = g.0;
  leaves =
      subst (λ (r : Result Verdict ToolFault). IfErr r (λ other. AreWordsUpTo wanted limits before left (Err fault) other []))
      (sym g.0) refl;
}

pub tells_run : {W : Type 0} (wanted : Wanted) (limits : Limits) (before left after : Option (List ℕ))
    (contents : W → Option (List ℕ)) (old between new : W) (checked result : Result Verdict ToolFault)
    (begins : Option Said → ℕ → List ℕ → Type 0) (stands : List Item → Type 0)
    → ((said : Option Said) (found : ℕ) (advice : List ℕ) → begins said found advice → (given : List Item) → stands given
    → HasBegun wanted.advised said found advice given)
    → StandsAtEnd stands limits before left checked → (flag : Bool) → flag ≡ wanted.explained
    → Reports (lines_before_fault wanted.advised flag wanted.all) limits before left contents old between checked
    → GoesOnAfter (SaysFaults begins wanted.explained wanted.all) true limits before left after contents between new checked result
    → IfOk result (Tells wanted limits before after contents old new)
tells_run wanted limits before left after contents old between new checked (Err fault) begins stands so stood flag same h g = tt
tells_run wanted limits before left after contents old between new (Err fault) (Ok other) begins stands so stood flag same h g =
    absurd (err_ok fault other (sym g.0))
tells_run {W = W} wanted limits before left after contents old between new (Ok verdict) (Ok other) begins stands so stood flag same h g =
    subst (Tells wanted limits before after contents old new) (sym g.answered) (by verdict stood
    (explained_so wanted limits before left contents old between (Ok verdict) flag same h) g.held g.says)
  where
    refused : (refusal : Refusal) (last : Option LastRead) → StandsAfter stands limits before left (Refused refusal)
        → Reports (lines_up_to wanted) limits before left contents old between (Ok (Refused refusal))
        → IsSomeAnd last (IsReadLast limits before left (Refused refusal))
        → SaysFaults begins wanted.explained wanted.all (Refused refusal) last left after (Ok other) g.words
        → Tells wanted limits before after contents old new (Refused refusal)
    refused refusal last here h held says =
        let asking = asking_so wanted.explained says.0 wanted.all in
        let it = of_last (IsReadLast limits before left (Refused refusal))
        (λ last. TellsOn asking last says.1 says.2 refusal left after (Ok other) g.words) last held says.4 in
        tells_faults wanted limits before left after contents old between new refusal asking says.1 says.2 it.0 g.words h it.1
        (hears wanted limits before left refusal says.0 says.1 says.2
        (here.0, here.1, so says.0 says.1 says.2 says.3 here.0 here.2)) it.2 g.written

    by : (it : Verdict) → StandsAfter stands limits before left it
        → Reports (lines_up_to wanted) limits before left contents old between (Ok it)
        → (true ≡ true → IsSomeAnd g.last (IsReadLast limits before left it))
        → SaysFaults begins wanted.explained wanted.all it g.last left after (Ok other) g.words
        → Tells wanted limits before after contents old new it
    by (Good groups transactions records) here h held says =
        tells_good wanted limits before after contents old new groups transactions records
        (nothing_more (lines_up_to wanted) limits before left after contents old between new (Good groups transactions records) g.words h
        says.4.1 says.4.2 g.written)
    by (Truncated records) here h held says =
        tells_end wanted limits before after contents old between new records g.words
        (subst (λ (o : Option (List ℕ)). Reports (lines_up_to wanted) limits before o contents old between (Ok (Truncated records)))
        (sym says.4.0) h) says.4.1 g.written
    by (Refused refusal) here h held says = refused refusal g.last here h (held refl) says

-- where the text is accepted
pub accepted_run : {W : Type 0} (wanted : Wanted) (limits : Limits) (before after : Option (List ℕ))
    (contents : W → Option (List ℕ)) (old new : W) (result : Result Verdict ToolFault) → JudgesText limits before result
    → IfOk result (Tells wanted limits before after contents old new)
    → IfOk result (JudgesAccepted (lines_linted wanted) limits before after contents old new)
accepted_run wanted limits before after contents old new (Ok verdict) judged told =
    accepted_at wanted limits before after contents old new verdict (Ok verdict) refl judged told
accepted_run wanted limits before after contents old new (Err fault) judged told = tt

-- A run and what comes after its verdict are one run.
use Rattle.std.proofs.Common.{◌≡◌, ℕ, Bool, true, List, [], Option, Some, None, refl, sym, subst, append-nil}
use Rattle.std.proofs.KnownBytes.{Appends-trans}
use Rattle.std.specs.Prelude.{IfOk, IsSomeAnd, IsTrue, OnOk, Result, Ok, Err}
use Rattle.std.specs.Option.{is_some}
use Rattle.std.specs.Io.KnownBytes.{Appends, Consumes, GrowsBy}
use Rattle.cwr_shape.specs.declared.limits.Limits.{Limits}
use Rattle.cwr_values.specs.declared.items.Item.{Item}
use Rattle.cwr_decode.specs.declared.readings.LastRead.{LastRead}
use Rattle.cwr_tools.specs.declared.verdicts.Verdict.{Verdict}
use Rattle.cwr_tools.specs.declared.verdicts.ToolFault.{ToolFault}
use Rattle.cwr_tools.specs.declared.verdicts.ToolFault.TheVariants as tool_faults
use Rattle.cwr_tools.specs.Format.Reports.{CountsAfter, CountsReaderFault, CountsWriterFault, CountsWritten, ItemLines, text_on}
use Rattle.cwr_tools.specs.Format.Verdicts.{IsAnswerTo, JudgesText}
use Rattle.cwr_tools.specs.Steps.LastSteps.{GoesOnAfter, RunsOn, Saying}
use Rattle.cwr_tools.specs.Steps.Reports.{Reports, StandsAtEnd}
use Rattle.cwr_tools.specs.Steps.Verdicts.{IsReadLast, IsRightVerdict}
use Rattle.cwr_tools.proofs.lemmas.ReportsWhole.{counts_all, counts_reported}
use Rattle.cwr_tools.proofs.lemmas.RightReports.{judged_text}
use Rattle.cwr_tools.proofs.lemmas.ToldTexts.{reports_text}

-- what was read last is there, where it is held
pub held_last : (holds : Bool) (limits : Limits) (before left : Option (List ℕ)) (last : Option LastRead)
    (checked : Result Verdict ToolFault) (verdict : Verdict)
    → (holds ≡ true → IfOk checked (λ v. IsSomeAnd last (IsReadLast limits before left v))) → checked ≡ Ok verdict → holds ≡ true
    → IsSomeAnd last (IsReadLast limits before left verdict)
held_last holds limits before left last checked verdict h e is =
    subst (λ (r : Result Verdict ToolFault). IfOk r (λ v. IsSomeAnd last (IsReadLast limits before left v))) e (h is)

pub is_there : (limits : Limits) (before left : Option (List ℕ)) (last : Option LastRead) (verdict : Verdict)
    → IsSomeAnd last (IsReadLast limits before left verdict) → IsTrue (is_some last)
is_there limits before left None verdict h = absurd h
is_there limits before left (Some last) verdict h = refl

-- what is answered after a verdict that is right of a text is right of it
judged_after : (limits : Limits) (before : Option (List ℕ)) (verdict : Verdict) (result : Result Verdict ToolFault)
    → JudgesText limits before (Ok verdict) → IsAnswerTo verdict result → JudgesText limits before result
judged_after limits before verdict (Ok other) h a = subst (λ (it : Verdict). JudgesText limits before (Ok it)) (sym a) h
judged_after limits before verdict (Err tool_faults.Reader) h a = tt
judged_after limits before verdict (Err (tool_faults.Writer written)) h a = tt
judged_after limits before verdict (Err tool_faults.Memory) h a = tt
judged_after limits before verdict (Err (tool_faults.Refused refusal)) h a = absurd a
judged_after limits before verdict (Err (tool_faults.Truncated records)) h a = absurd a
judged_after limits before verdict (Err (tool_faults.Limit limit)) h a = absurd a
judged_after limits before verdict (Err tool_faults.Output) h a = absurd a

-- the run comes to a verdict, and goes on
pub runs_on : {R W : Type 0} (of : ItemLines) (stands : List Item → Type 0) (says : Saying) (holds : Bool) (limits : Limits)
    (remaining : R → Option (List ℕ)) (read_failures : R → ℕ) (reader mid read : R) (contents : W → Option (List ℕ)) (failures : W → ℕ)
    (handed_on : W → Bool) (old between new : W) (last : Option LastRead) (written : ℕ) (checked result : Result Verdict ToolFault)
    (verdict : Verdict) → checked ≡ Ok verdict
    → Reports of limits (remaining reader) (remaining mid) contents old between checked
    → StandsAtEnd stands limits (remaining reader) (remaining mid) checked
    → CountsReaderFault checked (read_failures reader) (read_failures mid)
    → CountsWriterFault checked (failures old) (failures between)
    → GrowsBy (contents old) (contents between) written
    → (holds ≡ true → IsSomeAnd last (IsReadLast limits (remaining reader) (remaining mid) verdict))
    → ((words : List ℕ) × Appends (contents between) (contents new) words
    × says verdict last (remaining mid) (remaining read) result words)
    → ((more : List ℕ) × Consumes (remaining mid) (remaining read) more) → IsAnswerTo verdict result
    → CountsAfter contents written between new result
    → CountsReaderFault result (read_failures mid) (read_failures read)
    → CountsWriterFault result (failures between) (failures new) → OnOk result (handed_on new ≡ true)
    → RunsOn of stands says holds limits remaining read_failures reader read contents failures handed_on old new result
runs_on of stands says holds limits remaining read_failures reader mid read contents failures handed_on old between new last written checked
    result verdict e reported stood quiet_reader quiet_writer grows held said taken answered counted read_counts write_counts handed =
    let told =
    reports_text of limits (remaining reader) (remaining mid) contents old between checked reported in
    record {
      between = between;
      left = remaining mid;
      checked = checked;
      reported = reported;
      told = told;
      stood = stood;
      goes_on =
          subst
          (λ (r : Result Verdict ToolFault). GoesOnAfter says holds limits (remaining reader) (remaining mid) (remaining read)
          contents between new r result) (sym e) (record {
            last = last;
            held = held;
            words = said.0;
            written = said.1;
            says = said.2;
            more = taken.0;
            taken = taken.1;
            answered = answered;
          });
      judged =
          judged_after limits (remaining reader) verdict result (subst (JudgesText limits (remaining reader)) e
          (judged_text of limits (remaining reader) (remaining mid) contents old between checked told)) answered;
      counted = counts_all contents old between new written result grows counted;
      reader_failures =
          subst (λ (n : ℕ). CountsReaderFault result n (read_failures read))
          (subst (λ (r : Result Verdict ToolFault). CountsReaderFault r (read_failures reader) (read_failures mid)) e quiet_reader)
          read_counts;
      writer_failures =
          subst (λ (n : ℕ). CountsWriterFault result n (failures new))
          (subst (λ (r : Result Verdict ToolFault). CountsWriterFault r (failures old) (failures between)) e quiet_writer)
          write_counts;
      all_handed_on = handed;
    }

-- the run comes to none
pub runs_off : {R W : Type 0} (of : ItemLines) (stands : List Item → Type 0) (says : Saying) (holds : Bool) (limits : Limits)
    (remaining : R → Option (List ℕ)) (read_failures : R → ℕ) (reader read : R) (contents : W → Option (List ℕ)) (failures : W → ℕ)
    (handed_on : W → Bool) (old new : W) (checked : Result Verdict ToolFault) (fault : ToolFault) → checked ≡ Err fault
    → Reports of limits (remaining reader) (remaining read) contents old new checked
    → StandsAtEnd stands limits (remaining reader) (remaining read) checked
    → CountsReaderFault checked (read_failures reader) (read_failures read)
    → CountsWriterFault checked (failures old) (failures new)
    → RunsOn of stands says holds limits remaining read_failures reader read contents failures handed_on old new (Err fault)
runs_off of stands says holds limits remaining read_failures reader read contents failures handed_on old new checked fault e reported stood
    read_counts write_counts =
    let told =
    reports_text of limits (remaining reader) (remaining read) contents old new checked reported in
    record {
      between = new;
      left = remaining read;
      checked = checked;
      reported = reported;
      told = told;
      stood = stood;
      goes_on =
          subst
          (λ (r : Result Verdict ToolFault). GoesOnAfter says holds limits (remaining reader) (remaining read) (remaining read)
          contents new new r (Err fault)) (sym e) (refl, refl, refl);
      judged =
          subst (JudgesText limits (remaining reader)) e
          (judged_text of limits (remaining reader) (remaining read) contents old new checked told);
      counted =
          subst (λ (r : Result Verdict ToolFault). CountsWritten contents old new r) e
          (counts_reported of limits (remaining reader) (remaining read) contents old new checked reported);
      reader_failures =
          subst (λ (r : Result Verdict ToolFault). CountsReaderFault r (read_failures reader) (read_failures read)) e read_counts;
      writer_failures =
          subst (λ (r : Result Verdict ToolFault). CountsWriterFault r (failures old) (failures new)) e write_counts;
      all_handed_on = tt;
    }

-- what is so where a run comes to a verdict is so where it is answered
pub ok_before : {W : Type 0} (says : Saying) (holds : Bool) (limits : Limits) (before left after : Option (List ℕ))
    (contents : W → Option (List ℕ)) (between new : W) (checked result : Result Verdict ToolFault) (P : Type 0)
    → GoesOnAfter says holds limits before left after contents between new checked result → OnOk checked P → OnOk result P
ok_before says holds limits before left after contents between new (Ok verdict) (Ok other) P g h = h
ok_before says holds limits before left after contents between new (Ok verdict) (Err fault) P g h = tt
ok_before says holds limits before left after contents between new (Err fault) result P g h =
    subst (λ (r : Result Verdict ToolFault). OnOk r P) (sym g.0) tt

-- nothing more is written or taken
pub nothing_more : {W : Type 0} (of : ItemLines) (limits : Limits) (before left after : Option (List ℕ))
    (contents : W → Option (List ℕ)) (old between new : W) (verdict : Verdict) (words : List ℕ)
    → Reports of limits before left contents old between (Ok verdict) → after ≡ left → words ≡ []
    → Appends (contents between) (contents new) words → Reports of limits before after contents old new (Ok verdict)
nothing_more of limits before left after contents old between new verdict words h same none written = (
  h.0,
  subst (λ (o : Option (List ℕ)). IsRightVerdict limits before verdict o h.0) (sym same) h.1,
  subst (Appends (contents old) (contents new)) (append-nil (text_on of h.0 verdict))
      (Appends-trans (contents old) (contents between) (contents new) (text_on of h.0 verdict) [] h.2
      (subst (Appends (contents between) (contents new)) none written)),
)

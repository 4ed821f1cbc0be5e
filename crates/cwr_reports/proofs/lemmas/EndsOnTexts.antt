-- A run over a text ends as that text does.
use Rattle.std.proofs.Common.{◌≡◌, ℕ, Bool, true, false, List, drop}
use Rattle.std.proofs.Common.{Option, Some, None, refl, sym, ap, subst, ◌∙◌, inl, inr}
use Rattle.std.specs.Prelude.{if◌then◌else◌, IfOk, IfSome, IsSomeAnd, OnErr, OnOk, Result, Ok, Err}
use Rattle.cwr_shape.specs.declared.limits.Limits.{Limits}
use Rattle.cwr_shape.specs.declared.reasons.Level.{Level}
use Rattle.cwr_values.specs.declared.items.Item.{Item}
use Rattle.cwr_judge.specs.Format.Items.{value_items}
use Rattle.cwr_tools.specs.declared.verdicts.Verdict.{Verdict}
use Rattle.cwr_tools.specs.declared.verdicts.Verdict.TheVariants as verdicts
use Rattle.cwr_tools.specs.declared.verdicts.ToolFault.{ToolFault}
use Rattle.cwr_tools.specs.declared.verdicts.ToolFault.TheVariants as tool_faults
use Rattle.cwr_tools.specs.Format.Reports.{CountsReaderFault, CountsWriterFault, ItemLines, JudgesAccepted, ReportsText}
use Rattle.cwr_tools.specs.Format.Verdicts.{IsVerdictOn, JudgesText}
use Rattle.cwr_tools.specs.Format.Watching.{CountsAccepted, StandsAccepted, any_from, is_reached}
use Rattle.cwr_tools.specs.declared.finding_counts.FindingCount.{FindingCount}
use Rattle.cwr_tools.proofs.lemmas.RightReports.{accepted_text}
use Rattle.cwr_causes.specs.declared.trailing.Trailing.{Trailing}
use Rattle.cwr_causes.specs.Format.Trailing.{IsTrailing}
use Rattle.cwr_explain.specs.Format.Explained.{FindsAfter}
use Rattle.cwr_files.specs.declared.faults.Told.{Told}
use Rattle.cwr_files.specs.declared.faults.Fault.{Fault}
use Rattle.cwr_files.specs.declared.faults.Fault.TheVariants as faults
use Rattle.cwr_devices.specs.Format.Failures.{one_more_failure}
use Rattle.cwr_files.specs.Format.Files.{Texts, counted_on}
use Rattle.cwr_files.specs.Format.Inputs.{IsUnopenedBy}
use Rattle.cwr_files.specs.Steps.Inputs.{IsLeftOf}
use Rattle.cwr_files.proofs.lemmas.Reads.{if_read}
use Rattle.cwr_files.proofs.lemmas.Unopened.{by_unopened}
use Rattle.cwr_endings.specs.declared.stops.Stop.{Stop}
use Rattle.cwr_endings.specs.declared.stops.Stop.TheVariants as stops
use Rattle.cwr_endings.specs.declared.endings.Look.{Look}
use Rattle.cwr_endings.specs.declared.endings.Look.TheVariants as looks
use Rattle.cwr_endings.specs.declared.endings.Status.{Status}
use Rattle.cwr_endings.specs.declared.endings.Status.TheVariants as statuses
use Rattle.cwr_endings.specs.declared.endings.Wanted.{Wanted}
use Rattle.cwr_advise.specs.Format.AdviceLevels.{IsWorstTold}
use Rattle.cwr_advise.specs.Format.AdviceLines.{lines_of_advice}
use Rattle.cwr_endings.specs.Format.Endings.{IsStatusBy}
use Rattle.cwr_endings.specs.Steps.Looks.{CountsLook, IsLook, LooksOnce, follows, good_status, judged_with, judgement_in, status_after, status_in, whole_status}
use Rattle.cwr_endings.proofs.lemmas.StatusesOnTexts.{none_from, status_good}
use Rattle.cwr_endings.specs.declared.judgements.Judgement.{Judgement}
use Rattle.cwr_reports.specs.declared.tellings.Telling.{Telling}
use Rattle.cwr_reports.specs.Format.Endings.{Counts, EndsAsExport, EndsAsExportOf, EndsOnInput, EndsOnRead}
use Rattle.cwr_reports.specs.Steps.Tellings.{CountsFindings, CountsInput, CountsReading, CountsStop, CountsWriting, IsStopOf, TellsLines, TellsText, TellsUpTo}
use Rattle.cwr_reports.specs.Steps.Looks.{IsJudged, IsRead, JudgesOn, JudgesRead, LooksAfter, SeesFound, look_of}

-- ---- the status of a verdict

status_on : (advice : Option (Bool × ℕ)) (limits : Limits) (wanted : Wanted) (text : List ℕ) (verdict : Verdict) (look : Look)
    (found : Bool) (status : Status) → IsVerdictOn limits text verdict
    → SeesFound advice wanted.fail_on limits (Some text) found → LooksAfter limits (Some text) look
    → status_in wanted verdict look found ≡ Some status → IsStatusBy (Counts advice) limits wanted text status
status_on advice limits wanted text (verdicts.Good groups transactions records) look found status judged seen looked e =
    let v = judged.0 in
    let n = judged.1 in
    status_good (Counts advice) limits wanted text v n look found status judged.2 (seen v n judged.2) (looked v n judged.2).0
    (looked v n judged.2).1 e
status_on advice limits wanted text (verdicts.Refused refusal) look found status judged seen looked e =
    let refused : statuses.Refused ≡ status = cc e in
    subst (IsStatusBy (Counts advice) limits wanted text) refused (inl (refusal, judged))
status_on advice limits wanted text (verdicts.Truncated records) look found status judged seen looked e =
    let refused : statuses.Refused ≡ status = cc e in
    subst (IsStatusBy (Counts advice) limits wanted text) refused (inr (inl (records, judged)))

-- where its bytes are known
pub status_on_input : (advice : Option (Bool × ℕ)) (limits : Limits) (wanted : Wanted) (before : Option (List ℕ)) (verdict : Verdict)
    (look : Look) (found : Bool) (status : Status) → JudgesText limits before (Ok verdict)
    → SeesFound advice wanted.fail_on limits before found → LooksAfter limits before look
    → status_in wanted verdict look found ≡ Some status → IfSome before (λ text. IsStatusBy (Counts advice) limits wanted text status)
status_on_input advice limits wanted None verdict look found status judged seen looked e = tt
status_on_input advice limits wanted (Some text) verdict look found status judged seen looked e =
    status_on advice limits wanted text verdict look found status judged seen looked e

-- ---- what is seen and looked for

-- what follows from what stands after the items of an accepted text stands after them too
pub stands_so : (limits : Limits) (before : Option (List ℕ)) (stands other : List Item → Type 0)
    (outcome : Result Verdict ToolFault) → ((given : List Item) → stands given → other given)
    → OnOk outcome (StandsAccepted stands limits before) → OnOk outcome (StandsAccepted other limits before)
stands_so limits before stands other (Err fault) so here = tt
stands_so limits None stands other (Ok verdict) so here = tt
stands_so limits (Some text) stands other (Ok verdict) so here = λ v n a. so (value_items v) (here v n a)

-- without a level nothing is seen
pub sees_nothing : (advice : Option (Bool × ℕ)) (limits : Limits) (before : Option (List ℕ)) (from worst : Option Level)
    (outcome : Result Verdict ToolFault) → advice ≡ None → worst ≡ None → from ≡ None
    → OnOk outcome (SeesFound advice from limits before (is_reached from worst))
sees_nothing advice limits before from worst (Err fault) none nothing unasked = tt
sees_nothing advice limits None from worst (Ok verdict) none nothing unasked = tt
sees_nothing advice limits (Some text) from worst (Ok verdict) none nothing unasked =
    subst (λ (a : Option (Bool × ℕ)). SeesFound a from limits (Some text) (is_reached from worst)) (sym none)
    (λ v n accepted. ap (λ (l : Option Level). any_from l (value_items v)) unasked ∙ none_from (value_items v)
    ∙ sym (ap (is_reached from) nothing))

-- where no advice is told, the findings are
pub sees_found : (advice : Option (Bool × ℕ)) (limits : Limits) (before : Option (List ℕ)) (from worst : Option Level)
    (count : FindingCount) (outcome : Result Verdict ToolFault) → advice ≡ None → worst ≡ count.worst
    → OnOk outcome (CountsAccepted limits before count)
    → OnOk outcome (SeesFound advice from limits before (is_reached from worst))
sees_found advice limits before from worst count (Err fault) none is counted = tt
sees_found advice limits None from worst count (Ok verdict) none is counted = tt
sees_found advice limits (Some text) from worst count (Ok verdict) none is counted =
    subst (λ (a : Option (Bool × ℕ)). SeesFound a from limits (Some text) (is_reached from worst)) (sym none)
    (λ v n accepted. sym (ap (is_reached from) is ∙ (counted v n accepted).worst from))

-- where advice is told, all that is told is
pub sees_advice : (advice : Option (Bool × ℕ)) (all : Bool) (limit : ℕ) (limits : Limits) (before : Option (List ℕ))
    (from told worst : Option Level) (outcome : Result Verdict ToolFault) → advice ≡ Some (all, limit) → told ≡ worst
    → OnOk outcome (StandsAccepted (IsWorstTold (lines_of_advice all limit) worst) limits before)
    → OnOk outcome (SeesFound advice from limits before (is_reached from told))
sees_advice advice all limit limits before from told worst (Err fault) some is seen = tt
sees_advice advice all limit limits None from told worst (Ok verdict) some is seen = tt
sees_advice advice all limit limits (Some text) from told worst (Ok verdict) some is seen =
    subst (λ (a : Option (Bool × ℕ)). SeesFound a from limits (Some text) (is_reached from told)) (sym some)
    (λ v n accepted. let it = seen v n accepted in
    (it.0, it.1, it.2, it.3, ap (is_reached from) is ∙ it.4 from))

-- after a report that left what stands after the transmission
pub looks_after : {W : Type 0} (of : ItemLines) (limits : Limits) (before mid after : Option (List ℕ))
    (contents : W → Option (List ℕ)) (old new : W) (outcome : Result Verdict ToolFault) (look : Look)
    → IfOk outcome (JudgesAccepted of limits before mid contents old new) → LooksOnce mid after outcome look
    → OnOk outcome (LooksAfter limits before look)
looks_after of limits before mid after contents old new (Err fault) look judged once = tt
looks_after of limits None mid after contents old new (Ok verdict) look judged once = tt
looks_after of limits (Some text) mid after contents old new (Ok verdict) look judged once = λ v n a.
    let j = judged v n a in (
      after,
      subst (λ (m : Option (List ℕ)). IsLook m after look) j.1
          (subst (λ (it : Verdict). LooksOnce mid after (Ok it) look) j.0 once),
    )

-- after one of which all is told
pub looks_told : {W : Type 0} (of : ItemLines) (limits : Limits) (before mid after : Option (List ℕ))
    (contents : W → Option (List ℕ)) (old new : W) (outcome : Result Verdict ToolFault) (look : Look)
    → ReportsText of limits before mid contents old new outcome → LooksOnce mid after outcome look
    → OnOk outcome (LooksAfter limits before look)
looks_told of limits before mid after contents old new outcome look told once =
    looks_after of limits before mid after contents old new outcome look
    (accepted_text of limits before mid contents old new outcome told) once

-- after one that explained what stands there
pub looks_found : (limits : Limits) (before after : Option (List ℕ)) (outcome : Result Verdict ToolFault)
    (found : Option Trailing) → OnOk outcome (FindsAfter limits before after found) → OnOk outcome
    (LooksAfter limits before (look_of found))
looks_found limits before after (Err fault) found h = tt
looks_found limits None after (Ok verdict) found h = tt
looks_found limits (Some text) after (Ok verdict) found h = λ v n a. (after, by (Some (drop n text)) found (h v n a)) where
  by : (left : Option (List ℕ)) (it : Option Trailing) → IsSomeAnd it (IsTrailing left after) → IsLook left after (look_of it)
  by left None s = absurd s
  by left (Some t) s = s

-- what is made of an input that could be read is good or refused
after_read : (look : Look) → IfSome (status_after look) IsRead
after_read (looks.Found trailing) = by (follows trailing)
  where
    by : (b : Bool) → IfSome (if b then Some statuses.Refused else Some statuses.Good) IsRead
    by true = tt
    by false = tt
after_read looks.Failed = tt
after_read looks.Unasked = tt

whole_read : (whole : Bool) (look : Look) → IfSome (whole_status whole look) IsRead
whole_read true look = after_read look
whole_read false look = tt

good_read : (wanted : Wanted) (look : Look) (found : Bool) → IfSome (good_status wanted look found) IsRead
good_read wanted look true = tt
good_read wanted look false = whole_read wanted.whole look

status_read : (wanted : Wanted) (verdict : Verdict) (look : Look) (found : Bool) → IfSome (status_in wanted verdict look found) IsRead
status_read wanted (verdicts.Good groups transactions records) look found = good_read wanted look found
status_read wanted (verdicts.Refused refusal) look found = tt
status_read wanted (verdicts.Truncated records) look found = tt

pub judgement_read : (wanted : Wanted) (outcome : Result Verdict ToolFault) (look : Look) (found : Bool)
    → IfOk (judgement_in wanted outcome look found) IsJudged
judgement_read wanted (Err fault) look found = tt
judgement_read wanted (Ok verdict) look found = by (status_in wanted verdict look found) (status_read wanted verdict look found) where
  by : (o : Option Status) → IfSome o IsRead → IfOk (judged_with verdict look o) IsJudged
  by None h = tt
  by (Some status) h = h

-- what is made of an input is right of its bytes
pub judges_on : (advice : Option (Bool × ℕ)) (limits : Limits) (wanted : Wanted) (before : Option (List ℕ))
    (outcome : Result Verdict ToolFault) (look : Look) (found : Bool) → JudgesText limits before outcome
    → OnOk outcome (SeesFound advice wanted.fail_on limits before found) → OnOk outcome (LooksAfter limits before look)
    → JudgesOn advice limits wanted before (judgement_in wanted outcome look found)
judges_on advice limits wanted before (Ok verdict) look found judged seen looked =
    by (status_in wanted verdict look found) refl where
      by : (o : Option Status) → status_in wanted verdict look found ≡ o
          → JudgesOn advice limits wanted before (judged_with verdict look o)
      by None e = tt
      by (Some status) e = status_on_input advice limits wanted before verdict look found status judged seen looked e
judges_on advice limits wanted before (Err tool_faults.Reader) look found judged seen looked = tt
judges_on advice limits wanted before (Err (tool_faults.Writer written)) look found judged seen looked = tt
judges_on advice limits wanted before (Err tool_faults.Memory) look found judged seen looked = tt
judges_on advice limits wanted before (Err (tool_faults.Refused refusal)) look found judged seen looked = absurd judged
judges_on advice limits wanted before (Err (tool_faults.Truncated records)) look found judged seen looked = absurd judged
judges_on advice limits wanted before (Err (tool_faults.Limit limit)) look found judged seen looked = absurd judged
judges_on advice limits wanted before (Err tool_faults.Output) look found judged seen looked = absurd judged

-- ---- what is told, and counted

-- what was written is what is asked for
pub told_as : {W : Type 0} (telling by : Telling) (limits : Limits) (before after : Option (List ℕ))
    (contents : W → Option (List ℕ)) (old new : W) (outcome : Result Verdict ToolFault) → telling ≡ by → TellsUpTo by limits
    before after contents old new outcome
    → TellsText telling limits before contents old new outcome
told_as telling by limits before after contents old new outcome is told =
    (after, subst (λ (t : Telling). TellsUpTo t limits before after contents old new outcome) (sym is) told)

-- and so are the lines of a report
pub told_by : {W : Type 0} (telling by : Telling) (limits : Limits) (before : Option (List ℕ)) (contents : W → Option (List ℕ))
    (old new : W) (outcome : Result Verdict ToolFault) → telling ≡ by → TellsText by limits before contents old new outcome
    → TellsText telling limits before contents old new outcome
told_by telling by limits before contents old new outcome is told =
    subst (λ (t : Telling). TellsText t limits before contents old new outcome) (sym is) told

-- after a run the look is made only where there is a verdict
pub counts_reading : (outcome : Result Verdict ToolFault) (look : Look) (old mid new : ℕ) → CountsReaderFault outcome old mid
    → OnErr outcome (look ≡ looks.Unasked) → CountsLook look mid new → CountsReading outcome look old new
counts_reading (Ok verdict) look old mid new run unasked looked = subst (λ (n : ℕ). CountsLook look n new) run looked
counts_reading (Err fault) look old mid new run unasked looked =
    let same : new ≡ mid =
    subst (λ (l : Look). CountsLook l mid new) unasked looked in
    subst (λ (n : ℕ). CountsReaderFault (Err fault) old n) (sym same) run

-- an explanation looks itself
pub counts_explained : (outcome : Result Verdict ToolFault) (found : Option Trailing) (old new : ℕ)
    → CountsReaderFault outcome old new → CountsReading outcome (look_of found) old new
counts_explained (Ok verdict) None old new run = run
counts_explained (Ok verdict) (Some trailing) old new run = run
counts_explained (Err fault) found old new run = run

-- a good verdict has no status only where the look failed
look_failed : (look : Look) → status_after look ≡ None → look ≡ looks.Failed
look_failed (looks.Found trailing) e = by (follows trailing) e
  where
    by : (b : Bool) → (if b then Some statuses.Refused else Some statuses.Good) ≡ None → looks.Found trailing ≡ looks.Failed
    by true f = absurd (cc f)
    by false f = absurd (cc f)
look_failed looks.Failed e = refl
look_failed looks.Unasked e = absurd (cc e)

failed_whole : (whole : Bool) (look : Look) → (if whole then status_after look else Some statuses.Good) ≡ None
    → look ≡ looks.Failed
failed_whole true look e = look_failed look e
failed_whole false look e = absurd (cc e)

failed_good : (wanted : Wanted) (look : Look) (found : Bool) → good_status wanted look found ≡ None → look ≡ looks.Failed
failed_good wanted look true e = absurd (cc e)
failed_good wanted look false e = failed_whole wanted.whole look e

failed_in : (wanted : Wanted) (verdict : Verdict) (look : Look) (found : Bool) → status_in wanted verdict look found ≡ None
    → look ≡ looks.Failed
failed_in wanted (verdicts.Good groups transactions records) look found e = failed_good wanted look found e
failed_in wanted (verdicts.Refused refusal) look found e = absurd (cc e)
failed_in wanted (verdicts.Truncated records) look found e = absurd (cc e)

-- what is judged counts the input's failures as the run did
pub counts_input : (wanted : Wanted) (outcome : Result Verdict ToolFault) (look : Look) (found : Bool) (old new : ℕ)
    → CountsReading outcome look old new → CountsInput (judgement_in wanted outcome look found) old new
counts_input wanted (Err fault) look found old new counted = counted
counts_input wanted (Ok verdict) look found old new counted = by (status_in wanted verdict look found) refl
  where
    by : (o : Option Status) → status_in wanted verdict look found ≡ o → CountsInput (judged_with verdict look o) old new
    by (Some status) e = counted
    by None e = subst (λ (l : Look). CountsLook l old new) (failed_in wanted verdict look found e) counted

-- what holds of the outcome holds of the verdict that was judged
pub judged_told : (P : Result Verdict ToolFault → Type 0) (wanted : Wanted) (outcome : Result Verdict ToolFault) (look : Look)
    (found : Bool) → P outcome → IfOk (judgement_in wanted outcome look found) (λ judgement. P (Ok judgement.verdict))
judged_told P wanted (Err fault) look found p = tt
judged_told P wanted (Ok verdict) look found p = by (status_in wanted verdict look found)
  where
    by : (o : Option Status) → IfOk (judged_with verdict look o) (λ judgement. P (Ok judgement.verdict))
    by None = tt
    by (Some status) = p

-- so does what was told
pub told_verdict : {W : Type 0} (telling : Telling) (limits : Limits) (before : Option (List ℕ)) (contents : W → Option (List ℕ))
    (old new : W) (wanted : Wanted) (outcome : Result Verdict ToolFault) (look : Look) (found : Bool)
    → TellsText telling limits before contents old new outcome → IfOk (judgement_in wanted outcome look found)
    (λ judgement. TellsText telling limits before contents old new (Ok judgement.verdict))
told_verdict telling limits before contents old new wanted outcome look found told =
    judged_told (λ o. TellsText telling limits before contents old new o) wanted outcome look found told

pub judged_on : (P : Type 0) (wanted : Wanted) (outcome : Result Verdict ToolFault) (look : Look) (found : Bool) → OnOk outcome P
    → OnOk (judgement_in wanted outcome look found) P
judged_on P wanted (Err fault) look found p = tt
judged_on P wanted (Ok verdict) look found p = by (status_in wanted verdict look found)
  where
    by : (o : Option Status) → OnOk (judged_with verdict look o) P
    by None = tt
    by (Some status) = p

-- the writer's failures are those of the outcome
pub judged_counts : (wanted : Wanted) (outcome : Result Verdict ToolFault) (look : Look) (found : Bool) (old new : ℕ)
    → CountsWriterFault outcome old new → CountsWriting (judgement_in wanted outcome look found) old new
judged_counts wanted (Ok verdict) look found old new e = by (status_in wanted verdict look found)
  where
    by : (o : Option Status) → CountsWriting (judged_with verdict look o) old new
    by None = e
    by (Some status) = e
judged_counts wanted (Err (tool_faults.Writer written)) look found old new e = e
judged_counts wanted (Err tool_faults.Reader) look found old new e = e
judged_counts wanted (Err tool_faults.Memory) look found old new e = e
judged_counts wanted (Err (tool_faults.Refused refusal)) look found old new e = e
judged_counts wanted (Err (tool_faults.Truncated records)) look found old new e = e
judged_counts wanted (Err (tool_faults.Limit limit)) look found old new e = e
judged_counts wanted (Err tool_faults.Output) look found old new e = e

-- what the input counted is counted by the store that takes it back
looked_at_store : (look : Look) (read read_now old new : ℕ) → read ≡ 0 → CountsLook look read read_now
    → new ≡ counted_on read_now old → CountsLook look old new
looked_at_store (looks.Found trailing) read read_now old new none h e = e ∙ ap (λ (n : ℕ). counted_on n old) (h ∙ none)
looked_at_store looks.Failed read read_now old new none h e =
    e ∙ ap (λ (n : ℕ). counted_on n old) (h ∙ ap one_more_failure none)
looked_at_store looks.Unasked read read_now old new none h e = e ∙ ap (λ (n : ℕ). counted_on n old) (h ∙ none)

pub counts_at_store : (judged : Result Judgement ToolFault) (read read_now old new : ℕ) → read ≡ 0 → CountsInput judged read read_now
    → new ≡ counted_on read_now old → CountsInput judged old new
counts_at_store (Ok judgement) read read_now old new none h e = looked_at_store judgement.look read read_now old new none h e
counts_at_store (Err tool_faults.Reader) read read_now old new none h e =
    e ∙ ap (λ (n : ℕ). counted_on n old) (h ∙ ap one_more_failure none)
counts_at_store (Err (tool_faults.Writer written)) read read_now old new none h e = e ∙ ap (λ (n : ℕ). counted_on n old) (h ∙ none)
counts_at_store (Err tool_faults.Memory) read read_now old new none h e = e ∙ ap (λ (n : ℕ). counted_on n old) (h ∙ none)
counts_at_store (Err (tool_faults.Refused refusal)) read read_now old new none h e = e ∙ ap (λ (n : ℕ). counted_on n old) (h ∙ none)
counts_at_store (Err (tool_faults.Truncated records)) read read_now old new none h e = e ∙ ap (λ (n : ℕ). counted_on n old) (h ∙ none)
counts_at_store (Err (tool_faults.Limit limit)) read read_now old new none h e = e ∙ ap (λ (n : ℕ). counted_on n old) (h ∙ none)
counts_at_store (Err tool_faults.Output) read read_now old new none h e = e ∙ ap (λ (n : ℕ). counted_on n old) (h ∙ none)

-- ---- how a run ends

-- what was judged ends so
pub read_judged : {A B : Type 0} (advice : Option (Bool × ℕ)) (limits : Limits) (wanted : Wanted) (before : Option (List ℕ))
    (judged : Result Judgement ToolFault) (judgement : Judgement) (a : A) (b : B) → judged ≡ Ok judgement
    → JudgesOn advice limits wanted before judged → JudgesRead {A = A} {B = B} advice limits wanted before (Ok (judgement, a, b))
read_judged advice limits wanted before judged judgement a b e h = subst (JudgesOn advice limits wanted before) e h

-- and it is good or refused
pub was_judged : (judged : Result Judgement ToolFault) (judgement : Judgement) → judged ≡ Ok judgement → IfOk judged IsJudged
    → IsJudged judgement
was_judged judged judgement e h = subst (λ (r : Result Judgement ToolFault). IfOk r IsJudged) e h

stops_so : (A B : Type 0) (advice : Option (Bool × ℕ)) (limits : Limits) (wanted : Wanted) (before : Option (List ℕ)) (told : Told)
    (fault : ToolFault) (stop : Stop) → JudgesOn advice limits wanted before (Err fault) → IsStopOf told fault stop
    → JudgesRead {A = A} {B = B} advice limits wanted before (Err stop)
stops_so A B advice limits wanted before told tool_faults.Reader stop h e = subst (λ (s : Stop). EndsOnInput advice limits wanted before (Err s)) (sym e) tt
stops_so A B advice limits wanted before told (tool_faults.Writer n) stop h e = subst (λ (s : Stop). EndsOnInput advice limits wanted before (Err s)) (sym e) tt
stops_so A B advice limits wanted before told tool_faults.Memory stop h e = subst (λ (s : Stop). EndsOnInput advice limits wanted before (Err s)) (sym e) tt
stops_so A B advice limits wanted before told (tool_faults.Refused r) stop h e = absurd h
stops_so A B advice limits wanted before told (tool_faults.Truncated n) stop h e = absurd h
stops_so A B advice limits wanted before told (tool_faults.Limit l) stop h e = absurd h
stops_so A B advice limits wanted before told tool_faults.Output stop h e = absurd h

-- so does what couldn't be judged
pub read_stopped : (A B : Type 0) (advice : Option (Bool × ℕ)) (limits : Limits) (wanted : Wanted) (before : Option (List ℕ))
    (judged : Result Judgement ToolFault) (told : Told) (fault : ToolFault) (stop : Stop) → judged ≡ Err fault
    → JudgesOn advice limits wanted before judged → IsStopOf told fault stop
    → JudgesRead {A = A} {B = B} advice limits wanted before (Err stop)
read_stopped A B advice limits wanted before judged told fault stop e h is =
    stops_so A B advice limits wanted before told fault stop (subst (JudgesOn advice limits wanted before) e h) is

-- the failures that a stop stands for
counts_so : (A : Type 0) (advice : Option (Bool × ℕ)) (limits : Limits) (wanted : Wanted) (before : Option (List ℕ)) (told : Told)
    (fault : ToolFault) (stop : Stop) (old new out out_now : ℕ) → JudgesOn advice limits wanted before (Err fault)
    → IsStopOf told fault stop → CountsInput (Err fault) old new → CountsWriting (Err fault) out out_now
    → CountsStop {A = A} (Err stop) old new out out_now
counts_so A advice limits wanted before told tool_faults.Reader stop old new out out_now h e read written =
    subst (λ (s : Stop). CountsStop {A = A} (Err s) old new out out_now) (sym e) (read, written)
counts_so A advice limits wanted before told (tool_faults.Writer n) stop old new out out_now h e read written =
    subst (λ (s : Stop). CountsStop {A = A} (Err s) old new out out_now) (sym e) written
counts_so A advice limits wanted before told tool_faults.Memory stop old new out out_now h e read written =
    subst (λ (s : Stop). CountsStop {A = A} (Err s) old new out out_now) (sym e) (read, written)
counts_so A advice limits wanted before told (tool_faults.Refused r) stop old new out out_now h e read written = absurd h
counts_so A advice limits wanted before told (tool_faults.Truncated n) stop old new out out_now h e read written = absurd h
counts_so A advice limits wanted before told (tool_faults.Limit l) stop old new out out_now h e read written = absurd h
counts_so A advice limits wanted before told tool_faults.Output stop old new out out_now h e read written = absurd h

pub stop_counted : (A : Type 0) (advice : Option (Bool × ℕ)) (limits : Limits) (wanted : Wanted) (before : Option (List ℕ))
    (judged : Result Judgement ToolFault) (told : Told) (fault : ToolFault) (stop : Stop) (old new out out_now : ℕ)
    → judged ≡ Err fault → JudgesOn advice limits wanted before judged → IsStopOf told fault stop
    → CountsInput judged old new → CountsWriting judged out out_now → CountsStop {A = A} (Err stop) old new out out_now
stop_counted A advice limits wanted before judged told fault stop old new out out_now e h is read written =
    counts_so A advice limits wanted before told fault stop old new out out_now (subst (JudgesOn advice limits wanted before) e h) is
    (subst (λ (r : Result Judgement ToolFault). CountsInput r old new) e read)
    (subst (λ (r : Result Judgement ToolFault). CountsWriting r out out_now) e written)

-- none where it was judged
pub end_counted : {A : Type 0} (judged : Result Judgement ToolFault) (judgement : Judgement) (a : A) (old new out out_now : ℕ)
    → judged ≡ Ok judgement → CountsWriting judged out out_now → CountsStop (Ok a) old new out out_now
end_counted judged judgement a old new out out_now e written =
    subst (λ (r : Result Judgement ToolFault). CountsWriting r out out_now) e written

-- the lines that were told
pub lines_told : {A W : Type 0} (telling : Telling) (limits : Limits) (before : Option (List ℕ)) (contents : W → Option (List ℕ))
    (old new : W) (judged : Result Judgement ToolFault) (judgement : Judgement) (a : A) → judged ≡ Ok judgement
    → IfOk judged (λ j. TellsText telling limits before contents old new (Ok j.verdict))
    → TellsLines {A = A} telling limits before contents old new (Ok a)
lines_told telling limits before contents old new judged judgement a e h = (
  judgement.verdict,
  subst (λ (r : Result Judgement ToolFault). IfOk r (λ j. TellsText telling limits before contents old new (Ok j.verdict))) e h,
)

-- ---- a run over what a word names

pub ends_on_read : (advice : Option (Bool × ℕ)) (limits : Limits) (wanted : Wanted) (held : Option Texts)
    (standard name left : Option (List ℕ)) (ending : Result Status Stop) → IsLeftOf held standard name left
    → EndsOnInput advice limits wanted left ending → EndsOnRead advice limits wanted held standard name ending
ends_on_read advice limits wanted held standard name left (Ok status) e h =
    if_read held standard name left (λ text. IsStatusBy (Counts advice) limits wanted text status) e h
ends_on_read advice limits wanted held standard name left (Err stops.Output) e h = tt
ends_on_read advice limits wanted held standard name left (Err (stops.Fault (faults.Read told))) e h = tt
ends_on_read advice limits wanted held standard name left (Err (stops.Fault faults.Memory)) e h = tt
ends_on_read advice limits wanted held standard name left (Err (stops.Fault (faults.Open of reason))) e h = absurd h
ends_on_read advice limits wanted held standard name left (Err (stops.Fault (faults.Write told))) e h = absurd h
ends_on_read advice limits wanted held standard name left (Err (stops.Fault (faults.Output of reason))) e h = absurd h
ends_on_read advice limits wanted held standard name left (Err (stops.Fault (faults.IsInput of))) e h = absurd h
ends_on_read advice limits wanted held standard name left (Err (stops.Fault (faults.IsThere of))) e h = absurd h
ends_on_read advice limits wanted held standard name left (Err (stops.Fault (faults.IsTwice of))) e h = absurd h
ends_on_read advice limits wanted held standard name left (Err (stops.Fault (faults.IsOther of))) e h = absurd h
ends_on_read advice limits wanted held standard name left (Err (stops.Fault (faults.IsLate of))) e h = absurd h

-- where it can't be opened
pub unopened_ends : {I : Type 0} (advice : Option (Bool × ℕ)) (limits : Limits) (wanted : Wanted) (held : Option Texts)
    (standard name : Option (List ℕ)) (input : Option I) (old new : ℕ) (fault : Fault) → IsUnopenedBy name input old new fault
    → EndsOnRead advice limits wanted held standard name (Err (stops.Fault fault))
unopened_ends advice limits wanted held standard name input old new fault h =
    by_unopened name input old new (λ (f : Fault). EndsOnRead advice limits wanted held standard name (Err (stops.Fault f)))
    (λ is gone same. tt) (λ of reason is word counted. tt) fault h

pub export_of_read : (advice : Option (Bool × ℕ)) (limits : Limits) (wanted : Wanted) (held : Option Texts)
    (standard name left : Option (List ℕ)) (ending : Result Status Stop) → IsLeftOf held standard name left
    → EndsAsExport advice limits wanted left ending → EndsAsExportOf advice limits wanted held standard name ending
export_of_read advice limits wanted held standard name left (Ok status) e h =
    if_read held standard name left (λ text. IsStatusBy (Counts advice) limits wanted text status) e h
export_of_read advice limits wanted held standard name left (Err stop) e h = tt

-- ---- how many findings were told

-- nothing is said of that where it isn't the findings that are told
pub uncounted : (telling other : Telling) (limits : Limits) (before : Option (List ℕ)) (outcome : Result Verdict ToolFault)
    (count : FindingCount) → telling ≡ other → CountsFindings other limits before count
    → OnOk outcome (CountsFindings telling limits before count)
uncounted telling other limits before (Err fault) count is counted = tt
uncounted telling other limits before (Ok verdict) count is counted =
    subst (λ (t : Telling). CountsFindings t limits before count) (sym is) counted

pub counted_told : (telling other : Telling) (limits : Limits) (before : Option (List ℕ)) (outcome : Result Verdict ToolFault)
    (count : FindingCount) → telling ≡ other → OnOk outcome (CountsFindings other limits before count)
    → OnOk outcome (CountsFindings telling limits before count)
counted_told telling other limits before outcome count is counted =
    subst (λ (t : Telling). OnOk outcome (CountsFindings t limits before count)) (sym is) counted

-- What is written of one input where its lines are marked.
use Rattle.std.proofs.Common.{◌≡◌, ◌<◌, ℕ, Bool, true, false, List, [], ◌++◌, Option, None, Some, refl, sym, ap, subst, ◌∙◌, append-nil, append_assoc, true≢false}
use Rattle.std.specs.Prelude.{IfOk, Result, Ok, Err}
use Rattle.cwr_files.specs.Format.Faults.{IfErr}
use Rattle.std.specs.Io.KnownBytes.{Appends}
use Rattle.cwr_devices.specs.Format.Failures.{most_failures, one_more_failure}
use Rattle.cwr_devices.specs.declared.sinks.Sink.{Sink}
use Rattle.cwr_devices.specs.Steps.Sinks.{HasWritten, PutsText, has_failed}
use Rattle.cwr_shape.specs.declared.limits.Limits.{Limits}
use Rattle.cwr_tools.specs.declared.verdicts.Verdict.{Verdict}
use Rattle.cwr_tools.specs.declared.verdicts.ToolFault.{ToolFault}
use Rattle.cwr_tools.specs.declared.verdicts.ToolFault.TheVariants as tool_faults
use Rattle.cwr_files.specs.declared.faults.Fault.TheVariants as faults
use Rattle.cwr_files.specs.declared.faults.Told.{Told}
use Rattle.cwr_files.specs.declared.markings.Passing.{Passing}
use Rattle.cwr_files.specs.declared.markings.Passing.TheVariants as passings
use Rattle.cwr_files.specs.Format.FileLines.{marked}
use Rattle.cwr_endings.specs.declared.endings.Look.{Look}
use Rattle.cwr_endings.specs.declared.judgements.Judgement.{Judgement}
use Rattle.cwr_endings.specs.declared.stops.Stop.{Stop}
use Rattle.cwr_endings.specs.declared.stops.Stop.TheVariants as stops
use Rattle.cwr_endings.specs.Format.Puts.{PutsOut, PutsQuiet}
use Rattle.cwr_endings.specs.Steps.Looks.{CountsLook}
use Rattle.cwr_reports.specs.declared.tellings.Asked.{Asked}
use Rattle.cwr_reports.specs.declared.tellings.Telling.{Telling}
use Rattle.cwr_reports.specs.Steps.Marked.{AreLines, MarksRead, PassesRead, WritesLines, passing_asked, unwanted_line, unwanted_verdict}
use Rattle.cwr_reports.specs.Steps.Tellings.{CountsInput, CountsStop, CountsWriting, IsStopOf, IsTold, StopsTold, TellsText}
use Rattle.cwr_reports.proofs.lemmas.Told.{told_listed}

appends_on : (a b c : Option (List ℕ)) (xs ys : List ℕ) → Appends a b xs → Appends b c ys → Appends a c (xs ++ ys)
appends_on None b c xs ys h k = tt
appends_on (Some x) None c xs ys h k = absurd h
appends_on (Some x) (Some y) None xs ys h k = absurd k
appends_on (Some x) (Some y) (Some z) xs ys h k = k ∙ ap (λ (l : List ℕ). l ++ ys) h ∙ append_assoc x xs ys

pub appends_none : (a : Option (List ℕ)) → Appends a a []
appends_none None = tt
appends_none (Some x) = sym (append-nil x)

-- nothing is put
pub puts_none : {W : Type 0} (contents : W → Option (List ℕ)) (failures : W → ℕ) (text : List ℕ) (sink : Sink W) → text ≡ []
    → has_failed sink ≡ false → PutsText contents failures text (Ok tt) sink sink
puts_none contents failures text sink none unfailed = record {
  written = λ start before h.
      subst (λ (t : List ℕ). HasWritten contents start t sink) (sym (ap (λ (t : List ℕ). before ++ t) none ∙ append-nil before)) h;
  fault = tt;
  failed = unfailed;
  failures_counted = λ e. refl;
  again = λ e. refl;
}

-- what was marked is so by the names that it was asked with
pub marked_as : (start old now : Option (List ℕ)) (name name_now : Option (List ℕ)) (passing passing_now : Passing) (text : List ℕ)
    → start ≡ old → name ≡ name_now → passing ≡ passing_now → Appends start now (marked name passing text)
    → Appends old now (marked name_now passing_now text)
marked_as start old now name name_now passing passing_now text e is by h =
    subst (λ (o : Option (List ℕ)). Appends o now (marked name_now passing_now text)) e
    (subst (λ (n : Option (List ℕ)). Appends start now (marked n passing_now text)) is
    (subst (λ (p : Passing). Appends start now (marked name p text)) by h))

-- ---- what was told

pub told_read : {X : Type 0} (contents : X → Option (List ℕ)) (telling : Telling) (limits : Limits) (before : Option (List ℕ))
    (old new : X) (text : List ℕ) (judged : Result Judgement ToolFault) (judgement : Judgement) → judged ≡ Ok judgement
    → contents old ≡ Some [] → contents new ≡ Some text
    → IfOk judged (λ j. TellsText telling limits before contents old new (Ok j.verdict))
    → IsTold telling limits before text (Ok judgement.verdict)
told_read contents telling limits before old new text judged judgement e empty has h =
    told_listed contents telling limits before old new text (Ok judgement.verdict) empty has
    (subst (λ (r : Result Judgement ToolFault). IfOk r (λ j. TellsText telling limits before contents old new (Ok j.verdict))) e h)

pub told_up_to : {X : Type 0} (contents : X → Option (List ℕ)) (telling : Telling) (limits : Limits) (before : Option (List ℕ))
    (old new : X) (text : List ℕ) (judged : Result Judgement ToolFault) (fault : ToolFault) → judged ≡ Err fault
    → contents old ≡ Some [] → contents new ≡ Some text → IfErr judged (StopsTold telling limits before contents old new)
    → (outcome : Result Verdict ToolFault) × IsTold telling limits before text outcome
told_up_to contents telling limits before old new text judged fault e empty has h =
    let it = subst (λ (r : Result Judgement ToolFault). IfErr r (StopsTold telling limits before contents old new)) e h in
    (it.0, told_listed contents telling limits before old new text it.0 empty has it.2)

-- ---- what was counted

pub writes_well : (judged : Result Judgement ToolFault) (judgement : Judgement) (out out_now : ℕ) → judged ≡ Ok judgement
    → CountsWriting judged out out_now → out_now ≡ out
writes_well judged judgement out out_now e h = subst (λ (r : Result Judgement ToolFault). CountsWriting r out out_now) e h

pub looks_well : (judged : Result Judgement ToolFault) (judgement : Judgement) (old new : ℕ) → judged ≡ Ok judgement
    → CountsInput judged old new → CountsLook judgement.look old new
looks_well judged judgement old new e h = subst (λ (r : Result Judgement ToolFault). CountsInput r old new) e h

-- where it failed, what was told up to there is written, unless standard output failed
passes_stop : (A B : Type 0) {W : Type 0} (limits : Limits) (telling : Telling) (name : Option (List ℕ)) (passing : Passing) (left : Option (List ℕ))
    (contents : W → Option (List ℕ)) (old new : W) (told : Told) (fault : ToolFault) (stop : Stop) (out out_now : ℕ)
    → IsStopOf told fault stop → CountsWriting (Err fault) out out_now
    → (out_now ≡ out → (text : List ℕ) × (outcome : Result Verdict ToolFault) × IsTold telling limits left text outcome
    × Appends (contents old) (contents new) (marked name passing text))
    → PassesRead {A = A} {B = B} limits telling name passing left contents old new (Err stop)
passes_stop A B limits telling name passing left contents old new told tool_faults.Reader stop out out_now e counted h =
    subst (λ (s : Stop). PassesRead {A = A} {B = B} limits telling name passing left contents old new (Err s)) (sym e) (h counted)
passes_stop A B limits telling name passing left contents old new told (tool_faults.Writer n) stop out out_now e counted h =
    subst (λ (s : Stop). PassesRead {A = A} {B = B} limits telling name passing left contents old new (Err s)) (sym e) tt
passes_stop A B limits telling name passing left contents old new told tool_faults.Memory stop out out_now e counted h =
    subst (λ (s : Stop). PassesRead {A = A} {B = B} limits telling name passing left contents old new (Err s)) (sym e) (h counted)
passes_stop A B limits telling name passing left contents old new told (tool_faults.Refused r) stop out out_now e counted h =
    subst (λ (s : Stop). PassesRead {A = A} {B = B} limits telling name passing left contents old new (Err s)) (sym e) (h counted)
passes_stop A B limits telling name passing left contents old new told (tool_faults.Truncated n) stop out out_now e counted h =
    subst (λ (s : Stop). PassesRead {A = A} {B = B} limits telling name passing left contents old new (Err s)) (sym e) (h counted)
passes_stop A B limits telling name passing left contents old new told (tool_faults.Limit l) stop out out_now e counted h =
    subst (λ (s : Stop). PassesRead {A = A} {B = B} limits telling name passing left contents old new (Err s)) (sym e) (h counted)
passes_stop A B limits telling name passing left contents old new told tool_faults.Output stop out out_now e counted h =
    subst (λ (s : Stop). PassesRead {A = A} {B = B} limits telling name passing left contents old new (Err s)) (sym e) (h counted)

pub passes_stopped : (A B : Type 0) {W : Type 0} (limits : Limits) (telling : Telling) (name : Option (List ℕ)) (passing : Passing)
    (left : Option (List ℕ)) (contents : W → Option (List ℕ)) (old new : W) (told : Told) (judged : Result Judgement ToolFault)
    (fault : ToolFault) (stop : Stop) (out out_now : ℕ) → judged ≡ Err fault → IsStopOf told fault stop → CountsWriting judged out out_now
    → (out_now ≡ out → (text : List ℕ) × (outcome : Result Verdict ToolFault) × IsTold telling limits left text outcome
    × Appends (contents old) (contents new) (marked name passing text))
    → PassesRead {A = A} {B = B} limits telling name passing left contents old new (Err stop)
passes_stopped A B limits telling name passing left contents old new told judged fault stop out out_now is e counted h =
    passes_stop A B limits telling name passing left contents old new told fault stop out out_now e
    (subst (λ (r : Result Judgement ToolFault). CountsWriting r out out_now) is counted) h

-- ---- with what stands last among quiet lines

-- a verdict that is put with the name before it
pub puts_marked : {X W A E : Type 0} (contents : X → Option (List ℕ)) (failures : X → ℕ) (known : W → Option (List ℕ)) (times : W → ℕ)
    (name : Option (List ℕ)) (text taken : List ℕ) (result : Result A E) (old new : X) (lines now : W)
    → PutsOut contents failures text result old new → contents old ≡ Some [] → contents new ≡ Some taken → failures old ≡ times lines
    → failures new ≡ times now
    → (times now ≡ times lines → times lines < most_failures → Appends (known lines) (known now) (marked name passings.All taken))
    → PutsOut known times (marked name passings.All text) result lines now
puts_marked contents failures known times name text taken (Ok u) old new lines now h empty has before after whole =
    let same : times now ≡ times lines = sym after ∙ h.1 ∙ before in
    let few : times lines < most_failures = subst (λ (n : ℕ). n < most_failures) before h.2 in
    let all : taken ≡ text =
    subst (λ (o : Option (List ℕ)). Appends o (Some taken) text) empty
    (subst (λ (o : Option (List ℕ)). Appends (contents old) o text) has h.0) in (
      subst (λ (t : List ℕ). Appends (known lines) (known now) (marked name passings.All t)) all (whole same few),
      same,
      few,
    )
puts_marked contents failures known times name text taken (Err stop) old new lines now h empty has before after whole =
    sym after ∙ h ∙ ap one_more_failure before

pub quietly : {W A E : Type 0} (contents : W → Option (List ℕ)) (failures : W → ℕ) (text : List ℕ) (result : Result A E) (old new : W)
    → PutsOut contents failures text result old new → PutsQuiet contents failures text result old new
quietly contents failures text (Ok u) old new h = (h.0, h.1)
quietly contents failures text (Err stop) old new h = h

-- what was passed on, and what stands last
pub marks_read : {A B W : Type 0} (asked : Asked) (telling : Telling) (name : Option (List ℕ)) (passing : Passing) (left : Option (List ℕ))
    (contents : W → Option (List ℕ)) (old mid new : W) (judgement : Judgement) (a : A) (b : B) → passing ≡ passing_asked asked
    → PassesRead {A = A} {B = B} asked.limits telling name passing left contents old mid (Ok (judgement, a, b))
    → Appends (contents mid) (contents new) (unwanted_line asked.quiet name judgement)
    → MarksRead {A = A} {B = B} asked telling name left contents old new (Ok (judgement, a, b))
marks_read asked telling name passing left contents old mid new judgement a b by h more = (
  marked name (passing_asked asked) h.0 ++ unwanted_line asked.quiet name judgement,
  (h.0, h.1, refl),
  appends_on (contents old) (contents mid) (contents new) (marked name (passing_asked asked) h.0) (unwanted_line asked.quiet name judgement)
      (subst (λ (p : Passing). Appends (contents old) (contents mid) (marked name p h.0)) by h.2) more,
)

-- and of what failed
pub marks_stopped : (A B : Type 0) {W : Type 0} (asked : Asked) (telling : Telling) (name : Option (List ℕ)) (passing : Passing)
    (left : Option (List ℕ)) (contents : W → Option (List ℕ)) (old new : W) (stop : Stop) → passing ≡ passing_asked asked
    → PassesRead {A = A} {B = B} asked.limits telling name passing left contents old new (Err stop)
    → MarksRead {A = A} {B = B} asked telling name left contents old new (Err stop)
marks_stopped A B asked telling name passing left contents old new stops.Output by h = tt
marks_stopped A B asked telling name passing left contents old new (stops.Fault fault) by h = (
  marked name (passing_asked asked) h.0,
  (h.0, h.1, h.2, refl),
  subst (λ (p : Passing). Appends (contents old) (contents new) (marked name p h.0)) by h.3,
)

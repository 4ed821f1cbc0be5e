-- What is told to a writer is told in the words of a list.
use Rattle.std.proofs.Common.{◌≡◌, ◌<◌, ℕ, Bool, true, false, List, [], ◌++◌, Option, None, Some, refl, sym, ap, subst, ◌∙◌, append-nil, true≢false}
use Rattle.std.specs.Prelude.{IfOk, Result, Ok, Err}
use Rattle.cwr_files.specs.Format.Faults.{IfErr}
use Rattle.std.specs.Io.KnownBytes.{Appends}
use Rattle.cwr_shape.specs.declared.limits.Limits.{Limits}
use Rattle.cwr_encode.specs.Format.Finishing.{HasFront}
use Rattle.cwr_tools.specs.declared.verdicts.Verdict.{Verdict}
use Rattle.cwr_tools.specs.declared.verdicts.Verdict.TheVariants as verdicts
use Rattle.cwr_tools.specs.declared.verdicts.ToolFault.{ToolFault}
use Rattle.cwr_tools.specs.declared.verdicts.ToolFault.TheVariants as tool_faults
use Rattle.cwr_tools.specs.Format.Reports.{ItemLines, lines_of_counted, lines_of_data, lines_of_explained, lines_of_findings}
use Rattle.cwr_acks.specs.Format.AckLines.{lines_of_acks}
use Rattle.cwr_advise.specs.Format.AdviceLines.{lines_of_advice}
use Rattle.cwr_tables.specs.Format.TableLines.{lines_of_table}
use Rattle.std.specs.Option.{is_some}
use Rattle.cwr_tools.specs.Steps.Reports.{Reports}
use Rattle.cwr_explain.specs.Steps.Explained.{Explains}
use Rattle.cwr_lint.specs.Format.Wanted.{Wanted, lines_linted, lines_up_to, wanting}
use Rattle.cwr_lint.specs.Steps.Lints.{Lints, Tells, TellsEnd, TellsFaults}
use Rattle.cwr_endings.specs.declared.endings.Look.{Look}
use Rattle.cwr_endings.specs.declared.endings.Status.{Status}
use Rattle.cwr_endings.specs.declared.endings.Wanted.{Wanted as Wanting}
use Rattle.cwr_endings.specs.declared.judgements.Judgement.{Judgement}
use Rattle.cwr_endings.specs.Steps.Looks.{judged_with, judgement_in, status_in}
use Rattle.cwr_files.specs.Format.FileLines.{marked}
use Rattle.cwr_reports.specs.declared.tellings.Telling.{Telling}
use Rattle.cwr_reports.specs.declared.tellings.Telling.TheVariants as tellings
use Rattle.cwr_reports.specs.Steps.Tellings.{IsTold, StopsTold, TellsText, TellsUpTo, telling_alone}

-- the list of a writer
abbrev known : Option (List ℕ) → Option (List ℕ)
known o = o

module _ {W : Type 0} (contents : W → Option (List ℕ)) where
  front_listed : (start : Option (List ℕ)) (new : W) (text : List ℕ) (n : ℕ) → HasFront contents start new text n
      → HasFront known start (contents new) text n
  front_listed start new text n h = record {
    bytes = h.bytes;
    rest = h.rest;
    split = h.split;
    has = record { appended = h.has.appended; counted = h.has.counted };
  }

  reports_listed : (of : ItemLines) (limits : Limits) (before after : Option (List ℕ)) (old new : W) (outcome : Result Verdict ToolFault)
      → Reports of limits before after contents old new outcome
      → Reports of limits before after known (contents old) (contents new) outcome
  reports_listed of limits before after old new (Ok verdict) h = h
  reports_listed of limits before after old new (Err tool_faults.Reader) h = h
  reports_listed of limits before after old new (Err tool_faults.Memory) h = h
  reports_listed of limits before after old new (Err (tool_faults.Writer written)) h =
      (h.0, h.1, h.2, front_listed (contents old) new h.1 written h.3)
  reports_listed of limits before after old new (Err (tool_faults.Refused refusal)) h = absurd h
  reports_listed of limits before after old new (Err (tool_faults.Truncated records)) h = absurd h
  reports_listed of limits before after old new (Err (tool_faults.Limit limit)) h = absurd h
  reports_listed of limits before after old new (Err tool_faults.Output) h = absurd h

  explains_listed : (limits : Limits) (name : List ℕ) (before after : Option (List ℕ)) (old new : W) (outcome : Result Verdict ToolFault)
      → Explains limits name before after contents old new outcome
      → Explains limits name before after known (contents old) (contents new) outcome
  explains_listed limits name before after old new outcome h = record {
    between = contents h.between;
    left = h.left;
    checked = h.checked;
    reported = reports_listed lines_of_explained limits before h.left old h.between h.checked h.reported;
    words = h.words;
    written = h.written;
    more = h.more;
    taken = h.taken;
    answered = h.answered;
    says = h.says;
  }

  lints_listed : (wanted : Wanted) (limits : Limits) (before after : Option (List ℕ)) (old new : W) (outcome : Result Verdict ToolFault)
      → Lints wanted limits before after contents old new outcome
      → Lints wanted limits before after known (contents old) (contents new) outcome
  lints_listed wanted limits before after old new outcome h = record {
    between = contents h.between;
    left = h.left;
    checked = h.checked;
    reported = reports_listed (lines_up_to wanted) limits before h.left old h.between h.checked h.reported;
    words = h.words;
    written = h.written;
    more = h.more;
    taken = h.taken;
    answered = h.answered;
    leaves = h.leaves;
  }

  tells_listed : (wanted : Wanted) (limits : Limits) (before after : Option (List ℕ)) (old new : W) (verdict : Verdict)
      → Tells wanted limits before after contents old new verdict
      → Tells wanted limits before after known (contents old) (contents new) verdict
  tells_listed wanted limits before after old new (verdicts.Refused refusal) h = record {
    given = h.given;
    left = h.left;
    stopped = h.stopped;
    more = h.more;
    taken = h.taken;
    refused = h.refused;
    lines = h.lines;
    over = h.over;
    text = h.text;
    last = h.last;
    tally = h.tally;
    heard = h.heard;
    heard_before = h.heard_before;
    told = h.told;
    written = h.written;
    read = h.read;
    cut = h.cut;
    ends = h.ends;
    all = h.all;
  }
  tells_listed wanted limits before after old new (verdicts.Truncated records) h = record {
    between = contents h.between;
    reported = reports_listed (lines_linted wanted) limits before after old h.between (Ok (verdicts.Truncated records)) h.reported;
    words = h.words;
    asked = h.asked;
    written = h.written;
  }
  tells_listed wanted limits before after old new (verdicts.Good groups transactions records) h = h

  told_if : (wanted : Wanted) (limits : Limits) (before after : Option (List ℕ)) (old new : W) (outcome : Result Verdict ToolFault)
      → IfOk outcome (Tells wanted limits before after contents old new)
      → IfOk outcome (Tells wanted limits before after known (contents old) (contents new))
  told_if wanted limits before after old new (Ok verdict) h = tells_listed wanted limits before after old new verdict h
  told_if wanted limits before after old new (Err fault) h = tt

  pub up_to_listed : (telling : Telling) (limits : Limits) (before after : Option (List ℕ)) (old new : W) (outcome : Result Verdict ToolFault)
      → TellsUpTo telling limits before after contents old new outcome
      → TellsUpTo telling limits before after known (contents old) (contents new) outcome
  up_to_listed tellings.Findings limits before after old new outcome h = reports_listed lines_of_findings limits before after old new outcome h
  up_to_listed (tellings.Explained name) limits before after old new outcome h =
      explains_listed limits name.now before after old new outcome h
  up_to_listed (tellings.Faults name advised all) limits before after old new outcome h = (
    lints_listed (wanting (is_some name) advised all) limits before after old new outcome h.0,
    told_if (wanting (is_some name) advised all) limits before after old new outcome h.1,
  )
  up_to_listed tellings.Records limits before after old new outcome h = reports_listed lines_of_counted limits before after old new outcome h
  up_to_listed (tellings.Data encoding numbers) limits before after old new outcome h =
      reports_listed (lines_of_data encoding numbers) limits before after old new outcome h
  up_to_listed (tellings.Rows encoding table) limits before after old new outcome h =
      reports_listed (lines_of_table encoding table) limits before after old new outcome h
  up_to_listed (tellings.Answers form statuses) limits before after old new outcome h =
      reports_listed (lines_of_acks (telling_alone form statuses.now) None) limits before after old new outcome h
  up_to_listed (tellings.Advice all repeated) limits before after old new outcome h =
      reports_listed (lines_of_advice all repeated) limits before after old new outcome h

  -- what was told to a writer that had nothing so far
  pub told_listed : (telling : Telling) (limits : Limits) (before : Option (List ℕ)) (old new : W) (text : List ℕ)
      (outcome : Result Verdict ToolFault) → contents old ≡ Some [] → contents new ≡ Some text
      → TellsText telling limits before contents old new outcome → IsTold telling limits before text outcome
  told_listed telling limits before old new text outcome empty has h = (
    h.0,
    subst (λ (o : Option (List ℕ)). TellsUpTo telling limits before h.0 known o (Some text) outcome) empty
        (subst (λ (o : Option (List ℕ)). TellsUpTo telling limits before h.0 known (contents old) o outcome) has
        (up_to_listed telling limits before h.0 old new outcome h.1)),
  )

-- what was told up to a fault is told up to it where that was judged
pub told_stopped : {W : Type 0} (telling : Telling) (limits : Limits) (before : Option (List ℕ)) (contents : W → Option (List ℕ))
    (old new : W) (wanted : Wanting) (outcome : Result Verdict ToolFault) (look : Look) (found : Bool)
    → TellsText telling limits before contents old new outcome
    → IfErr (judgement_in wanted outcome look found) (StopsTold telling limits before contents old new)
told_stopped telling limits before contents old new wanted (Err fault) look found h = (Err fault, refl, h)
told_stopped telling limits before contents old new wanted (Ok verdict) look found h = by (status_in wanted verdict look found)
  where
    by : (o : Option Status) → IfErr (judged_with verdict look o) (StopsTold telling limits before contents old new)
    by None = (Ok verdict, refl, h)
    by (Some status) = tt

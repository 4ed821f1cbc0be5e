-- A writer of which the bytes were known has known ones once something is told to it.
use Rattle.std.proofs.Common.{◌≡◌, ℕ, List, Option, None, Some, refl, sym, subst, true≢false}
use Rattle.std.specs.Prelude.{IsSome, Result, Ok, Err}
use Rattle.std.specs.Option.{is_some}
use Rattle.std.specs.Io.KnownBytes.{Appends}
use Rattle.cwr_shape.specs.declared.limits.Limits.{Limits}
use Rattle.cwr_tools.specs.declared.verdicts.Verdict.{Verdict}
use Rattle.cwr_tools.specs.declared.verdicts.Verdict.TheVariants as verdicts
use Rattle.cwr_tools.specs.declared.verdicts.ToolFault.{ToolFault}
use Rattle.cwr_tools.specs.Format.Reports.{ItemLines, lines_of_counted, lines_of_data, lines_of_explained, lines_of_findings, text_on}
use Rattle.cwr_tools.specs.Format.Verdicts.{IsAnswerAfter}
use Rattle.cwr_tools.specs.Steps.Reports.{Reports}
use Rattle.cwr_acks.specs.Format.AckLines.{lines_of_acks}
use Rattle.cwr_advise.specs.Format.AdviceLines.{lines_of_advice}
use Rattle.cwr_tables.specs.Format.TableLines.{lines_of_table}
use Rattle.cwr_explain.specs.Steps.Explained.{Explains}
use Rattle.cwr_lint.specs.Format.Wanted.{Wanted, lines_linted, wanting}
use Rattle.cwr_lint.specs.Steps.Lints.{Tells}
use Rattle.cwr_reports.specs.declared.tellings.Telling.{Telling}
use Rattle.cwr_reports.specs.declared.tellings.Telling.TheVariants as tellings
use Rattle.cwr_reports.specs.Steps.Tellings.{TellsText, telling_alone}

-- the bytes themselves
abbrev known : Option (List ℕ) → Option (List ℕ)
known o = o

pub appends_known : (text : List ℕ) (now : Option (List ℕ)) (lines : List ℕ) → Appends (Some text) now lines → IsSome now
appends_known text None lines h = absurd h
appends_known text (Some bytes) lines h = refl

then_known : (between now : Option (List ℕ)) (words : List ℕ) → IsSome between → Appends between now words → IsSome now
then_known None now words some h = absurd (true≢false (sym some))
then_known (Some text) now words some h = appends_known text now words h

module _ (limits : Limits) (before after : Option (List ℕ)) (text : List ℕ) (now : Option (List ℕ)) where
  reports_known : (of : ItemLines) (verdict : Verdict) → Reports of limits before after known (Some text) now (Ok verdict) → IsSome now
  reports_known of verdict h = appends_known text now (text_on of h.0 verdict) h.2

-- what was answered was judged
judged_first : (checked : Result Verdict ToolFault) (verdict : Verdict) → IsAnswerAfter checked (Ok verdict) → (it : Verdict) × (checked ≡ Ok it)
judged_first (Ok it) verdict h = (it, refl)
judged_first (Err fault) verdict h = cc

explains_known : (limits : Limits) (name : List ℕ) (before after : Option (List ℕ)) (text : List ℕ) (now : Option (List ℕ))
    (verdict : Verdict) → Explains limits name before after known (Some text) now (Ok verdict) → IsSome now
explains_known limits name before after text now verdict h =
    let first = judged_first h.checked verdict h.answered in
    then_known h.between now h.words
    (reports_known limits before h.left text h.between lines_of_explained first.0
    (subst (λ (r : Result Verdict ToolFault). Reports lines_of_explained limits before h.left known (Some text) h.between r) first.1
    h.reported)) h.written

tells_known : (wanted : Wanted) (limits : Limits) (before after : Option (List ℕ)) (text : List ℕ) (now : Option (List ℕ))
    (verdict : Verdict) → Tells wanted limits before after known (Some text) now verdict → IsSome now
tells_known wanted limits before after text now (verdicts.Refused refusal) h = appends_known text now _ h.written
tells_known wanted limits before after text now (verdicts.Truncated records) h =
    then_known h.between now h.words
    (reports_known limits before after text h.between (lines_linted wanted) (verdicts.Truncated records) h.reported) h.written
tells_known wanted limits before after text now (verdicts.Good groups transactions records) h =
    reports_known limits before after text now (lines_linted wanted) (verdicts.Good groups transactions records) h

pub told_known : (telling : Telling) (limits : Limits) (before : Option (List ℕ)) (text : List ℕ) (now : Option (List ℕ))
    (verdict : Verdict) → TellsText telling limits before known (Some text) now (Ok verdict) → IsSome now
told_known tellings.Findings limits before text now verdict h =
    reports_known limits before h.0 text now lines_of_findings verdict h.1
told_known (tellings.Explained name) limits before text now verdict h =
    explains_known limits name.now before h.0 text now verdict h.1
told_known (tellings.Faults name advised all) limits before text now verdict h =
    tells_known (wanting (is_some name) advised all) limits before h.0 text now verdict h.1.1
told_known tellings.Records limits before text now verdict h = reports_known limits before h.0 text now lines_of_counted verdict h.1
told_known (tellings.Data encoding numbers) limits before text now verdict h =
    reports_known limits before h.0 text now (lines_of_data encoding numbers) verdict h.1
told_known (tellings.Rows encoding table) limits before text now verdict h =
    reports_known limits before h.0 text now (lines_of_table encoding table) verdict h.1
told_known (tellings.Answers form statuses) limits before text now verdict h =
    reports_known limits before h.0 text now (lines_of_acks (telling_alone form statuses.now) None) verdict h.1
told_known (tellings.Advice all repeated) limits before text now verdict h =
    reports_known limits before h.0 text now (lines_of_advice all repeated) verdict h.1

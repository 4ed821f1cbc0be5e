use Rattle.std.proofs.Common.{◌≡◌, ◌∙◌, List, ℕ, Option, Some, refl, subst}
use Rattle.std.specs.Prelude.{IfErr, IfOk, IfSome, Result}
use Rattle.std.specs.Io.KnownBytes.{prepend_known}
use Rattle.cwr_values.specs.Format.Values.{TransmissionValue}
use Rattle.cwr_judge.specs.Format.Ends.{IsAccepted}
use Rattle.cwr_decode.specs.declared.readings.ReadFault.{ReadFault}
use Rattle.cwr_decode.specs.Format.Runs.{TakesFront}
use Rattle.cwr_decode.specs.Steps.Runs.{StopsReading}
use Rattle.cwr_devices.specs.Steps.Sources.{ahead_of, failures_of, inner_of}
use Rattle.cwr_sent.specs.declared.tables.Sent.{Sent}
use Rattle.cwr_sent.specs.Format.SentFacts.{content_of}
use Rattle.cwr_sent.specs.Format.SentRows.{content_in}
use Rattle.cwr_files.specs.Format.Files.{Texts}
use Rattle.cwr_files.specs.Format.Inputs.{is_standard}
use Rattle.cwr_files.specs.Steps.Inputs.{remaining_of}
use Rattle.cwr_files.specs.Steps.NewFiles.{HasKeptCount}
use Rattle.cwr_files.proofs.lemmas.Counts.{times_kept}
use Rattle.cwr_files.proofs.lemmas.Reads.{if_read}
use Rattle.cwr_endings.proofs.lemmas.StatusesOnTexts.{from_source}
use Rattle.cwr_reports.proofs.lemmas.Pieces.{left_first}
use Rattle.cwr_answers.proofs.lemmas.AnsweredPlaces.{front_taken}
use Rattle.cwr_answers.proofs.lemmas.Ends.{first_on}
use Rattle.cwr_answers.proofs.lemmas.Sent.{sent_good, sent_refused}
use Rattle.cwr_answers.proofs.answers.sent_of.Goals as goal

pub returns-in-Ok-read-clause-first : goal.returns-in-Ok-read-clause-first
returns-in-Ok-read-clause-first g c = λ first is.
    first_on (is_standard (Some c.args.name.now)) g.I.Read.remaining c.args.standard.now c.open_input.new.standard first c.open_input.ensures.standard is

pub returns-in-Ok-verdict_of-clause-first : goal.returns-in-Ok-verdict_of-clause-first
returns-in-Ok-verdict_of-clause-first g c = λ first is.
    first_on (is_standard (Some c.args.name.now)) g.I.Read.remaining c.args.standard.now c.open_input.new.standard first c.open_input.ensures.standard is

pub returns-in-Ok-read-clause-ends : goal.returns-in-Ok-read-clause-ends
returns-in-Ok-read-clause-ends g c = λ first is.
    let left : Option (List ℕ) = remaining_of g.S.Reader.Read.remaining g.I.Read.remaining c.in-Ok.input in
    let limits = c.args.answering.now.limits in
    let read = c.read_sent-read in
    let after : Option (List ℕ) =
    prepend_known (ahead_of read.new.reader) (remaining_of g.S.Reader.Read.remaining g.I.Read.remaining (inner_of read.new.reader)) in
    let it = subst (λ (r : Result Sent ReadFault). IfOk r (λ sent. (v : TransmissionValue) × TakesFront limits left v after
    × (content_in sent ≡ content_of v))) c.in-Ok-read.is
    (from_source (λ (known : Option (List ℕ)). IfOk read.result (λ sent. (v : TransmissionValue) × TakesFront limits known v after
    × (content_in sent ≡ content_of v))) (remaining_of g.S.Reader.Read.remaining g.I.Read.remaining) c.in-Ok.input c.new-reader.result.inner _
    c.new-reader.ensures.inner c.new-reader.ensures.ahead read.ensures.takes) in
    sent_good limits (g.S.Store.held c.args.store.now) first left after c.args.name.now it.0
    (left_first (g.S.Store.held c.args.store.now) g.I.Read.remaining c.args.standard.now first c.args.name.now left c.in-Ok.ensures.left
    c.in-Ok.ensures.there is) it.1

pub returns-in-Ok-verdict_of-clause-ends : goal.returns-in-Ok-verdict_of-clause-ends
returns-in-Ok-verdict_of-clause-ends g c = λ first is.
    let left : Option (List ℕ) = remaining_of g.S.Reader.Read.remaining g.I.Read.remaining c.in-Ok.input in
    let limits = c.args.answering.now.limits in
    let read = c.read_sent-read in
    let after : Option (List ℕ) =
    prepend_known (ahead_of read.new.reader) (remaining_of g.S.Reader.Read.remaining g.I.Read.remaining (inner_of read.new.reader)) in
    let it = subst (λ (r : Result Sent ReadFault). IfErr r (λ fault. StopsReading limits fault left after)) c.in-Err-read.is
    (from_source (λ (known : Option (List ℕ)). IfErr read.result (λ fault. StopsReading limits fault known after))
    (remaining_of g.S.Reader.Read.remaining g.I.Read.remaining) c.in-Ok.input c.new-reader.result.inner _
    c.new-reader.ensures.inner c.new-reader.ensures.ahead read.ensures.stops) in (
      sent_refused limits (g.S.Store.held c.args.store.now) first left after c.args.name.now c.in-Err-read.fault c.in-Ok-verdict_of.verdict
          (left_first (g.S.Store.held c.args.store.now) g.I.Read.remaining c.args.standard.now first c.args.name.now left c.in-Ok.ensures.left
          c.in-Ok.ensures.there is) it c.in-Ok-verdict_of.ensures,
      refl,
    )

pub returns-in-Err-verdict_of : goal.returns-in-Err-verdict_of
returns-in-Err-verdict_of g c = record {
  ends = λ first is. tt;
  first = λ first is. first_on (is_standard (Some c.args.name.now)) g.I.Read.remaining c.args.standard.now c.open_input.new.standard first
      c.open_input.ensures.standard is;
  fresh = tt;
  sent = λ first is. tt;
  failed = tt;
  kept = c.end_input-told.ensures.kept ∙ c.open_input.ensures.kept;
}

pub returns-in-Ok-verdict_of-clause-failed : goal.returns-in-Ok-verdict_of-clause-failed
returns-in-Ok-verdict_of-clause-failed g c =
    let mid : ℕ = g.S.Store.failures c.open_input.new.store in
    let now : ℕ = g.S.Store.failures c.end_input-told.new.store in
    subst (λ (n : ℕ). HasKeptCount n now) c.in-Ok.ensures.opened
    (times_kept (failures_of c.read_sent-read.new.reader) mid now c.end_input-told.ensures.failures)

pub returns-in-Ok-read-clause-sent : goal.returns-in-Ok-read-clause-sent
returns-in-Ok-read-clause-sent g c = λ first is.
    let name : List ℕ = c.args.name.now in
    let held : Option Texts = g.S.Store.held c.args.store.now in
    let limits = c.args.answering.now.limits in
    let left : Option (List ℕ) = remaining_of g.S.Reader.Read.remaining g.I.Read.remaining c.in-Ok.input in
    let takes = c.in-Ok-read.ensures.takes in
    let v : TransmissionValue = takes.0 in
    let taken : IfSome left (λ text. (n : ℕ) × IsAccepted limits text v n)
    = from_source (λ (known : Option (List ℕ)). IfSome known (λ text. (n : ℕ) × IsAccepted limits text v n))
    (remaining_of g.S.Reader.Read.remaining g.I.Read.remaining) c.in-Ok.input c.new-reader.result.inner _ c.new-reader.ensures.inner
    c.new-reader.ensures.ahead (front_taken limits _ _ v takes.1) in (
      v,
      if_read held first (Some name) left _
          (left_first held g.I.Read.remaining c.args.standard.now first name left c.in-Ok.ensures.left c.in-Ok.ensures.there is) taken,
      takes.2,
    )

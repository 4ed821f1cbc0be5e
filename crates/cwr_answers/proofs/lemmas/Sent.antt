-- How the reading of what was sent ends, by the texts that are read.
use Rattle.std.proofs.Common.{◌≡◌, ℕ, ◌<◌, true, false, List, get_or, length, map, Option, Some, None, Bor, sym, subst, inl, inr, true≢false}
use Rattle.std.specs.Prelude.{Any, IfSome, Ok}
use Rattle.std.proofs.lemmas.List.{get_or-map, get_or_default, length-map}
use Rattle.cwr_shape.specs.declared.limits.Limits.{Limits}
use Rattle.cwr_values.specs.Format.Values.{TransmissionValue}
use Rattle.cwr_judge.specs.Format.Items.{value_items}
use Rattle.cwr_decode.specs.declared.readings.ReadFault.{ReadFault}
use Rattle.cwr_decode.specs.declared.readings.ReadFault.TheVariants as read_faults
use Rattle.cwr_decode.specs.Format.Runs.{TakesFront}
use Rattle.cwr_decode.specs.Steps.Runs.{StopsReading, StopsRun}
use Rattle.cwr_tools.specs.declared.verdicts.Verdict.{Verdict}
use Rattle.cwr_tools.specs.Format.Verdicts.{IsVerdictOf}
use Rattle.cwr_endings.specs.declared.endings.Status.TheVariants as statuses
use Rattle.cwr_endings.specs.Format.Endings.{IsStatusBy}
use Rattle.cwr_endings.proofs.lemmas.StatusesOnTexts.{none_from}
use Rattle.cwr_reports.specs.Format.Endings.{Counts}
use Rattle.cwr_files.specs.Format.Files.{Texts}
use Rattle.cwr_files.specs.Steps.Inputs.{IsLeftOf}
use Rattle.cwr_files.proofs.lemmas.Reads.{if_read}
use Rattle.cwr_answers.specs.Format.Endings.{Has, wanted_of}

-- what was taken is accepted
pub taken_good : (limits : Limits) (before after : Option (List ℕ)) (v : TransmissionValue) → TakesFront limits before v after
    → IfSome before (λ text. IsStatusBy (Counts None) limits (wanted_of false) text statuses.Good)
taken_good limits None after v h = tt
taken_good limits (Some text) after v h =
    (v, length h.input, h.front.0, record { whole = λ e. absurd (true≢false (sym e)); calm = none_from (value_items v) })

-- what has another verdict is refused
refused_run : (limits : Limits) (before after : Option (List ℕ)) (refusal : _) → StopsRun limits (read_faults.Refused refusal) before after
    → IfSome before (λ text. IsStatusBy (Counts None) limits (wanted_of false) text statuses.Refused)
refused_run limits None after refusal h = tt
refused_run limits (Some text) after refusal h = inl (refusal, h.right.ends)

truncated_run : (limits : Limits) (before after : Option (List ℕ)) (records : ℕ) → StopsRun limits (read_faults.Truncated records) before after
    → IfSome before (λ text. IsStatusBy (Counts None) limits (wanted_of false) text statuses.Refused)
truncated_run limits None after records h = tt
truncated_run limits (Some text) after records h = inr (inl (records, h.right.ends))

pub stopped_refused : (limits : Limits) (before after : Option (List ℕ)) (fault : ReadFault) (verdict : Verdict)
    → StopsReading limits fault before after → IsVerdictOf fault (Ok verdict)
    → IfSome before (λ text. IsStatusBy (Counts None) limits (wanted_of false) text statuses.Refused)
stopped_refused limits before after read_faults.Reader verdict h is = absurd (cc is)
stopped_refused limits before after read_faults.Memory verdict h is = absurd (cc is)
stopped_refused limits before after (read_faults.Refused refusal) verdict h is =
    elim h [
      | inl run ↦ refused_run limits before after refusal run
      | inr room ↦ absurd (cc room.0)
    ]
stopped_refused limits before after (read_faults.Truncated records) verdict h is =
    elim h [
      | inl run ↦ truncated_run limits before after records run
      | inr room ↦ absurd (cc room.0)
    ]

-- what was read of what a word names
pub sent_good : (limits : Limits) (held : Option Texts) (first left after : Option (List ℕ)) (name : List ℕ) (v : TransmissionValue)
    → IsLeftOf held first (Some name) left → TakesFront limits left v after → Has limits false held first (Some name) statuses.Good
sent_good limits held first left after name v is takes =
    if_read held first (Some name) left (λ text. IsStatusBy (Counts None) limits (wanted_of false) text statuses.Good) is
    (taken_good limits left after v takes)

pub sent_refused : (limits : Limits) (held : Option Texts) (first left after : Option (List ℕ)) (name : List ℕ) (fault : ReadFault)
    (verdict : Verdict) → IsLeftOf held first (Some name) left → StopsReading limits fault left after → IsVerdictOf fault (Ok verdict)
    → Has limits false held first (Some name) statuses.Refused
sent_refused limits held first left after name fault verdict is stops of =
    if_read held first (Some name) left (λ text. IsStatusBy (Counts None) limits (wanted_of false) text statuses.Refused) is
    (stopped_refused limits left after fault verdict stops of)

-- one of them is so
pub one_is : (P : List ℕ → Type 0) (words : List (Bor (List ℕ))) (i : ℕ) (d : Bor (List ℕ)) → i < length words → P (get_or words i d).now
    → Any P (map (λ w. w.now) words)
one_is P words i d within p =
    let names : List (List ℕ) = map {A = Bor (List ℕ)} {B = List ℕ} (λ w. w.now) words in
    let at : get_or names i d.now ≡ (get_or words i d).now = get_or-map {X = Bor (List ℕ)} {Y = List ℕ} (λ w. w.now) words i d d.now within in
    let inside : i < length names = rw length-map within in
    (i, get_or names i d.now, inside, get_or_default names i (get_or names i d.now) d.now inside, subst P (sym at) p)

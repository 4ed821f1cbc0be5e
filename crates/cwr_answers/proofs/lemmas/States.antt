-- The status is that of what was read, and of the states of what was sent.
use Rattle.std.proofs.Common.{◌≡◌, ◌≢◌, ◌<◌, ◌≤◌, ◌∙◌, ℕ, Bool, true, false, List, [], ◌∷◌, ◌++◌, get_or, length, map, All, Option, Some, None, Bor, refl, sym, ap, subst, arith, inr}
use Rattle.std.specs.Prelude.{IfOk, IfSome, Result, Ok, Err, codes, unwrap_or, if◌then◌else◌}
use Rattle.std.specs.List.{AllZip, flat_map}
use Rattle.std.proofs.lemmas.List.{map-append}
use Rattle.cwr_shape.specs.declared.limits.Limits.{Limits}
use Rattle.cwr_values.specs.Format.Values.{TransmissionValue}
use Rattle.cwr_judge.specs.Format.Items.{value_items}
use Rattle.cwr_states.specs.declared.state_sets.States.{States}
use Rattle.cwr_states.specs.Format.StateSets.{no_states}
use Rattle.cwr_tools.specs.declared.verdicts.ToolFault.{ToolFault}
use Rattle.cwr_sent.specs.Format.SentFacts.{SentContent, content_of}
use Rattle.cwr_sent.specs.Format.SentRows.{SentShown, content_shown}
use Rattle.cwr_delivery.specs.declared.deliveries.Delivery.{Delivery}
use Rattle.cwr_delivery.specs.Format.Told.{Delivered, History, no_history}
use Rattle.cwr_delivery.specs.Steps.Deliveries.{Held, held_in}
use Rattle.cwr_delivery.specs.Steps.Keeping.{Keeps}
use Rattle.cwr_state_rows.specs.declared.counts.Counts.{Counts as RowCounts}
use Rattle.cwr_state_rows.specs.Format.StateCounts.{has_any}
use Rattle.cwr_state_rows.specs.Steps.PutRows.{CountsTold}
use Rattle.cwr_acks.specs.Format.AckLines.{Matched, matched_after}
use Rattle.cwr_acks.specs.Steps.AckSteps.{IsKept, held_if}
use Rattle.cwr_files.specs.Format.Faults.{IfErr}
use Rattle.cwr_files.specs.Format.Files.{Texts}
use Rattle.cwr_files.specs.Format.Inputs.{IfRead}
use Rattle.cwr_files.specs.Steps.Inputs.{IsLeftOf}
use Rattle.cwr_files.proofs.lemmas.Reads.{if_read}
use Rattle.cwr_endings.specs.declared.endings.Status.{Status}
use Rattle.cwr_endings.specs.declared.endings.Status.TheVariants as statuses
use Rattle.cwr_endings.specs.declared.judgements.Judgement.{Judgement}
use Rattle.cwr_endings.specs.declared.stops.Stop.{Stop}
use Rattle.cwr_endings.specs.Format.Endings.{worse_status}
use Rattle.cwr_answers.specs.Format.Answered.{IsAcceptedAt}
use Rattle.cwr_answers.specs.Format.Endings.{AreSent, EndsOnAnswers, HasRow, IsStatusByStates, delivered_of, has_row, words_of}
use Rattle.cwr_answers.specs.Steps.Reading.{EndsByStates, EndsOnFiles, HasSent, IsNew, IsStatusAfter, IsStatusKept, IsUntold, KeepsSent, status_with}
use Rattle.cwr_answers.specs.Steps.Seeking.{ReadsAllIfGood, ReadsEach, ReadsIfGood, ReadsNextIfGood}
use Rattle.cwr_answers.proofs.lemmas.AnsweredPlaces.{each_join, each_one, zip_join}
use Rattle.cwr_answers.proofs.lemmas.Ends.{files_status, files_stop, untold_ends}
use Rattle.cwr_answers.proofs.lemmas.Kept.{new_keeps}

-- ---- what a word names

-- standard input is read without a word as by `-`
read_by_word : (texts : Option Texts) (standard name left : Option (List ℕ)) (is : List ℕ → Type 0) → IsLeftOf texts standard name left
    → IfSome left is → IfRead texts standard (Some (unwrap_or name (codes "-"))) is
read_by_word texts standard None left is e h = subst (λ (o : Option (List ℕ)). IfSome o is) e h
read_by_word texts standard (Some name) left is e h = if_read texts standard (Some name) left is e h

-- what the one transmission says is kept, where it is good
pub alone_good : (limits : Limits) (texts : Option Texts) (standard name left : Option (List ℕ)) (matched : Option Matched)
    (held : Option Held) (judged : Result Judgement ToolFault) (judgement : Judgement) → IsLeftOf texts standard name left
    → judged ≡ Ok judgement → ReadsIfGood limits left matched held judged
    → ReadsAllIfGood limits texts standard (unwrap_or name (codes "-") ∷ []) matched held (Ok judgement.status)
alone_good limits texts standard name left matched held judged judgement opened is h = λ good.
    let r = subst (λ (r : Result Judgement ToolFault). ReadsIfGood limits left matched held r) is h good in
    each_one limits texts standard (unwrap_or name (codes "-")) matched held r.value (read_by_word texts standard name left _ opened r.taken)
    r.kept

-- ---- one after another

worse_good : (before status : Status) → worse_status before status ≡ statuses.Good → (before ≡ statuses.Good) × (status ≡ statuses.Good)
worse_good statuses.Good status e = (refl, e)
worse_good statuses.Refused statuses.Good e = absurd (cc)
worse_good statuses.Refused statuses.Refused e = absurd (cc)
worse_good statuses.Refused statuses.CommandLine e = absurd (cc)
worse_good statuses.Refused statuses.Fault e = absurd (cc)
worse_good statuses.CommandLine statuses.Good e = absurd (cc)
worse_good statuses.CommandLine statuses.Refused e = absurd (cc)
worse_good statuses.CommandLine statuses.CommandLine e = absurd (cc)
worse_good statuses.CommandLine statuses.Fault e = absurd (cc)
worse_good statuses.Fault status e = absurd (cc)

-- one more was counted
pub next_good : (limits : Limits) (texts : Option Texts) (standard : Option (List ℕ)) (name : List ℕ) (left : Option (List ℕ))
    (matched : Option Matched) (held : Option Held) (judged : Result Judgement ToolFault) (judgement : Judgement) (before now : Status)
    → IsLeftOf texts standard (Some name) left → judged ≡ Ok judgement → now ≡ worse_status before judgement.status
    → ReadsIfGood limits left matched held judged → ReadsNextIfGood limits texts standard name matched held before now
next_good limits texts standard name left matched held judged judgement before now opened is counted h = λ good.
    let both = worse_good before judgement.status (sym counted ∙ good) in
    (both.0, alone_good limits texts standard (Some name) left matched held judged judgement opened is h both.1)

-- one that failed
pub next_failed : (limits : Limits) (texts : Option Texts) (standard : Option (List ℕ)) (name : List ℕ) (matched : Option Matched)
    (held : Option Held) (before now : Status) → now ≡ statuses.Fault → ReadsNextIfGood limits texts standard name matched held before now
next_failed limits texts standard name matched held before now failed = λ good.
    let other : statuses.Fault ≡ statuses.Good = sym failed ∙ good in
    absurd (cc)

-- with those before
pub all_good : (limits : Limits) (texts : Option Texts) (standard : Option (List ℕ)) (names : List (List ℕ)) (name : List ℕ)
    (matched : Option Matched) (held after : Option Held) (before now : Status)
    → (before ≡ statuses.Good → ReadsEach limits texts standard names matched held)
    → ((m : Option Matched) → IsKept held m [] → ReadsNextIfGood limits texts standard name m after before now)
    → ((m : Option Matched) × IsKept held m []) → now ≡ statuses.Good → ReadsEach limits texts standard (names ++ name ∷ []) matched after
all_good limits texts standard names name matched held after before now each next standing good =
    let r = each (next standing.0 standing.1 good).0 in
    each_join limits texts standard names (name ∷ []) matched held after r
    (next (matched_after matched (flat_map value_items r.answers)) r.kept good).1

-- ---- by how many words there are

pub none_words : (names : List (Bor (List ℕ))) → length names < 1 → words_of (map (λ name. name.now) names) ≡ codes "-" ∷ []
none_words [] none = refl
none_words (name ∷ names) none = absurd (omega (arith, none))

pub one_words : (names : List (Bor (List ℕ))) (d : Bor (List ℕ)) → 1 ≤ length names → length names < 2
    → words_of (map (λ name. name.now) names) ≡ (get_or names 0 d).now ∷ []
one_words [] d some one = absurd (omega (arith, some))
one_words (name ∷ []) d some one = refl
one_words (name ∷ other ∷ names) d some one = absurd (omega (arith, one))

pub several_words : (names : List (Bor (List ℕ))) → 2 ≤ length names
    → words_of (map (λ name. name.now) names) ≡ map (λ name. name.now) names
several_words [] enough = absurd (omega (arith, enough))
several_words (name ∷ names) enough = refl

-- ---- a run

module _ (limits : Limits) (whole : Bool) (fail_on : States) (held : Option Texts) (standard : Option (List ℕ)) (names : List (List ℕ)) where
  pub by_states : (matched : Option Matched) (delivery : Option Delivery) (other now : Status)
      → EndsOnFiles limits whole held standard names (Ok other)
      → ReadsAllIfGood limits held standard (words_of names) matched (held_if delivery) (Ok other)
      → IsStatusKept fail_on delivery other now → (other ≢ statuses.Good → now ≡ other)
      → EndsByStates limits whole fail_on held standard names matched (Ok now)
  by_states matched delivery statuses.Good now ends read kept others =
      let r = read refl in
      (statuses.Good, ends, (r.answers, r.were_read, kept (matched_after matched (flat_map value_items r.answers)) r.kept))
  by_states matched delivery statuses.Refused now ends read kept others = (statuses.Refused, ends, others (λ e. cc))
  by_states matched delivery statuses.CommandLine now ends read kept others = (statuses.CommandLine, ends, others (λ e. cc))
  by_states matched delivery statuses.Fault now ends read kept others = (statuses.Fault, ends, others (λ e. cc))

  -- where that is written, or couldn't be
  pub by_written : (matched : Option Matched) (delivery : Option Delivery) (other : Status) (written : Result Status Stop)
      → EndsOnFiles limits whole held standard names (Ok other)
      → ReadsAllIfGood limits held standard (words_of names) matched (held_if delivery) (Ok other)
      → IfOk written (IsStatusKept fail_on delivery other) → (other ≢ statuses.Good → IfOk written (λ now. now ≡ other))
      → IfErr written IsUntold → EndsByStates limits whole fail_on held standard names matched written
  by_written matched delivery other (Ok now) ends read kept others untold = by_states matched delivery other now ends read kept others
  by_written matched delivery other (Err stop) ends read kept others untold = untold_ends limits whole held standard names stop untold

  -- what was sent decides too
  pub status_after : (by_place : Bool) (one : List ℕ) (sent : List (List ℕ)) (delivery : Option Delivery) (other now : Status)
      → (h : HasSent limits by_place held standard (one ∷ sent) delivery)
      → IsStatusAfter limits fail_on held standard names (Some (record { delivered = delivered_of by_place h.0; history = no_history })) other now
      → IsStatusByStates limits by_place fail_on held standard names (one ∷ sent) other now
  status_after by_place one sent delivery statuses.Good now h is = (
    has_row fail_on (delivered_of by_place h.0) _,
    record { values = h.0; answers = is.0; were_sent = h.1; were_read = is.1; has_so = refl },
    is.2,
  )
  status_after by_place one sent delivery statuses.Refused now h is = is
  status_after by_place one sent delivery statuses.CommandLine now h is = is
  status_after by_place one sent delivery statuses.Fault now h is = is

  -- nothing was sent
  pub status_unsent : (by_place : Bool) (other now : Status) → IsStatusAfter limits fail_on held standard names None other now
      → IsStatusByStates limits by_place fail_on held standard names [] other now
  status_unsent by_place statuses.Good now is = is.2
  status_unsent by_place statuses.Refused now is = is
  status_unsent by_place statuses.CommandLine now is = is
  status_unsent by_place statuses.Fault now is = is

-- all that was sent is accepted
pub sent_ends : (limits : Limits) (whole by_place : Bool) (fail_on : States) (held : Option Texts) (standard : Option (List ℕ))
    (names sent : List (List ℕ)) (delivery : Option Delivery) (ending : Result Status Stop) → AreSent limits held standard sent
    → HasSent limits by_place held standard sent delivery
    → ((matched : Option Matched) → IsKept (held_if delivery) matched [] → EndsByStates limits whole fail_on held standard names matched ending)
    → EndsOnAnswers limits whole by_place fail_on held standard names sent ending
sent_ends limits whole by_place fail_on held standard names [] delivery (Ok status) are h ends =
    let e = ends None (subst (λ (d : Option Delivery). IsKept (held_if d) None []) (sym h) tt) in
    inr (
      are,
      (
        e.0,
        files_status limits whole held standard names e.0 e.1,
        status_unsent limits whole fail_on held standard names by_place e.0 status e.2,
      ),
    )
sent_ends limits whole by_place fail_on held standard names (one ∷ sent) delivery (Ok status) are h ends =
    let e = ends (Some (record { delivered = delivered_of by_place h.0; history = no_history })) h.2 in
    inr (
      are,
      (
        e.0,
        files_status limits whole held standard names e.0 e.1,
        status_after limits whole fail_on held standard names by_place one sent delivery e.0 status h e.2,
      ),
    )
sent_ends limits whole by_place fail_on held standard names [] delivery (Err stop) are h ends =
    files_stop limits whole by_place fail_on held standard names [] stop
    (ends None (subst (λ (d : Option Delivery). IsKept (held_if d) None []) (sym h) tt))
sent_ends limits whole by_place fail_on held standard names (one ∷ sent) delivery (Err stop) are h ends =
    files_stop limits whole by_place fail_on held standard names (one ∷ sent) stop
    (ends (Some (record { delivered = delivered_of by_place h.0; history = no_history })) h.2)

-- ---- what was sent

pub sent_none : (limits : Limits) (held : Option Texts) (standard : Option (List ℕ)) (delivery : Delivery) → (held_in delivery).sent ≡ []
    → KeepsSent limits held standard [] delivery
sent_none limits held standard delivery e = ([], tt, ap (map content_shown) e)

pub sent_more : (limits : Limits) (held : Option Texts) (standard : Option (List ℕ)) (sent : List (List ℕ)) (name : List ℕ)
    (delivery after : Delivery) (shown : SentShown) (v : TransmissionValue) → KeepsSent limits held standard sent delivery
    → (held_in after).sent ≡ (held_in delivery).sent ++ shown ∷ [] → IsAcceptedAt limits held standard name v
    → content_shown shown ≡ content_of v → KeepsSent limits held standard (sent ++ name ∷ []) after
sent_more limits held standard sent name delivery after shown v h more taken is = (
  h.0 ++ v ∷ [],
  zip_join (IsAcceptedAt limits held standard) sent (name ∷ []) h.0 (v ∷ []) h.1 (taken, tt),
  ap (map content_shown) more ∙ map-append content_shown (held_in delivery).sent (shown ∷ [])
      ∙ ap (λ (l : List SentContent). l ++ content_shown shown ∷ []) h.2 ∙ ap (λ (c : SentContent). map content_of h.0 ++ c ∷ []) is
      ∙ sym (map-append content_of h.0 (v ∷ [])),
)

pub sent_kept_so : (limits : Limits) (by_place : Bool) (held : Option Texts) (standard : Option (List ℕ)) (sent : List (List ℕ))
    (delivery : Delivery) → 1 ≤ length sent → IsNew by_place delivery → KeepsSent limits held standard sent delivery
    → HasSent limits by_place held standard sent (Some delivery)
sent_kept_so limits by_place held standard [] delivery some new h = absurd (omega (arith, some))
sent_kept_so limits by_place held standard (one ∷ sent) delivery some new h = (
  h.0,
  h.1,
  subst (λ (contents : List SentContent). IsKept (Some (held_in delivery))
      (Some (record { delivered = record { by_place = by_place; sent = contents }; history = no_history })) [])
      (sym (ap (λ (it : Held). map content_shown it.sent) new.1) ∙ h.2) (new_keeps by_place delivery new),
)

pub sent_nothing : (limits : Limits) (by_place : Bool) (held : Option Texts) (standard : Option (List ℕ)) (names : List (Bor (List ℕ)))
    → length names < 1 → HasSent limits by_place held standard (map (λ name. name.now) names) None
sent_nothing limits by_place held standard [] none = refl
sent_nothing limits by_place held standard (name ∷ names) none = absurd (omega (arith, none))

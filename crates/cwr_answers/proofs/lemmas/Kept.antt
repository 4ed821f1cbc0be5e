-- What is kept of what was sent stands for that, and for what is read.
use Rattle.std.proofs.Common.{◌≡◌, ℕ, Bool, List, [], ◌∷◌, ◌++◌, map, All, Option, Some, None, refl, sym, ap, ap₂, subst, ◌∙◌, arith}
use Rattle.std.specs.Prelude.{Result, Ok, Err, option_map, slice_get}
use Rattle.std.proofs.lemmas.List.{map-append}
use Rattle.std.proofs.lemmas.List.Elements.{All-push}
use Rattle.std.proofs.lemmas.Option.{get_or_from_slice_get, slice_get_within}
use Rattle.cwr_shape.specs.declared.limits.Limits.{Limits}
use Rattle.cwr_tools.specs.declared.verdicts.Verdict.{Verdict}
use Rattle.cwr_tools.specs.declared.verdicts.ToolFault.{ToolFault}
use Rattle.cwr_tools.specs.declared.verdicts.ToolFault.TheVariants as tool_faults
use Rattle.cwr_sent.specs.Format.SentRows.{IsFreshShown, SentShown, content_shown}
use Rattle.cwr_delivery.specs.declared.deliveries.Delivery.{Delivery}
use Rattle.cwr_delivery.specs.Steps.Deliveries.{Held, held_in, nothing_held}
use Rattle.cwr_delivery.specs.Format.Told.{no_history}
use Rattle.cwr_delivery.proofs.lemmas.Keeping.{keeps_nothing}
use Rattle.cwr_fields.specs.declared.message_codes.TransactionStatus.{TransactionStatus}
use Rattle.cwr_acks.specs.declared.counts.Answers.{Answers}
use Rattle.cwr_acks.specs.declared.forms.Form.{Form}
use Rattle.cwr_acks.specs.declared.forms.Manner.{Manner}
use Rattle.cwr_acks.specs.Format.AckLines.{Telling, matched_after, shown_name}
use Rattle.cwr_acks.specs.Steps.AckSteps.{IsKept, KeepsAnswers}
use Rattle.cwr_endings.specs.declared.endings.Look.{Look}
use Rattle.cwr_endings.specs.declared.endings.Status.{Status}
use Rattle.cwr_endings.specs.declared.endings.Wanted.{Wanted}
use Rattle.cwr_endings.specs.Steps.Looks.{judged_with, judgement_in, status_in}
use Rattle.cwr_answers.specs.Steps.Reading.{AreShown, IsNew, IsShown, IsStanding, StandsAfterRead, TellsSo}

-- after a transmission was read, or its input failed
pub stands_read : (delivery left : Option Delivery) (limits : Limits) (before after : Option (List ℕ)) (outcome : Result Verdict ToolFault)
    (answers : Answers) (wanted : Wanted) (look : Look) (found : Bool) → IsStanding delivery
    → KeepsAnswers delivery limits before after outcome left answers → StandsAfterRead (judgement_in wanted outcome look found) left
stands_read delivery left limits before after (Ok verdict) answers wanted look found standing keeps =
    by (status_in wanted verdict look found)
  where
    it : IsStanding left
    it = let k = keeps standing.0 standing.1 in (matched_after standing.0 k.0, k.2.0)

    by : (o : Option Status) → StandsAfterRead (judged_with verdict look o) left
    by None = it
    by (Some status) = it
stands_read delivery left limits before after (Err tool_faults.Reader) answers wanted look found standing keeps =
    let k = keeps standing.0 standing.1 in (matched_after standing.0 k.0, k.2.0)
stands_read delivery left limits before after (Err (tool_faults.Writer written)) answers wanted look found standing keeps = tt
stands_read delivery left limits before after (Err tool_faults.Memory) answers wanted look found standing keeps = tt
stands_read delivery left limits before after (Err (tool_faults.Refused refusal)) answers wanted look found standing keeps = tt
stands_read delivery left limits before after (Err (tool_faults.Truncated records)) answers wanted look found standing keeps = tt
stands_read delivery left limits before after (Err (tool_faults.Limit limit)) answers wanted look found standing keeps = tt
stands_read delivery left limits before after (Err tool_faults.Output) answers wanted look found standing keeps = tt

-- nothing was sent
pub none_stands : IsStanding None
none_stands = (None, tt)

-- ---- what was sent

-- nothing so far
pub new_begun : (by_place : Bool) (delivery : Delivery) → held_in delivery ≡ nothing_held by_place → IsNew by_place delivery
new_begun by_place delivery e = ([], e, λ k d lt. absurd (omega (arith, lt)))

-- one more
pub new_more : (by_place : Bool) (delivery after : Delivery) (shown : SentShown) → IsNew by_place delivery
    → held_in after ≡ record (held_in delivery) { sent = (held_in delivery).sent ++ shown ∷ [] } → IsFreshShown shown
    → IsNew by_place after
new_more by_place delivery after shown h e fresh = (
  h.0 ++ shown ∷ [],
  e ∙ ap (λ (held : Held). record held { sent = held.sent ++ shown ∷ [] }) h.1,
  All-push IsFreshShown h.0 shown h.2 fresh,
)

fresh_at : (sent : List SentShown) → All IsFreshShown sent → (i : ℕ) (s : SentShown) → slice_get sent i ≡ Some s → IsFreshShown s
fresh_at sent all i s at = subst IsFreshShown (get_or_from_slice_get sent i s s at) (all i s (slice_get_within sent i s at))

-- it stands for itself
pub new_keeps : (by_place : Bool) (delivery : Delivery) → (h : IsNew by_place delivery)
    → IsKept (Some (held_in delivery))
    (Some (record { delivered = record { by_place = by_place; sent = map content_shown h.0 }; history = no_history })) []
new_keeps by_place delivery h =
    subst (λ (held : Held). IsKept (Some held)
    (Some (record { delivered = record { by_place = by_place; sent = map content_shown h.0 }; history = no_history })) []) (sym h.1)
    (keeps_nothing by_place h.0 (λ i s at. fresh_at h.0 h.2 i s at))

pub new_stands : (by_place : Bool) (delivery : Delivery) → IsNew by_place delivery → IsStanding (Some delivery)
new_stands by_place delivery h = (
  Some (record { delivered = record { by_place = by_place; sent = map content_shown h.0 }; history = no_history }),
  new_keeps by_place delivery h,
)

-- ---- names

abbrev told_by : Form → List TransactionStatus → Option (List ℕ) → List (List ℕ) → Telling
told_by form statuses file names = record { form = form; statuses = statuses; file = file; names = names }

-- lines are told by names that are as they are told
pub tells_so : (form : Form) (manner : Manner) → manner.form ≡ form → (file : Option (List ℕ))
    → option_map (λ n. n.now) manner.file ≡ option_map (shown_name form) file
    → AreShown form (map (λ n. n.items) manner.names.now) → TellsSo manner
tells_so form manner is file called names =
    let called_so : option_map (λ n. n.now) manner.file ≡ option_map (shown_name manner.form) file =
    subst (λ (f : Form). option_map (λ n. n.now) manner.file ≡ option_map (shown_name f) file) (sym is) called in
    let named : AreShown manner.form (map (λ n. n.items) manner.names.now) =
    subst (λ (f : Form). AreShown f (map (λ n. n.items) manner.names.now)) (sym is) names in (
      told_by manner.form manner.statuses.now file named.0,
      ap₂ (λ (f : Option (List ℕ)) (l : List (List ℕ)). told_by manner.form manner.statuses.now f l) called_so named.1,
    )

-- no name is told
pub none_shown : (form : Form) → AreShown form []
none_shown form = ([], refl)

-- one more is
pub shown_more : (form : Form) (names : List (List ℕ)) (name : List ℕ) → AreShown form names → IsShown form name
    → AreShown form (names ++ name ∷ [])
shown_more form names name h one = (
  h.0 ++ one.0 ∷ [],
  ap₂ (λ (xs : List (List ℕ)) (x : List ℕ). xs ++ x ∷ []) h.1 one.1 ∙ sym (map-append (shown_name form) h.0 (one.0 ∷ [])),
)

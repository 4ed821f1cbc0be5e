-- What is read of acknowledgements is what the texts of their names say.
use Rattle.std.proofs.Common.{◌≡◌, ℕ, zero, suc, ◌+◌, Bool, false, List, [], ◌∷◌, ◌++◌, length, Option, Some, None, refl}
use Rattle.std.proofs.Common.{sym, ap, subst, ◌∙◌, append-nil}
use Rattle.std.specs.Prelude.{IfSome, OnOk, Result, Ok, Err, slice_get}
use Rattle.std.specs.List.{AllZip, flat_map}
use Rattle.std.proofs.lemmas.Grind.{flat_map-append, fold-append}
use Rattle.cwr_shape.specs.declared.limits.Limits.{Limits}
use Rattle.cwr_values.specs.declared.items.Item.{Item}
use Rattle.cwr_values.specs.Format.Values.{TransmissionValue}
use Rattle.cwr_judge.specs.Format.Ends.{IsAccepted}
use Rattle.cwr_judge.specs.Format.Items.{value_items}
use Rattle.cwr_decode.specs.Format.Runs.{TakesFront}
use Rattle.cwr_tools.specs.declared.verdicts.ToolFault.{ToolFault}
use Rattle.cwr_tools.specs.declared.verdicts.Verdict.{Verdict}
use Rattle.cwr_tools.specs.declared.verdicts.Verdict.TheVariants as verdicts
use Rattle.cwr_tools.specs.Format.Reports.{CountsReaderFault}
use Rattle.cwr_sent.specs.Format.SentFacts.{SentContent}
use Rattle.cwr_sent.specs.Format.SentRows.{IsFreshShown, SentShown, content_shown}
use Rattle.cwr_delivery.specs.Format.Told.{History, no_history, read_with}
use Rattle.cwr_delivery.specs.Steps.Deliveries.{Held, nothing_held}
use Rattle.cwr_delivery.specs.Steps.Keeping.{Keeps}
use Rattle.cwr_delivery.proofs.lemmas.Keeping.{keeps_nothing}
use Rattle.cwr_delivery.specs.declared.deliveries.Delivery.{Delivery}
use Rattle.cwr_acks.specs.declared.counts.Answers.{Answers}
use Rattle.cwr_acks.specs.Format.AckLines.{Matched, matched_after}
use Rattle.cwr_acks.specs.Steps.AckSteps.{IsKept, KeepsAnswers, held_if}
use Rattle.cwr_files.specs.Format.Files.{Texts, counted_on}
use Rattle.cwr_endings.specs.declared.endings.Look.{Look}
use Rattle.cwr_endings.specs.declared.endings.Look.TheVariants as looks
use Rattle.cwr_endings.specs.declared.endings.Status.TheVariants as statuses
use Rattle.cwr_endings.specs.declared.judgements.Judgement.{Judgement}
use Rattle.cwr_endings.specs.Steps.Looks.{CountsLook, judged_with, judgement_in}
use Rattle.cwr_answers.specs.Format.Answered.{IsAcceptedAt}
use Rattle.cwr_answers.specs.Steps.Seeking.{ReadsAnswers, ReadsEach, ReadsIfGood, judged_by}

-- ---- one transmission

-- where a look didn't fail it is judged as ever
pub judged_else : (whole : Bool) (outcome : Result Verdict ToolFault) (look : Look) → (look ≡ looks.Failed → ⊥)
    → judgement_in (record { whole = whole; fail_on = None }) outcome look false ≡ judged_by whole outcome look
judged_else whole outcome (looks.Found trailing) h = refl
judged_else whole outcome looks.Failed h = absurd (h refl)
judged_else whole outcome looks.Unasked h = refl

-- a status that is good is that of a good verdict
abbrev IsOfGood : Result Verdict ToolFault → Type 0
IsOfGood outcome = (groups : ℕ) × (transactions : ℕ) × (records : ℕ) × (outcome ≡ Ok (verdicts.Good groups transactions records))

refused_never : (verdict : Verdict) (look : Look) (j : Judgement) → judged_with verdict look (Some statuses.Refused) ≡ Ok j
    → j.status ≡ statuses.Good → ⊥
refused_never verdict look j e good =
    let same : record { verdict = verdict; look = look; status = statuses.Refused } ≡ j = cc e in
    let other : statuses.Refused ≡ statuses.Good = ap (λ (x : Judgement). x.status) same ∙ good in
    absurd (cc other)

of_good : (whole : Bool) (outcome : Result Verdict ToolFault) (look : Look) (j : Judgement)
    → judgement_in (record { whole = whole; fail_on = None }) outcome look false ≡ Ok j → j.status ≡ statuses.Good → IsOfGood outcome
of_good whole (Err fault) look j e good = absurd (cc e)
of_good whole (Ok (verdicts.Good groups transactions records)) look j e good = (groups, transactions, records, refl)
of_good whole (Ok (verdicts.Refused refusal)) look j e good = absurd (refused_never (verdicts.Refused refusal) look j e good)
of_good whole (Ok (verdicts.Truncated records)) look j e good = absurd (refused_never (verdicts.Truncated records) look j e good)

of_judged : (whole : Bool) (outcome : Result Verdict ToolFault) (look : Look) (j : Judgement) → judged_by whole outcome look ≡ Ok j
    → j.status ≡ statuses.Good → IsOfGood outcome
of_judged whole outcome (looks.Found trailing) j e good = of_good whole outcome (looks.Found trailing) j e good
of_judged whole outcome looks.Failed j e good = absurd (cc e)
of_judged whole outcome looks.Unasked j e good = of_good whole outcome looks.Unasked j e good

pub front_taken : (limits : Limits) (before after : Option (List ℕ)) (v : TransmissionValue) → TakesFront limits before v after
    → IfSome before (λ text. (n : ℕ) × IsAccepted limits text v n)
front_taken limits None after v t = tt
front_taken limits (Some text) after v t = (length t.input, t.front.0)

-- what is kept of a good one
kept_good : (limits : Limits) (before after : Option (List ℕ)) (outcome : Result Verdict ToolFault) (delivery left : Option Delivery)
    (answers : Answers) (matched : Option Matched) → IsOfGood outcome → KeepsAnswers delivery limits before after outcome left answers
    → IsKept (held_if delivery) matched [] → ReadsAnswers limits before matched (held_if left)
kept_good limits before after outcome delivery left answers matched of keeps kept =
    let k : KeepsAnswers delivery limits before after (Ok (verdicts.Good of.0 of.1 of.2)) left answers =
    subst (λ (o : Result Verdict ToolFault). KeepsAnswers delivery limits before after o left answers) of.3 keeps in
    let stood = k matched kept in
    record {
      value = stood.1.0;
      taken = front_taken limits before after stood.1.0 stood.1.1;
      kept = subst (λ (given : List Item). IsKept (held_if left) (matched_after matched given) []) stood.1.2 stood.2.0;
    }

pub answers_read_so : (limits : Limits) (whole : Bool) (before after : Option (List ℕ)) (outcome : Result Verdict ToolFault) (look : Look)
    (judged : Result Judgement ToolFault) (delivery left : Option Delivery) (answers : Answers) (matched : Option Matched)
    → judged ≡ judged_by whole outcome look → KeepsAnswers delivery limits before after outcome left answers
    → IsKept (held_if delivery) matched [] → ReadsIfGood limits before matched (held_if left) judged
answers_read_so limits whole before after outcome look (Ok j) delivery left answers matched is keeps kept =
    λ good. kept_good limits before after outcome delivery left answers matched (of_judged whole outcome look j (sym is) good) keeps kept
answers_read_so limits whole before after outcome look (Err fault) delivery left answers matched is keeps kept = tt

pub answers_judged : (limits : Limits) (whole : Bool) (before after : Option (List ℕ)) (outcome : Result Verdict ToolFault) (look : Look)
    (judged : Result Judgement ToolFault) (delivery left : Option Delivery) (answers : Answers) (matched : Option Matched)
    → judged ≡ judgement_in (record { whole = whole; fail_on = None }) outcome look false
    → KeepsAnswers delivery limits before after outcome left answers → IsKept (held_if delivery) matched []
    → ReadsIfGood limits before matched (held_if left) judged
answers_judged limits whole before after outcome look (Ok j) delivery left answers matched is keeps kept =
    λ good. kept_good limits before after outcome delivery left answers matched (of_good whole outcome look j (sym is) good) keeps kept
answers_judged limits whole before after outcome look (Err fault) delivery left answers matched is keeps kept = tt

-- where it is judged nothing failed
unfailed_by : (whole : Bool) (outcome : Result Verdict ToolFault) (look : Look) (j : Judgement) (r0 r1 r2 old new : ℕ)
    → judged_by whole outcome look ≡ Ok j → r0 ≡ 0 → CountsReaderFault outcome r0 r1 → CountsLook look r1 r2 → new ≡ counted_on r2 old
    → new ≡ old
unfailed_by whole (Ok v) (looks.Found t) j r0 r1 r2 old new e none h k is = is ∙ ap (λ (n : ℕ). counted_on n old) (k ∙ h ∙ none)
unfailed_by whole (Ok v) looks.Unasked j r0 r1 r2 old new e none h k is = is ∙ ap (λ (n : ℕ). counted_on n old) (k ∙ h ∙ none)
unfailed_by whole (Ok v) looks.Failed j r0 r1 r2 old new e none h k is = absurd (cc e)
unfailed_by whole (Err fault) (looks.Found t) j r0 r1 r2 old new e none h k is = absurd (cc e)
unfailed_by whole (Err fault) looks.Unasked j r0 r1 r2 old new e none h k is = absurd (cc e)
unfailed_by whole (Err fault) looks.Failed j r0 r1 r2 old new e none h k is = absurd (cc e)

pub unfailed : (whole : Bool) (outcome : Result Verdict ToolFault) (look : Look) (judged : Result Judgement ToolFault) (j : Judgement)
    (r0 r1 r2 old new : ℕ) → judged ≡ judged_by whole outcome look → judged ≡ Ok j → r0 ≡ 0 → CountsReaderFault outcome r0 r1
    → CountsLook look r1 r2 → new ≡ counted_on r2 old → new ≡ old
unfailed whole outcome look judged j r0 r1 r2 old new is e none h k s =
    unfailed_by whole outcome look j r0 r1 r2 old new (sym is ∙ e) none h k s

pub unfailed_so : (whole : Bool) (outcome : Result Verdict ToolFault) (look : Look) (judged : Result Judgement ToolFault)
    (r0 r1 r2 old new : ℕ) → judged ≡ judged_by whole outcome look → r0 ≡ 0 → CountsReaderFault outcome r0 r1
    → CountsLook look r1 r2 → new ≡ counted_on r2 old → OnOk judged (new ≡ old)
unfailed_so whole outcome look (Ok j) r0 r1 r2 old new is none h k s = unfailed whole outcome look (Ok j) j r0 r1 r2 old new is refl none h k s
unfailed_so whole outcome look (Err fault) r0 r1 r2 old new is none h k s = tt

-- ---- one after another

pub zip_join : {A B : Type 0} (R : A → B → Type 0) (xs us : List A) (ys vs : List B) → AllZip R xs ys → AllZip R us vs
    → AllZip R (xs ++ us) (ys ++ vs)
zip_join R [] us [] vs h k = k
zip_join R [] us (b ∷ ys) vs h k = absurd h
zip_join R (a ∷ xs) us [] vs h k = absurd h
zip_join R (a ∷ xs) us (b ∷ ys) vs h k = (h.0, zip_join R xs us ys vs h.1 k)

-- reading on is reading all
read_on : (matched : Option Matched) (given more : List Item)
    → matched_after (matched_after matched given) more ≡ matched_after matched (given ++ more)
read_on None given more = refl
read_on (Some m) given more =
    ap (λ (h : History). Some (record { delivered = m.delivered; history = h })) (sym (fold-append read_with m.history given more))

pub each_none : (limits : Limits) (texts : Option Texts) (standard : Option (List ℕ)) (matched : Option Matched) (held : Option Held)
    → IsKept held matched [] → ReadsEach limits texts standard [] matched held
each_none limits texts standard None held kept = record { answers = []; were_read = tt; kept = kept }
each_none limits texts standard (Some m) held kept = record { answers = []; were_read = tt; kept = kept }

pub each_one : (limits : Limits) (texts : Option Texts) (standard : Option (List ℕ)) (name : List ℕ) (matched : Option Matched)
    (held : Option Held) (v : TransmissionValue) → IsAcceptedAt limits texts standard name v
    → IsKept held (matched_after matched (value_items v)) [] → ReadsEach limits texts standard (name ∷ []) matched held
each_one limits texts standard name matched held v taken kept = record {
  answers = v ∷ [];
  were_read = (taken, tt);
  kept = subst (λ (given : List Item). IsKept held (matched_after matched given) []) (sym (append-nil (value_items v))) kept;
}

pub each_join : (limits : Limits) (texts : Option Texts) (standard : Option (List ℕ)) (names more : List (List ℕ))
    (matched : Option Matched) (held after : Option Held) → (before : ReadsEach limits texts standard names matched held)
    → ReadsEach limits texts standard more (matched_after matched (flat_map value_items before.answers)) after
    → ReadsEach limits texts standard (names ++ more) matched after
each_join limits texts standard names more matched held after before next = record {
  answers = before.answers ++ next.answers;
  were_read = zip_join (IsAcceptedAt limits texts standard) names more before.answers next.answers before.were_read next.were_read;
  kept = subst (λ (m : Option Matched). IsKept after m [])
      (read_on matched (flat_map value_items before.answers) (flat_map value_items next.answers)
      ∙ ap (matched_after matched) (sym (flat_map-append value_items before.answers next.answers))) next.kept;
}

pub each_more : (limits : Limits) (texts : Option Texts) (standard : Option (List ℕ)) (names : List (List ℕ)) (name : List ℕ)
    (matched : Option Matched) (held after : Option Held) → (before : ReadsEach limits texts standard names matched held)
    → (v : TransmissionValue) → IsAcceptedAt limits texts standard name v
    → IsKept after (matched_after (matched_after matched (flat_map value_items before.answers)) (value_items v)) []
    → ReadsEach limits texts standard (names ++ name ∷ []) matched after
each_more limits texts standard names name matched held after before v taken kept =
    each_join limits texts standard names (name ∷ []) matched held after before
    (each_one limits texts standard name (matched_after matched (flat_map value_items before.answers)) after v taken kept)

-- ---- what was sent

alone : (shown : SentShown) → IsFreshShown shown → (i : ℕ) (s : SentShown) → slice_get (shown ∷ []) i ≡ Some s → IsFreshShown s
alone shown fresh zero s e = let same : shown ≡ s = cc e in subst IsFreshShown same fresh
alone shown fresh (suc i) s e = absurd (cc e)

pub sent_kept : (by_place : Bool) (shown : SentShown) (content : SentContent) (held : Held) → IsFreshShown shown
    → content_shown shown ≡ content → held ≡ record (nothing_held by_place) { sent = shown ∷ [] }
    → IsKept (Some held) (Some (record { delivered = record { by_place = by_place; sent = content ∷ [] }; history = no_history })) []
sent_kept by_place shown content held fresh is held_is =
    subst (λ (h : Held). Keeps (record { by_place = by_place; sent = content ∷ [] }) no_history h) (sym held_is)
    (subst (λ (c : SentContent). Keeps (record { by_place = by_place; sent = c ∷ [] }) no_history
    (record (nothing_held by_place) { sent = shown ∷ [] })) is (keeps_nothing by_place (shown ∷ []) (alone shown fresh)))

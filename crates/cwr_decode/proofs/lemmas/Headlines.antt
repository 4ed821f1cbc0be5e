-- The answer of a run that read a known text by a reader which didn't fail is the text's one end.
use Rattle.std.proofs.Common.{◌≡◌, ℕ, List, length, Option, Some, refl, sym, ap, ◌∙◌, arith, inl, inr}
use Rattle.std.specs.Prelude.{◌⊎◌, Result, Ok, Err, IfOk, IfErr, MatchResult}
use Rattle.cwr_shape.specs.Format.Ranges.{LimitValues}
use Rattle.cwr_values.specs.Format.Values.{TransmissionValue}
use Rattle.cwr_judge.specs.declared.refusals.Refusal.{Refusal}
use Rattle.cwr_judge.specs.Format.Ends.{IsAccepted, IsRefused, IsTruncated}
use Rattle.cwr_judge.proofs.lemmas.Accepted.{accepted_once}
use Rattle.cwr_judge.proofs.lemmas.OneEnd.{refused_once, refused_or_truncated}
use Rattle.cwr_decode.specs.declared.readings.ReadFault.{ReadFault}
use Rattle.cwr_decode.specs.declared.readings.ReadFault.TheVariants.{Reader, Refused, Truncated, Memory}
use Rattle.cwr_decode.specs.Format.Headline.{Means}
use Rattle.cwr_decode.specs.Steps.Readings.{CountsFault}
use Rattle.cwr_decode.specs.Format.Runs.{TakesFront}
use Rattle.cwr_decode.specs.Steps.Runs.{StopsWhole, StopsText}

pub run_means : (limits : LimitValues) (text : List ℕ) (result : Result TransmissionValue ReadFault) (after : Option (List ℕ))
    → IfOk result (λ v. TakesFront limits (Some text) v after)
    → IfErr result (λ fault. StopsWhole limits fault (Some text) after) → IfErr result (λ fault. CountsFault fault 0 0)
    → Means limits text result
run_means limits text (Ok v) after takes stops failures = (length takes.input, takes.front.0)
run_means limits text (Err Reader) after takes stops failures = omega (arith, failures)
run_means limits text (Err (Refused refusal)) after takes (inl stops) failures = stops.right.ends
run_means limits text (Err (Refused refusal)) after takes (inr lacks) failures =
    let is : Refused refusal ≡ Memory = lacks.0 in absurd (cc is)
run_means limits text (Err (Truncated records)) after takes (inl stops) failures = stops.right.ends
run_means limits text (Err (Truncated records)) after takes (inr lacks) failures =
    let is : Truncated records ≡ Memory = lacks.0 in absurd (cc is)
run_means limits text (Err Memory) after takes stops failures = tt

pub stops_text : (limits : LimitValues) (text : List ℕ) (result : Result TransmissionValue ReadFault) (after : Option (List ℕ))
    → IfErr result (λ fault. StopsWhole limits fault (Some text) after)
    → IfErr result (λ fault. StopsText limits fault text)
stops_text limits text (Ok v) after stops = tt
stops_text limits text (Err fault) after stops = (after, stops)

pub no_failures : (result : Result TransmissionValue ReadFault) (n : ℕ)
    → MatchResult result (λ v. n ≡ n) (λ fault. CountsFault fault n n) → IfErr result (λ fault. CountsFault fault n n)
no_failures (Ok v) n h = tt
no_failures (Err fault) n h = h

pub means_accepted : (limits : LimitValues) (text : List ℕ) (result : Result TransmissionValue ReadFault) (v : TransmissionValue)
    (n : ℕ) → Means limits text result → IsAccepted limits text v n
    → (result ≡ Ok v) ⊎ (result ≡ Err Memory)
means_accepted limits text (Ok w) v n m a = inl (ap Ok (accepted_once limits text w v m.0 n m.1 a).0)
means_accepted limits text (Err Reader) v n m a = absurd m
means_accepted limits text (Err (Refused refusal)) v n m a = absurd (m.unaccepted v n a)
means_accepted limits text (Err (Truncated records)) v n m a = absurd (m.unaccepted v n a)
means_accepted limits text (Err Memory) v n m a = inr refl

pub means_refused : (limits : LimitValues) (text : List ℕ) (result : Result TransmissionValue ReadFault) (refusal : Refusal)
    → Means limits text result → IsRefused limits text refusal
    → (result ≡ Err (Refused refusal)) ⊎ (result ≡ Err Memory)
means_refused limits text (Ok w) refusal m r = absurd (r.unaccepted w m.0 m.1)
means_refused limits text (Err Reader) refusal m r = absurd m
means_refused limits text (Err (Refused other)) refusal m r =
    inl (ap (λ (q : Refusal). Err (Refused q)) (refused_once limits text other refusal m r))
means_refused limits text (Err (Truncated records)) refusal m r = absurd (refused_or_truncated limits text refusal records r m)
means_refused limits text (Err Memory) refusal m r = inr refl

pub means_truncated : (limits : LimitValues) (text : List ℕ) (result : Result TransmissionValue ReadFault) (records : ℕ)
    → Means limits text result → IsTruncated limits text records
    → (result ≡ Err (Truncated records)) ⊎ (result ≡ Err Memory)
means_truncated limits text (Ok w) records m t = absurd (t.unaccepted w m.0 m.1)
means_truncated limits text (Err Reader) records m t = absurd m
means_truncated limits text (Err (Refused refusal)) records m t = absurd (refused_or_truncated limits text refusal records m t)
means_truncated limits text (Err (Truncated others)) records m t = inl (ap (λ (n : ℕ). Err (Truncated n)) (m.count ∙ sym t.count))
means_truncated limits text (Err Memory) records m t = inr refl

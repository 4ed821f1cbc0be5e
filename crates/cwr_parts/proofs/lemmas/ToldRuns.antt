-- What a split and a join do is told by their texts.
use Rattle.std.proofs.Common.{◌≡◌, ℕ, List, [], ◌∷◌, ◌++◌, drop, length, map, Option, Some, None, ap, subst, sym, ◌∙◌, inl, inr}
use Rattle.std.specs.Prelude.{◌⊎◌, Result, Ok, Err, MatchResult}
use Rattle.cwr_shape.specs.declared.limits.Limits.{Limits}
use Rattle.cwr_values.specs.Format.Values.{TransmissionValue}
use Rattle.cwr_values.specs.Format.Rows.{canonical_text}
use Rattle.cwr_judge.specs.Format.Ends.{IsAccepted, IsNotAccepted, IsRefused, IsTruncated}
use Rattle.cwr_judge.proofs.lemmas.Accepted.{accepted_once}
use Rattle.cwr_devices.specs.Format.Outputs.{AddsTexts}
use Rattle.cwr_tools.specs.declared.verdicts.JoinFault.{JoinFault}
use Rattle.cwr_tools.specs.declared.verdicts.JoinReport.{JoinReport}
use Rattle.cwr_tools.specs.declared.verdicts.SplitReport.{SplitReport}
use Rattle.cwr_tools.specs.declared.verdicts.ToolFault.{ToolFault}
use Rattle.cwr_tools.specs.declared.verdicts.ToolFault.TheVariants.{Reader, Writer, Memory, Refused, Truncated, Limit, Output}
use Rattle.cwr_parts.specs.Format.Joins.{IsWholeText}
use Rattle.cwr_parts.specs.Format.Splits.{split_of}
use Rattle.cwr_parts.specs.Format.Splitting.{IsOfSplitDevice, JudgesSplit, SplitsAccepted, split_report}
use Rattle.cwr_parts.specs.Format.Told.{IsJoinedText, JoinsSoFar, JoinsTexts, SplitsText}
use Rattle.cwr_parts.specs.Steps.Joins.{IsTextSoFar, Joins, StopsBy}
use Rattle.cwr_parts.specs.Steps.Splitting.{Splits}
use Rattle.cwr_parts.proofs.lemmas.ToldItems.{handed_before, memory_before, reader_before, refused_before, truncated_before}

-- ---- a split

pub splits_text : (limits : Limits) (n : ℕ) (before after : Option (List ℕ)) (old new : Option (List (List ℕ)))
    (result : Result SplitReport ToolFault) → Splits limits n before after old new result
    → SplitsText limits n before after old new result
splits_text limits n before after old new (Ok report) h = h
splits_text limits n before after old new (Err Reader) h =
    (h.0, reader_before limits before after h.0 h.1, h.2)
splits_text limits n before after old new (Err Memory) h =
    (h.0, memory_before limits before after h.0 h.1, h.2)
splits_text limits n before after old new (Err (Refused refusal)) h =
    (h.0, refused_before limits refusal before after h.0 h.1, h.2)
splits_text limits n before after old new (Err (Truncated records)) h =
    (h.0, truncated_before limits records before after h.0 h.1, h.2)
splits_text limits n before after old new (Err (Writer written)) h =
    (h.0, h.1, handed_before limits (Writer written) before after (h.0 ++ h.1 ∷ []) h.2 (λ text read given k. k), h.3)
splits_text limits n before after old new (Err Output) h =
    (h.0, h.1, handed_before limits Output before after (h.0 ++ h.1 ∷ []) h.2 (λ text read given k. k), h.3)
splits_text limits n before after old new (Err (Limit limit)) h = absurd h

-- what is told is right of the text
pub told_judged : (limits : Limits) (n : ℕ) (before after : Option (List ℕ)) (old new : Option (List (List ℕ)))
    (result : Result SplitReport ToolFault) → SplitsText limits n before after old new result
    → JudgesSplit limits before after result
told_judged limits n None after old new (Ok report) h = tt
told_judged limits n (Some text) after old new (Ok report) h = (h.value, length h.taken.input, h.taken.front.0, h.taken.front.1)
told_judged limits n None after old new (Err (Refused refusal)) h = tt
told_judged limits n (Some text) after old new (Err (Refused refusal)) h =
    subst (λ (t : List ℕ). IsRefused limits t refusal) (sym h.1.known) h.1.items.0
told_judged limits n None after old new (Err (Truncated records)) h = tt
told_judged limits n (Some text) after old new (Err (Truncated records)) h =
    subst (λ (t : List ℕ). IsTruncated limits t records) (sym h.1.known) h.1.items.0
told_judged limits n before after old new (Err Reader) h = tt
told_judged limits n before after old new (Err Memory) h = tt
told_judged limits n before after old new (Err (Writer written)) h = tt
told_judged limits n before after old new (Err Output) h = tt
told_judged limits n before after old new (Err (Limit limit)) h = absurd h

-- and all of a text that is accepted is split, unless a device or memory failed
pub told_accepted : (limits : Limits) (n : ℕ) (before after : Option (List ℕ)) (old new : Option (List (List ℕ)))
    (result : Result SplitReport ToolFault) → SplitsText limits n before after old new result
    → SplitsAccepted limits n before after old new result
told_accepted limits n None after old new result h = tt
told_accepted limits n (Some text) after old new result h = λ v count a. by result h v count a
  where
    refuses : {other : List ℕ} → text ≡ other → IsNotAccepted limits other → (v : TransmissionValue) (count : ℕ)
        → IsAccepted limits text v count → ⊥
    refuses e never v count a = never v count (subst (λ (t : List ℕ). IsAccepted limits t v count) e a)

    by : (r : Result SplitReport ToolFault) → SplitsText limits n (Some text) after old new r → (v : TransmissionValue) (count : ℕ)
        → IsAccepted limits text v count
        → MatchResult r (λ report. (report ≡ split_report n v) × (after ≡ Some (drop count text))
        × AddsTexts old new (map canonical_text (split_of n v))) IsOfSplitDevice
    by (Ok report) k v count a =
        let same = accepted_once limits text k.value v (length k.taken.input) count k.taken.front.0 a in (
          k.reported ∙ ap (split_report n) same.0,
          k.taken.front.1 ∙ ap (λ (m : ℕ). Some (drop m text)) same.1,
          subst (λ (w : TransmissionValue). AddsTexts old new (map canonical_text (split_of n w))) same.0 k.texts,
        )
    by (Err Reader) k v count a = tt
    by (Err Memory) k v count a = tt
    by (Err (Writer written)) k v count a = tt
    by (Err Output) k v count a = tt
    by (Err (Refused refusal)) k v count a = absurd (refuses k.1.known k.1.items.0.unaccepted v count a)
    by (Err (Truncated records)) k v count a = absurd (refuses k.1.known k.1.items.0.unaccepted v count a)
    by (Err (Limit limit)) k v count a = absurd k

-- ---- a join

joined_text : {R : Type 0} (limits : Limits) (written : ℕ) (inputs : List TransmissionValue) (before after : Option (List ℕ))
    (later : List R) (text : List ℕ)
    → IsTextSoFar limits inputs before after text ⊎ (IsWholeText limits inputs before after text × (later ≡ []))
    → IsJoinedText limits (Writer written) inputs before after later text
joined_text limits written inputs before after later text (inl t) =
    inl (t.given, handed_before limits (Writer written) before after t.given t.handed_out (λ text read given k. k), t.part)
joined_text limits written inputs before after later text (inr t) = inr t

so_far : {R W : Type 0} (limits : Limits) (fault : ToolFault) (contents : W → Option (List ℕ)) (inputs : List TransmissionValue)
    (before after : Option (List ℕ)) (later : List R) (old new : W)
    → StopsBy limits fault contents inputs before after later old new
    → JoinsSoFar limits fault contents inputs before after later old new
so_far limits Reader contents inputs before after later old new h = record {
  given = h.given;
  before_it = reader_before limits before after h.given h.stops;
  written = h.written;
}
so_far limits Memory contents inputs before after later old new h = record {
  given = h.given;
  before_it = memory_before limits before after h.given h.stops;
  written = h.written;
}
so_far limits (Refused refusal) contents inputs before after later old new h =
    record { given = h.given; before_it = refused_before limits refusal before after h.given h.stops; written = h.written }
so_far limits (Truncated records) contents inputs before after later old new h =
    record { given = h.given; before_it = truncated_before limits records before after h.given h.stops; written = h.written }
so_far limits (Limit limit) contents inputs before after later old new h = record {
  given = h.given;
  item = h.item;
  before_it = handed_before limits (Limit limit) before after (h.given ++ h.item ∷ []) h.handed_out (λ text read given k. k);
  barred = h.barred;
  written = h.written;
}
so_far limits (Writer written) contents inputs before after later old new h =
    (h.text, joined_text limits written inputs before after later h.text h.text_is, h.front)
so_far limits Output contents inputs before after later old new h = absurd h

pub joins_texts : {R W : Type 0} (limits : Limits) (remaining : R → Option (List ℕ)) (failures : R → ℕ)
    (contents : W → Option (List ℕ)) (before after : List R) (old new : W) (result : Result JoinReport JoinFault)
    → Joins limits remaining failures contents before after old new result
    → JoinsTexts limits remaining failures contents before after old new result
joins_texts limits remaining failures contents before after old new (Ok report) h = h
joins_texts limits remaining failures contents before after old new (Err stopped) h = record {
  earlier = h.earlier;
  hand = h.hand;
  later = h.later;
  finished = h.finished;
  left = h.left;
  before_are = h.before_are;
  after_are = h.after_are;
  number = h.number;
  inputs = h.inputs;
  taken = h.taken;
  stops =
      so_far limits stopped.fault contents h.inputs (remaining h.hand) (remaining h.left) h.later old new h.stops;
  counts = h.counts;
}

-- A text that was put and handed on.
use Rattle.std.proofs.Common.{◌≡◌, ◌<◌, ℕ, Bool, true, false, List, [], ◌++◌, Option, None, Some, refl, sym, ap, subst, ◌∙◌, append-nil, true≢false}
use Rattle.std.specs.Prelude.{Result, Ok, Err, is_err}
use Rattle.std.specs.Io.KnownBytes.{Appends, Keeps}
use Rattle.cwr_devices.specs.Format.Failures.{most_failures, one_more_failure}
use Rattle.cwr_devices.specs.declared.sinks.Sink.{Sink}
use Rattle.cwr_devices.specs.declared.sinks.SinkFault.{SinkFault}
use Rattle.cwr_devices.specs.Steps.Sinks.{CountsOn, HasWritten, has_failed, writer_of}
use Rattle.cwr_endings.specs.Format.Puts.{HandsOn, PutsOut}

pub appends_kept : (a b c : Option (List ℕ)) (xs : List ℕ) → Appends a b xs → Keeps b c → Appends a c xs
appends_kept None b c xs h k = tt
appends_kept (Some x) None c xs h k = absurd h
appends_kept (Some x) (Some y) None xs h k = absurd k
appends_kept (Some x) (Some y) (Some z) xs h k = k ∙ h

-- after a text was put to a new sink, and what came back was handed on
pub puts_out : {W A E : Type 0} (contents : W → Option (List ℕ)) (failures : W → ℕ) (text : List ℕ) (put : Result (Unit {0}) SinkFault)
    (result : Result A E) (old new : W) (before after : Sink W) → writer_of before ≡ old → has_failed after ≡ is_err put
    → HasWritten contents (contents old) text after → CountsOn put (failures (writer_of before)) (failures (writer_of after))
    → Keeps (contents (writer_of after)) (contents new) → HandsOn put result (failures (writer_of after)) (failures new)
    → PutsOut contents failures text result old new
puts_out contents failures text (Ok u) (Ok r) old new before after is failed has counts kept hands =
    let whole : text ≡ has.bytes = has.split ∙ ap (λ (t : List ℕ). has.bytes ++ t) (has.whole failed) ∙ append-nil has.bytes in
    let same : failures (writer_of after) ≡ failures old = counts ∙ ap failures is in (
      subst (Appends (contents old) (contents new)) (sym whole)
          (appends_kept (contents old) (contents (writer_of after)) (contents new) has.bytes has.appended kept),
      hands.0 ∙ same,
      subst (λ (n : ℕ). n < most_failures) same hands.1,
    )
puts_out contents failures text (Ok u) (Err stop) old new before after is failed has counts kept hands =
    hands ∙ ap one_more_failure (counts ∙ ap failures is)
puts_out contents failures text (Err fault) (Ok r) old new before after is failed has counts kept hands = absurd hands
puts_out {W = W} contents failures text (Err fault) (Err stop) old new before after is failed has counts kept hands =
    hands ∙ counts ∙ ap (λ (w : W). one_more_failure (failures w)) is

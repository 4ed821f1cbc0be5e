use Rattle.std.proofs.Common.{◌≡◌, Bool, List, ap, ap₂, ◌∙◌}
use Rattle.std.specs.Prelude.{map}
use Rattle.cwr_lines.specs.Format.Records.{RecordValue}
use Rattle.cwr_sent.specs.Format.SentRows.{content_in}
use Rattle.cwr_sent.specs.Format.SentFacts.{SentContent}
use Rattle.cwr_delivery.specs.declared.deliveries.Tally.{Tally}
use Rattle.cwr_delivery.specs.declared.outcomes.Outcome.{Outcome}
use Rattle.cwr_delivery.specs.Format.Answering.{outcome_of}
use Rattle.cwr_delivery.specs.Format.Told.{is_retitled, is_unkeyed}
use Rattle.cwr_delivery.specs.Steps.Deliveries.{Held, again_for, held_in, kept_for, outcome_held, tally_with}
use Rattle.cwr_delivery.proofs.lemmas.Ends.{contents_shown}
use Rattle.cwr_delivery.proofs.deliveries.Delivery.take.Goals as goal

pub returns-clause-taken : goal.returns-clause-taken
returns-clause-taken c =
    let h : Held = held_in c.args.self.now in
    let a : RecordValue = c.args.head.now in
    let t : List RecordValue = c.args.transaction.now in
    let out : c.outcome_of-outcome.result ≡ outcome_held h a =
    c.outcome_of-outcome.ensures ∙ ap (λ l. outcome_of h.by_place (map content_in l) a) c.deref.ensures.value
    ∙ ap (λ (l : List SentContent). outcome_of h.by_place l a) (contents_shown c.args.self.now.sent.items) in
    let kept : held_in c.keep.new.self ≡ record h { sent = kept_for h c.outcome_of-outcome.result a t } = c.in_ok-again.ensures.kept in
    ap₂ (λ (x : Held) (y : Tally). record x { tally = y }) kept
    (c.with-self.ensures
    ∙ ap₂ (λ (x : Held) (b : Bool). tally_with x.tally b c.outcome_of-outcome.result) kept
    (c.is_unkeyed-unkeyed.ensures ∙ ap (λ (x : Held). is_unkeyed x.by_place a) kept))
    ∙ ap (λ (o : Outcome). record h { sent = kept_for h o a t; tally = tally_with h.tally (is_unkeyed h.by_place a) o }) out

pub returns-clause-notes : goal.returns-clause-notes
returns-clause-notes c =
    let h : Held = held_in c.args.self.now in
    let a : RecordValue = c.args.head.now in
    let t : List RecordValue = c.args.transaction.now in
    let out : c.outcome_of-outcome.result ≡ outcome_held h a =
    c.outcome_of-outcome.ensures ∙ ap (λ l. outcome_of h.by_place (map content_in l) a) c.deref.ensures.value
    ∙ ap (λ (l : List SentContent). outcome_of h.by_place l a) (contents_shown c.args.self.now.sent.items) in
    let kept : held_in c.keep.new.self ≡ record h { sent = kept_for h c.outcome_of-outcome.result a t } = c.in_ok-again.ensures.kept in
    let unkeyed = c.is_unkeyed-unkeyed.ensures ∙ ap (λ (x : Held). is_unkeyed x.by_place a) kept in
    let retitled = c.is_retitled.ensures ∙ ap (λ (o : Outcome). is_retitled o a) out in
    let again : c.in_ok-again.again ≡ again_for h (outcome_held h a) a t =
    c.in_ok-again.ensures.again ∙ ap (λ (o : Outcome). again_for h o a t) out in
    λ z. record { unkeyed = unkeyed z; outcome = out z; retitled = retitled z; again = again z }

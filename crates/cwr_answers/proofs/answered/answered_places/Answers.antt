use Rattle.std.proofs.Common.{◌≡◌, List, [], ◌∷◌, ◌++◌, ℕ, Bor, map, Option, Some, sym, ap, subst, ◌∙◌}
use Rattle.cwr_sent.specs.declared.tables.Sent.{Sent}
use Rattle.cwr_sent.specs.Format.SentFacts.{SentContent, content_of}
use Rattle.cwr_sent.specs.Format.SentRows.{SentShown, content_in, content_shown, shown_in}
use Rattle.cwr_delivery.specs.declared.deliveries.Delivery.{Delivery}
use Rattle.cwr_delivery.specs.Format.Told.{no_history}
use Rattle.cwr_delivery.specs.Steps.Deliveries.{Held, held_in, nothing_held}
use Rattle.cwr_delivery.proofs.lemmas.Ends.{contents_shown}
use Rattle.cwr_acks.specs.Format.AckLines.{Matched}
use Rattle.cwr_acks.specs.Steps.AckSteps.{held_if}
use Rattle.cwr_files.specs.Format.Files.{Texts}
use Rattle.cwr_answers.specs.Steps.Seeking.{ReadsEach}
use Rattle.cwr_answers.proofs.lemmas.AnsweredPlaces.{sent_kept}
use Rattle.cwr_answers.proofs.answered.answered_places.Goals as goal

pub returns-in-Ok-places_with-clause-places : goal.returns-in-Ok-places_with-clause-places
returns-in-Ok-places_with-clause-places g c =
    λ input lent.
    let by_place = c.args.answered.now.by_place in
    let limits = c.args.answered.now.limits in
    let names : List (List ℕ) = map {A = Bor (List ℕ)} {B = List ℕ} (λ w. w.now) c.args.answered.now.files.now in
    let held : Option Texts = g.S.Store.held c.args.store.now in
    let sent : Sent = c.in_ok-sent.sent in
    let read = c.in_ok-sent.ensures.sent in
    let was = read.1 input lent in
    let shown : SentShown = shown_in sent in
    let content : SentContent = content_of was.0 in
    let contents : content_in sent ∷ [] ≡ content_shown shown ∷ [] = contents_shown (sent ∷ []) in
    let one : content_in sent ≡ content_shown shown = cc contents in
    let begun : held_in c.add.new.self ≡ record (nothing_held by_place) { sent = shown ∷ [] }
    = c.in-Ok-add.ensures ∙ ap (λ (h : Held). let r : Held = record h { sent = h.sent ++ shown ∷ [] } in r) c.in-Ok.ensures in
    let first : Option Matched = Some (record { delivered = record { by_place = by_place; sent = content ∷ [] }; history = no_history }) in
    let each : ReadsEach limits held (g.I.Read.remaining input) names first (held_if (Some c.in-Some.delivery))
    = subst (λ (d : Option Delivery). ReadsEach limits held (g.I.Read.remaining input) names first (held_if d)) c.in-Some.is
    (subst (λ (h : Option Texts). ReadsEach limits h (g.I.Read.remaining input) names first (held_if c.in_ok-delivery.field-0))
    c.read_what_was_sent.ensures.kept
    (c.in_ok-delivery.ensures.answers input (c.read_what_was_sent.ensures.standard input lent) first
    (sent_kept by_place shown content (held_in c.add.new.self) read.0 (sym one ∙ was.2) begun))) in
    record {
      value = was.0;
      answers = each.answers;
      was_sent = was.1;
      were_read = each.were_read;
      places_are = c.in-Ok-places_with.ensures [] _ _ each.kept;
    }

pub returns-in-Ok-places_with-clause-standard : goal.returns-in-Ok-places_with-clause-standard
returns-in-Ok-places_with-clause-standard g c =
    λ input lent. c.read_each.ensures.standard input (c.read_what_was_sent.ensures.standard input lent)

pub returns-in_err-delivery-clause-standard : goal.returns-in_err-delivery-clause-standard
returns-in_err-delivery-clause-standard g c =
    λ input lent. c.read_each.ensures.standard input (c.read_what_was_sent.ensures.standard input lent)

pub returns-in_default-2-clause-standard : goal.returns-in_default-2-clause-standard
returns-in_default-2-clause-standard g c =
    λ input lent. c.read_each.ensures.standard input (c.read_what_was_sent.ensures.standard input lent)

pub returns-clause-standard : goal.returns-clause-standard
returns-clause-standard g c =
    λ input lent. c.read_each.ensures.standard input (c.read_what_was_sent.ensures.standard input lent)

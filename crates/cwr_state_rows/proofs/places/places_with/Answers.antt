use Rattle.std.proofs.Common.{◌≡◌, List, Some, ◌++◌, length, sym, ap, ◌∙◌, arith}
use Rattle.std.specs.Prelude.{slice_get}
use Rattle.std.specs.List.{flat_map}
use Rattle.std.proofs.lemmas.List.{length-map, take_all}
use Rattle.cwr_sent.specs.declared.answers.AnsweringFile.{AnsweringFile}
use Rattle.cwr_sent.specs.Format.SentRows.{SentShown, shown_in}
use Rattle.cwr_delivery.specs.Steps.Deliveries.{held_in}
use Rattle.cwr_delivery.proofs.lemmas.Ends.{shown_at}
use Rattle.cwr_state_rows.specs.Steps.HeldPlaces.{sent_places}
use Rattle.cwr_state_rows.proofs.lemmas.NumberedMore.{flat_take}
use Rattle.cwr_state_rows.proofs.lemmas.PlacesKept.{places_kept}
use Rattle.cwr_state_rows.proofs.places.places_with.Goals as goal

pub loop-sent-preserved : goal.loop-sent-preserved
loop-sent-preserved c =
    let there : Some (shown_in c.sent-item.result) ≡ slice_get (held_in c.args.delivery.now).sent c.loop-sent.sent-index =
    sym (shown_at shown_in c.sent-sent-items.result.now c.loop-sent.sent-index c.sent-item.result c.loop-sent-test.true
    c.sent-item.is)
    ∙ ap (λ (l : List SentShown). slice_get l c.loop-sent.sent-index) c.sent-sent-items.ensures in
    let files : List AnsweringFile = (held_in c.args.delivery.now).files in
    c.in_ok-add_sent.ensures
    ∙ ap (λ (l : List AnsweringFile). c.loop-sent.places.items ++ sent_places c.args.states.now l (shown_in c.sent-item.result)) c.files.ensures
    ∙ ap (λ l. l ++ sent_places c.args.states.now files (shown_in c.sent-item.result)) c.loop-sent.invariant
    ∙ sym (flat_take (sent_places c.args.states.now files) (held_in c.args.delivery.now).sent c.loop-sent.sent-index
    (shown_in c.sent-item.result) there)

pub returns : goal.returns
returns c = λ names delivered history keeps.
    c.loop-sent.invariant
    ∙ ap (λ (l : List SentShown). flat_map (sent_places c.args.states.now (held_in c.args.delivery.now).files) l) (take_all
    c.loop-sent.sent-index (held_in c.args.delivery.now).sent
    (omega (arith, ap length c.sent-sent-items.ensures, length-map c.sent-sent-items.result.now shown_in)))
    ∙ places_kept c.args.states.now names delivered history (held_in c.args.delivery.now) keeps

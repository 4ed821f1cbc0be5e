use Rattle.std.proofs.Common.{◌≡◌, List, Some, fold, length, sym, ap, ◌∙◌, arith}
use Rattle.std.specs.Prelude.{slice_get}
use Rattle.std.proofs.lemmas.List.{length-map, take_all}
use Rattle.cwr_sent.specs.declared.answers.AnsweringFile.{AnsweringFile}
use Rattle.cwr_sent.specs.Format.SentRows.{SentShown, shown_in}
use Rattle.cwr_delivery.specs.Steps.Deliveries.{held_in}
use Rattle.cwr_delivery.proofs.lemmas.Ends.{shown_at}
use Rattle.cwr_state_rows.specs.declared.counts.Counts.{Counts}
use Rattle.cwr_state_rows.specs.Steps.HeldRows.{counts_with_sent, no_counts}
use Rattle.cwr_state_rows.proofs.lemmas.CountsKept.{counts_kept}
use Rattle.cwr_state_rows.proofs.lemmas.NumberedMore.{fold_take}
use Rattle.cwr_state_rows.proofs.counts.count_rows.Goals as goal

pub loop-sent-preserved : goal.loop-sent-preserved
loop-sent-preserved c =
    let there : Some (shown_in c.sent-item.result) ≡ slice_get (held_in c.args.delivery.now).sent c.loop-sent.sent-index =
    sym (shown_at shown_in c.sent-sent-items.result.now c.loop-sent.sent-index c.sent-item.result c.loop-sent-test.true
    c.sent-item.is)
    ∙ ap (λ (l : List SentShown). slice_get l c.loop-sent.sent-index) c.sent-sent-items.ensures in
    let files : List AnsweringFile = (held_in c.args.delivery.now).files in
    c.in_ok-so_far.ensures
    ∙ ap (λ (l : List AnsweringFile). counts_with_sent l c.loop-sent.so_far (shown_in c.sent-item.result)) c.files.ensures
    ∙ ap (λ (n : Counts). counts_with_sent files n (shown_in c.sent-item.result)) c.loop-sent.invariant
    ∙ sym (fold_take (counts_with_sent files) no_counts (held_in c.args.delivery.now).sent c.loop-sent.sent-index
    (shown_in c.sent-item.result) there)

pub returns-clause-told : goal.returns-clause-told
returns-clause-told c = λ names delivered history keeps.
    c.loop-sent.invariant
    ∙ ap (λ (l : List SentShown). fold (counts_with_sent (held_in c.args.delivery.now).files) no_counts l) (take_all
    c.loop-sent.sent-index (held_in c.args.delivery.now).sent
    (omega (arith, ap length c.sent-sent-items.ensures, length-map c.sent-sent-items.result.now shown_in)))
    ∙ counts_kept names delivered history (held_in c.args.delivery.now) keeps

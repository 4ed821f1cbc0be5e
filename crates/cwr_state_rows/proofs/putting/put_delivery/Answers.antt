use Rattle.std.proofs.Common.{◌≡◌, ℕ, List, ◌++◌, length, take, refl, sym, ap, ap₂, subst, ◌∙◌, arith, append-nil}
use Rattle.std.specs.Prelude.{Err, Ok, Option, Some, map, slice_get}
use Rattle.std.proofs.lemmas.List.{take_all}
use Rattle.cwr_devices.specs.Steps.Sinks.{PutsText}
use Rattle.cwr_sent.specs.declared.answers.AnsweringFile.{AnsweringFile}
use Rattle.cwr_sent.specs.Format.SentRows.{SentShown, shown_in}
use Rattle.cwr_delivery.specs.Steps.Deliveries.{held_in}
use Rattle.cwr_delivery.proofs.lemmas.Ends.{shown_at}
use Rattle.cwr_state_rows.specs.Format.RowTexts.{head_of}
use Rattle.cwr_state_rows.specs.Steps.HeldRows.{delivery_text, group_text, numbered, sent_text}
use Rattle.cwr_state_rows.proofs.lemmas.PutInTurn.{head_stopped, put_more, put_stopped, rows_as}
use Rattle.cwr_state_rows.proofs.putting.put_delivery.Goals as goal

pub returns-in_err-put_head : goal.returns-in_err-put_head
returns-in_err-put_head g c =
    head_stopped g.W.Target.contents g.W.Target.failures (head_of c.args.form)
    (delivery_text c.args.form (map (λ n. n.items) c.args.names.now) (held_in c.args.delivery.now)) c.from_residual.result _
    c.args.sink.now c.put_head.new.sink c.from_residual.ensures.1 c.in_err-put_head.ensures

pub loop-i-init : goal.loop-i-init
loop-i-init g c =
    subst (λ (l : List ℕ). PutsText g.W.Target.contents g.W.Target.failures l (Ok tt) c.args.sink.now c.put_head.new.sink)
    (sym (append-nil (head_of c.args.form))) c.in_ok-put_head.ensures

pub returns-in_err-put_sent : goal.returns-in_err-put_sent
returns-in_err-put_sent g c =
    let there : Some (shown_in c.index-sent-i.result) ≡ slice_get (held_in c.args.delivery.now).sent c.loop-i.i =
    sym (shown_at shown_in c.sent-sent.result.now c.loop-i.i c.index-sent-i.result c.loop-i-test.true c.index-sent-i.is)
    ∙ ap (λ (l : List SentShown). slice_get l c.loop-i.i) c.sent-sent.ensures in
    let text : ℕ → SentShown → List ℕ =
    sent_text c.args.form (map (λ n. n.items) c.args.names.now) (held_in c.args.delivery.now).files in
    put_stopped g.W.Target.contents g.W.Target.failures (head_of c.args.form) text 0 c.loop-i.i c.loop-i.i
    (held_in c.args.delivery.now).sent (shown_in c.index-sent-i.result) c.from_residual-in_err-put_sent.result
    c.in_err-put_sent.field-0.0 c.args.sink.now c.loop-i.sink c.put_sent.new.sink c.from_residual-in_err-put_sent.ensures.1 there
    (omega arith) c.loop-i.invariant
    (rows_as g.W.Target.contents g.W.Target.failures _ _ _ _ (Err c.in_err-put_sent.field-0.0)
    (ap₂ (λ (o : Option (List ℕ)) (l : List AnsweringFile). numbered (group_text c.args.form o l) 1
    (shown_in c.index-sent-i.result).groups) c.name_at.ensures c.files.ensures) c.in_err-put_sent.ensures)

pub loop-i-preserved : goal.loop-i-preserved
loop-i-preserved g c =
    let there : Some (shown_in c.index-sent-i.result) ≡ slice_get (held_in c.args.delivery.now).sent c.loop-i.i =
    sym (shown_at shown_in c.sent-sent.result.now c.loop-i.i c.index-sent-i.result c.loop-i-test.true c.index-sent-i.is)
    ∙ ap (λ (l : List SentShown). slice_get l c.loop-i.i) c.sent-sent.ensures in
    let text : ℕ → SentShown → List ℕ =
    sent_text c.args.form (map (λ n. n.items) c.args.names.now) (held_in c.args.delivery.now).files in
    put_more g.W.Target.contents g.W.Target.failures (head_of c.args.form) text 0 c.loop-i.i c.loop-i.i
    (held_in c.args.delivery.now).sent (shown_in c.index-sent-i.result) c.args.sink.now c.loop-i.sink c.put_sent.new.sink there
    (omega arith) c.loop-i.invariant
    (rows_as g.W.Target.contents g.W.Target.failures _ _ _ _ (Ok tt)
    (ap₂ (λ (o : Option (List ℕ)) (l : List AnsweringFile). numbered (group_text c.args.form o l) 1
    (shown_in c.index-sent-i.result).groups) c.name_at.ensures c.files.ensures) c.in_ok-put_sent.ensures)

use Rattle.std.proofs.Common.{◌≡◌, ℕ, ◌-◌, Some, sym, ap, ap₂, ◌∙◌, get_or}
use Rattle.std.specs.Prelude.{map, slice_get, slice_set}
use Rattle.std.proofs.lemmas.List.{map-set}
use Rattle.std.proofs.Math.Seq.{map-set_same}
use Rattle.cwr_sent.specs.declared.tables.Sent.{Sent}
use Rattle.cwr_sent.specs.Format.SentRows.{shown_in}
use Rattle.cwr_sent.specs.Steps.SentTables.{is_again_at, kept_shown}
use Rattle.cwr_delivery.specs.Format.Answering.{group_of, sequence_of}
use Rattle.cwr_delivery.specs.Steps.Deliveries.{again_in, kept_for_one}
use Rattle.cwr_delivery.proofs.lemmas.Ends.{if_ok, on_err, on_ok, shown_at}
use Rattle.cwr_delivery.proofs.deliveries.keep_in.Goals as goal

pub returns-clause-kept : goal.returns-clause-kept
returns-clause-kept c =
    let s : Sent = get_or c.args.sent.now c.args.i c.index-sent-i.result in
    let there : slice_get (map shown_in c.args.sent.now) c.args.i ≡ Some (shown_in s) =
    shown_at shown_in c.args.sent.now c.args.i c.index-sent-i.result c.if-i-sent.false c.index-sent-i.is
    ∙ ap (λ (x : Sent). Some (shown_in x)) c.index-sent-i.is in
    let g : c.saturating_sub-group.result ≡ group_of c.args.head.now - 1 =
    c.saturating_sub-group.ensures ∙ ap (λ (n : ℕ). n - 1) c.group_of.ensures in
    on_ok c.keep.result (λ h. map-set shown_in c.args.sent.now c.args.i c.keep.new.self
    ∙ ap (slice_set (map shown_in c.args.sent.now) c.args.i) (h
    ∙ ap₂ (λ (m n : ℕ). kept_shown c.args.files.now m n c.args.new.now (shown_in s)) g c.sequence_of.ensures)
    ∙ ap (kept_for_one c.args.files.now (group_of c.args.head.now - 1) (sequence_of c.args.head.now) c.args.new.now
    (map shown_in c.args.sent.now) c.args.i) (sym there)) c.keep.ensures.kept

pub returns-clause-again : goal.returns-clause-again
returns-clause-again c =
    let s : Sent = get_or c.args.sent.now c.args.i c.index-sent-i.result in
    let there : slice_get (map shown_in c.args.sent.now) c.args.i ≡ Some (shown_in s) =
    shown_at shown_in c.args.sent.now c.args.i c.index-sent-i.result c.if-i-sent.false c.index-sent-i.is
    ∙ ap (λ (x : Sent). Some (shown_in x)) c.index-sent-i.is in
    let g : c.saturating_sub-group.result ≡ group_of c.args.head.now - 1 =
    c.saturating_sub-group.ensures ∙ ap (λ (n : ℕ). n - 1) c.group_of.ensures in
    if_ok c.keep.result (λ b h. h
    ∙ ap₂ (λ (m n : ℕ). is_again_at c.args.files.now m n c.args.new.now (shown_in s).groups) g c.sequence_of.ensures
    ∙ ap (again_in c.args.files.now (group_of c.args.head.now - 1) (sequence_of c.args.head.now) c.args.new.now) (sym there))
    c.keep.ensures.again

pub returns-clause-unchanged : goal.returns-clause-unchanged
returns-clause-unchanged c =
    on_err c.keep.result (λ h. map-set_same shown_in c.args.sent.now c.args.i c.keep.new.self c.index-sent-i.result
    h) c.keep.ensures.unchanged

use Rattle.std.proofs.Common.{◌≡◌, ℕ, suc, ◌<◌, ◌+◌, Bool, List, length, ap, sym, ◌∙◌, arith}
use Rattle.std.specs.Prelude.{slice_index, slice_set}
use Rattle.std.proofs.lemmas.Option.{slice_get-get_or}
use Rattle.cwr_fields.specs.Format.MessageCodes.{transaction_statuses}
use Rattle.cwr_values.specs.declared.items.Item.{Item}
use Rattle.cwr_values.specs.declared.items.Item.TheVariants.{Transaction}
use Rattle.cwr_acks.specs.declared.counts.Answers.{Answers}
use Rattle.cwr_acks.specs.Steps.AckSteps.{one_more_if}
use Rattle.cwr_acks.proofs.lemmas.Statuses.{counted_at, counted_to, counted_whole, counted_with, counted_without}
use Rattle.cwr_acks.proofs.counts.Answers.count_transaction.Goals as goal
use Rattle.cwr_acks.proofs.counts.Answers.count_transaction.Goals.{then-is_answer, else-is_answer, then-has_status}
use Rattle.cwr_acks.proofs.counts.Answers.count_transaction.Goals.{else-has_status}

pub loop-i-init : goal.loop-i-init
loop-i-init c =
    elim c.if-is_answer.branch [
      | then-is_answer w ↦ record {
        all =
            ap (λ (a : Answers). a.all) w.self-is
            ∙ ap (λ (b : Bool). one_more_if b c.args.self.now.all) (sym w.if-is_answer.true ∙ c.is_answer.ensures);
        each = ap (λ (a : Answers). a.by_status) w.self-is;
      }
      | else-is_answer w ↦ record {
        all =
            ap (λ (a : Answers). a.all) w.self-is
            ∙ ap (λ (b : Bool). one_more_if b c.args.self.now.all) (sym w.if-is_answer.false ∙ c.is_answer.ensures);
        each = ap (λ (a : Answers). a.by_status) w.self-is;
      }
    ]

pub overflow_add-self-then-has_status : goal.overflow_add-self-then-has_status
overflow_add-self-then-has_status c =
    let i : ℕ = c.loop-i.i in
    let ns : List ℕ = c.args.self.now.by_status in
    let within : i < length ns = omega (arith, c.requires.ten, c.loop-i-test.true) in
    let same : slice_index c.loop-i.self.by_status i ≡ slice_index ns i
    = ap (λ (l : List ℕ). slice_index l i) c.loop-i.invariant.each
    ∙ counted_at i (Transaction c.args.transaction.now) transaction_statuses ns c.loop-i-test.true within in
    omega (arith, same, c.requires.each i)

pub loop-i-preserved : goal.loop-i-preserved
loop-i-preserved c =
    let i : ℕ = c.loop-i.i in
    let item : Item = Transaction c.args.transaction.now in
    let ns : List ℕ = c.args.self.now.by_status in
    let within : i < length ns = omega (arith, c.requires.ten, c.loop-i-test.true) in
    let next : suc i ≡ i + 1 = omega arith in
    elim c.if-has_status.branch [
      | then-has_status w ↦ record {
        all = ap (λ (a : Answers). a.all) w.self-is ∙ c.loop-i.invariant.all;
        each =
            ap (λ (a : Answers). a.by_status) w.self-is
            ∙ ap (λ (l : List ℕ). slice_set l i (slice_index l i + 1)) c.loop-i.invariant.each
            ∙ counted_with i item transaction_statuses ns _ (slice_get-get_or transaction_statuses i _ c.loop-i-test.true) within
            (sym c.has_status.ensures ∙ w.if-has_status.true)
            ∙ ap (λ (n : ℕ). counted_to n item transaction_statuses ns) next;
      }
      | else-has_status w ↦ record {
        all = ap (λ (a : Answers). a.all) w.self-is ∙ c.loop-i.invariant.all;
        each = ap (λ (a : Answers). a.by_status) w.self-is ∙ c.loop-i.invariant.each
            ∙ counted_without i item transaction_statuses ns _ (slice_get-get_or transaction_statuses i _ c.loop-i-test.true)
            within (sym c.has_status.ensures ∙ w.if-has_status.false)
            ∙ ap (λ (n : ℕ). counted_to n item transaction_statuses ns) next;
      }
    ]

pub returns : goal.returns
returns c =
    counted_whole c.loop-i.i (Transaction c.args.transaction.now) c.loop-i.self c.args.self.now c.requires.ten c.loop-i-test.false
    c.loop-i.auto.i-end c.loop-i.invariant.all c.loop-i.invariant.each

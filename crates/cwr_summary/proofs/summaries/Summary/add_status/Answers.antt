use Rattle.std.proofs.Common.{◌≡◌, ℕ, Bor, List, [], get_or, take, ap, refl, sym, ◌∙◌}
use Rattle.std.specs.Prelude.{flat_map}
use Rattle.std.proofs.lemmas.List.{take_all}
use Rattle.std.proofs.lemmas.Option.{slice_get-get_or}
use Rattle.cwr_fields.specs.declared.message_codes.TransactionStatus.{TransactionStatus}
use Rattle.cwr_fields.specs.declared.message_codes.TransactionStatus.TheVariants.{Conflict}
use Rattle.cwr_fields.specs.Format.MessageCodes.{status_code, transaction_statuses}
use Rattle.cwr_values.specs.declared.items.Item.TheVariants as items
use Rattle.cwr_summary.specs.Format.Summaries.{Part, status_part}
use Rattle.cwr_summary.specs.Steps.Counted.{counted}
use Rattle.cwr_summary.proofs.lemmas.Counting.{counted_both, listed_more, of_listed}
use Rattle.cwr_summary.proofs.summaries.Summary.add_status.Goals as goal

pub loop-status-init : goal.loop-status-init
loop-status-init c = refl

pub loop-status-preserved : goal.loop-status-preserved
loop-status-preserved c =
    let of : TransactionStatus × Bor (List ℕ) → List Part = λ p. status_part (items.Transaction c.args.transaction.now) p.0 in
    let list : List (TransactionStatus × Bor (List ℕ)) = c.list-status-items.result.now in
    let i : ℕ = c.loop-status.status-index in
    let d : TransactionStatus × Bor (List ℕ) = (Conflict, record { ref_ptr = (0, 0); now = [] }) in
    let old = c.args.self.now.numbers in
    counted_both old c.loop-status.self.numbers c.add_answer.new.self.numbers (flat_map of (take i list)) (of (get_or list i d)) c.loop-status.invariant
    c.add_answer.ensures
    ∙ ap (counted old) (sym (listed_more of list i (get_or list i d) (sym (slice_get-get_or list i d c.loop-status-test.true))))

pub returns : goal.returns
returns c =
    let item = items.Transaction c.args.transaction.now in
    let list : List (TransactionStatus × Bor (List ℕ)) = c.list-status-items.result.now in
    let all : take c.loop-status.status-index list ≡ list = take_all c.loop-status.status-index list c.loop-status-test.false in
    c.loop-status.invariant
    ∙ ap (λ (l : List (TransactionStatus × Bor (List ℕ))). counted c.args.self.now.numbers (flat_map (λ p. status_part item p.0) l)) all
    ∙ ap (counted c.args.self.now.numbers) (of_listed (λ status code. status_part item status) status_code list transaction_statuses c.list-status-items.ensures)

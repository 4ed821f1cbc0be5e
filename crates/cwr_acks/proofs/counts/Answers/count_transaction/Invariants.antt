use Rattle.std.proofs.Common.{◌≡◌}
use Rattle.cwr_fields.specs.Format.MessageCodes.{transaction_statuses}
use Rattle.cwr_values.specs.declared.items.Item.TheVariants.{Transaction}
use Rattle.cwr_delivery.specs.Format.Acknowledgements.{is_answer}
use Rattle.cwr_acks.specs.Steps.AckSteps.{one_more_if}
use Rattle.cwr_acks.proofs.lemmas.Statuses.{counted_to}
use Rattle.cwr_acks.proofs.counts.Answers.count_transaction.Given as goal

abbrev pub invariant-loop-i : goal.invariant-loop-i
invariant-loop-i l = record {
  all : l.self.all ≡ one_more_if (is_answer (Transaction l.transaction)) l.fn.self.all;
  each : l.self.by_status ≡ counted_to l.i (Transaction l.transaction) transaction_statuses l.fn.self.by_status;
}

use Rattle.cwr_delivery.proofs.lemmas.WhichCount.{any_order, any_order_of_days}
use Rattle.cwr_delivery.proofs.laws.any_order_counts.Goals as goal

pub returns-clause-order : goal.returns-clause-order
returns-clause-order c = any_order

pub returns-clause-days : goal.returns-clause-days
returns-clause-days c = any_order_of_days

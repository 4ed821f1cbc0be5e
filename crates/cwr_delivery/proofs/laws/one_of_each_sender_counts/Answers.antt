use Rattle.cwr_delivery.proofs.lemmas.WhichCount.{counting_read, each_counted, one_each}
use Rattle.cwr_delivery.proofs.laws.one_of_each_sender_counts.Goals as goal

pub returns-clause-read : goal.returns-clause-read
returns-clause-read c = counting_read

pub returns-clause-one : goal.returns-clause-one
returns-clause-one c = one_each

pub returns-clause-each : goal.returns-clause-each
returns-clause-each c = each_counted

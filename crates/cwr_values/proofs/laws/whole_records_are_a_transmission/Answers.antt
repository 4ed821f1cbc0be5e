use Rattle.cwr_values.proofs.lemmas.OneTransmissionOfRecords.{built}
use Rattle.cwr_values.proofs.lemmas.OneSpelling.{one_value}
use Rattle.cwr_values.proofs.laws.whole_records_are_a_transmission.Goals as goal

pub returns : goal.returns
returns c = record {
  some = λ records h k. let b = built k.0 records k.1 k.2 h in (b.value, b.whole, b.records_are);
  no_other = one_value;
}

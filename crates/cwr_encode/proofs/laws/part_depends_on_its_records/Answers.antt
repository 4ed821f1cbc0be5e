use Rattle.cwr_encode.proofs.lemmas.PartLaws.{one_part}
use Rattle.cwr_encode.proofs.laws.part_depends_on_its_records.Goals as goal

pub returns : goal.returns
returns c = one_part

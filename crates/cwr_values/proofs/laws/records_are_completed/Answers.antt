use Rattle.cwr_values.proofs.lemmas.Witnesses.{completed}
use Rattle.cwr_values.proofs.laws.records_are_completed.Goals as goal

pub returns : goal.returns
returns c =
    λ groups records rest h k e. let v = completed groups records rest h k e in (v.value, v.whole, v.outline, v.more, v.begins)

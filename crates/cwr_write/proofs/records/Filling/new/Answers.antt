use Rattle.std.proofs.Common.{refl}
use Rattle.cwr_write.proofs.lemmas.FilledDrafts.{filled_none}
use Rattle.cwr_write.proofs.records.Filling.new.Goals as goal

pub returns-clause-filled : goal.returns-clause-filled
returns-clause-filled c = λ enc. filled_none enc c.args.kind _ _ 256 c.blank.ensures refl

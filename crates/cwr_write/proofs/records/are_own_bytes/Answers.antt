use Rattle.cwr_write.proofs.lemmas.CharactersRead.{stand_ascii}
use Rattle.cwr_write.proofs.records.are_own_bytes.Goals as goal

pub returns-then-is_ascii-clause-yes : goal.returns-then-is_ascii-clause-yes
returns-then-is_ascii-clause-yes c = λ yes. stand_ascii c.args.encoding c.args.text.now c.if-is_ascii.ensures.cases

use Rattle.cwr_values.proofs.lemmas.Spelling.{canonical_spells}
use Rattle.cwr_values.proofs.laws.canonical_text_spells.Goals as goal

pub returns : goal.returns
returns c = canonical_spells

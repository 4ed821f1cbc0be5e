use Rattle.cwr_tools.proofs.lemmas.NotedTexts.{explained_noted}
use Rattle.cwr_tools.proofs.laws.explained_text_is_noted.Goals as goal

pub returns : goal.returns
returns c = explained_noted

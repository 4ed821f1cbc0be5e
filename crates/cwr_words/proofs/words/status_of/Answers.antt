use Rattle.cwr_words.proofs.lemmas.Statuses.{coded}
use Rattle.cwr_words.proofs.words.status_of.Goals as goal

pub returns : goal.returns
returns c = coded c.read.result c.as_bytes.result.now c.args.code.now c.as_bytes.ensures.value c.read.ensures.some c.read.ensures.value

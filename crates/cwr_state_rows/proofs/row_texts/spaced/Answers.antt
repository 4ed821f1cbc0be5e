use Rattle.cwr_state_rows.proofs.lemmas.Senders.{eleven}
use Rattle.cwr_state_rows.proofs.row_texts.spaced.Goals as goal

pub returns : goal.returns
returns c = eleven c.args.sender.now c.told-sender

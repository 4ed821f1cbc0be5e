use Rattle.std.proofs.Output.{has_written_of_eq}
use Rattle.cwr_fields.proofs.lemmas.Senders.{sender_shown}
use Rattle.cwr_fields.proofs.sender_types.SenderTypeDisplay.fmt.Goals as goal

pub returns-in-Digits-clause-writes : goal.returns-in-Digits-clause-writes
returns-in-Digits-clause-writes g c = λ plain ok.
    has_written_of_eq _ _ _ _ _
    (sender_shown c.args.self.now c.in-Digits.digits _ _ c.value.ensures c.value-in-Digits.ensures c.in-Digits.is)
    (c.write.ensures.writes plain ok)

use Rattle.std.specs.Prelude.{codes}
use Rattle.cwr_fields.specs.Format.Kinds.{letters}
use Rattle.cwr_devices.proofs.lemmas.Adding.{adds_as, adds_both}
use Rattle.cwr_write.specs.Format.OutcomeTexts.{keys_text}
use Rattle.cwr_write.proofs.lemmas.TextsTogether.{three_together}
use Rattle.cwr_write.proofs.hints.keys_text.Goals as goal

pub returns : goal.returns
unfolding keys_text
returns g c =
    adds_both (adds_both (adds_as (three_together (codes "  keys of ") (letters c.args.kind) (codes ": record_type"))
    (adds_both (adds_both c.text.ensures (adds_as c.letters.ensures c.text-2.ensures)) c.text-3.ensures))
    c.carried_keys.ensures) c.text-4.ensures

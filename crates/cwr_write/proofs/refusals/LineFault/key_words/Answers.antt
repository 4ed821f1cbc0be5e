use Rattle.std.proofs.Common.{sym, ap}
use Rattle.cwr_devices.proofs.lemmas.Adding.{adds_as, adds_both}
use Rattle.cwr_write.specs.declared.refusals.Key.{Key}
use Rattle.cwr_write.specs.Format.OutcomeTexts.{key_words, quoted_key}
use Rattle.cwr_write.proofs.refusals.LineFault.key_words.Goals as goal

pub returns-in-Field : goal.returns-in-Field
returns-in-Field g c =
    adds_as (ap (λ (key : Key). key_words c.args.self.now.kind c.args.self.now.«record» key) (sym c.in-Field.is))
    (adds_both c.text.ensures c.key_in.ensures)

pub returns-in-Text : goal.returns-in-Text
returns-in-Text g c =
    adds_as (ap (λ (key : Key). key_words c.args.self.now.kind c.args.self.now.«record» key) (sym c.in-Text.is))
    (adds_both c.colon_if.ensures (adds_as (ap quoted_key c.as_slice.ensures.value) c.quoted_key.ensures))

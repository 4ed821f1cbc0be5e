use Rattle.std.proofs.Common.{sym, ap, ◌∙◌}
use Rattle.std.specs.Prelude.{codes, Option}
use Rattle.cwr_fields.specs.declared.kinds.Kind.{Kind}
use Rattle.cwr_fields.specs.Format.Kinds.{letters}
use Rattle.cwr_devices.proofs.lemmas.Adding.{adds_as, adds_both}
use Rattle.cwr_write.specs.Format.OutcomeTexts.{kind_words}
use Rattle.cwr_write.proofs.lemmas.TextsTogether.{two_together}
use Rattle.cwr_write.proofs.refusals.kind_words.Goals as goal

pub returns-in-Some : goal.returns-in-Some
returns-in-Some g c =
    adds_as (two_together (codes " ") (letters c.in-Some.kind) ∙ ap (λ (kind : Option Kind). kind_words kind) (sym c.in-Some.is))
    (adds_both c.text.ensures (adds_as c.letters.ensures c.text-in-Some.ensures))

use Rattle.std.proofs.Common.{Bool, cond, [], ◌∷◌, sym, ap, ◌∙◌, lt-ltb, le-ltb}
use Rattle.std.specs.Prelude.{codes, decimal}
use Rattle.std.specs.List.{concat}
use Rattle.cwr_devices.proofs.lemmas.Adding.{adds_as, adds_both, adds_nothing}
use Rattle.cwr_write.proofs.lemmas.TextsTogether.{two_together}
use Rattle.cwr_write.proofs.refusals.record_words.Goals as goal

pub returns-then-number-gt0 : goal.returns-then-number-gt0
returns-then-number-gt0 g c =
    adds_as (two_together (codes " record ") (decimal c.args.number)
    ∙ sym (ap (λ (b : Bool). cond b (concat (codes " record " ∷ decimal c.args.number ∷ [])) [])
    (lt-ltb 0 c.args.number c.if-number-gt0.true)))
    (adds_both c.text.ensures c.number.ensures)

pub returns-else-number-gt0 : goal.returns-else-number-gt0
returns-else-number-gt0 g c =
    adds_as (sym (ap (λ (b : Bool). cond b (concat (codes " record " ∷ decimal c.args.number ∷ [])) [])
    (le-ltb 0 c.args.number c.if-number-gt0.false)))
    adds_nothing

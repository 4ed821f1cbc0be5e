use Rattle.std.proofs.Common.{◌∙◌}
use Rattle.cwr_decode.proofs.lemmas.HeldOpen.{inside_unless}
use Rattle.cwr_decode.proofs.machine.holding.add_accepted.Goals as goal

pub add-requires : goal.add-requires
add-requires c =
    let now = c.kind.ensures.value in
    c.requires (inside_unless c.args.accepted.kind (λ e. c.in_default.not-Hdr (now ∙ e)) (λ e. c.in_default.not-Grh (now ∙ e))
    (λ e. c.in_default.not-Grt (now ∙ e)) (λ e. c.in_default.not-Trl (now ∙ e)))

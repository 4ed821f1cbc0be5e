use Rattle.std.proofs.Common.{sym, ap, ◌∙◌}
use Rattle.cwr_shape.specs.Steps.Counting.{number_inside}
use Rattle.cwr_shape.proofs.lemmas.InnerNumbers.{inside_number}
use Rattle.cwr_shape.proofs.tallies.Counts.number.Goals as goal

pub returns-in_default : goal.returns-in_default
returns-in_default c =
    c.inside.ensures ∙ ap (λ b. number_inside b c.args.self.now c.args.j) c.is_header.ensures
    ∙ sym (inside_number c.args.ty c.args.self.now c.args.kind c.args.j
    (c.in_default.not-Hdr-0, c.in_default.not-Grh-0, c.in_default.not-Grt-0, c.in_default.not-Trl-0))

use Rattle.cwr_causes.specs.Format.Wanted.{control_line}
use Rattle.cwr_causes.proofs.lemmas.SaidInParts.{on_ok, three_said}
use Rattle.cwr_causes.proofs.wanted.add_control_line.Goals as goal

pub returns : goal.returns
unfolding control_line
returns c =
    on_ok c.add_hex_mark.result
    (λ h. three_said _ _ _ _ _ _ _ c.in_ok-add_control_place.ensures c.in_ok-add_hex.ensures h)
    c.add_hex_mark.ensures

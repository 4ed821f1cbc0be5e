use Rattle.std.proofs.Common.{sym, subst, ◌∙◌}
use Rattle.cwr_shape.specs.Steps.Left.{StandsAt}
use Rattle.cwr_encode.proofs.lemmas.OpenTypes.{ready_head, ready_later, unready_later, none_open}
use Rattle.cwr_encode.proofs.encoders.Encoder.open_type.Goals as goal

pub returns-in-InGroup : goal.returns-in-InGroup
returns-in-InGroup g c =
    λ xs st. ready_head c.args.self.now.tally c.stage-stage.result c.in-Within.ty xs st c.stage-stage.ensures.value
    (rw c.in-InGroup.is at c.in-Within.is)

pub returns-then-group_may_end : goal.returns-then-group_may_end
returns-then-group_may_end g c =
    λ xs st. ready_later c.args.self.now.tally c.stage-stage.result c.in-Within.ty c.in-Within.step xs c.group_may_end.result st
    c.stage-stage.ensures.value c.in-Within.is
    (c.group_may_end.ensures xs (subst (StandsAt xs) (sym c.stage-stage.ensures.value ∙ c.in-Within.is) st.stands))
    c.if-group_may_end.true

pub returns-else-group_may_end : goal.returns-else-group_may_end
returns-else-group_may_end g c =
    λ xs st. unready_later c.args.self.now.tally c.stage-stage.result c.in-Within.ty c.in-Within.step xs c.group_may_end.result st
    c.stage-stage.ensures.value c.in-Within.is c.in_default-step.not-InGroup
    (c.group_may_end.ensures xs (subst (StandsAt xs) (sym c.stage-stage.ensures.value ∙ c.in-Within.is) st.stands))
    c.if-group_may_end.false

pub returns-in_default : goal.returns-in_default
returns-in_default g c =
    λ xs st between. none_open c.args.self.now.tally c.stage-stage.result xs st c.stage-stage.ensures.value
    c.in_default.not-Within

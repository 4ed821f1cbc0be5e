use Rattle.std.proofs.Common.{refl}
use Rattle.cwr_fields.proofs.lemmas.FieldStarts.{field_at-start}
use Rattle.cwr_shape.proofs.levels.level_of_field.Goals as goal

pub returns-in-Some : goal.returns-in-Some
returns-in-Some c =
    rw (← field_at-start c.args.kind c.args.j, ← c.in-Some.ensures, ← c.is_required.ensures, c.if-is_required.true) refl

pub returns-in_default : goal.returns-in_default
returns-in_default c =
    rw (← field_at-start c.args.kind c.args.j, ← c.in-Some.ensures, ← c.is_required.ensures, c.if-is_required.false) refl

pub returns-in_default-2 : goal.returns-in_default-2
returns-in_default-2 c = rw (← field_at-start c.args.kind c.args.j, ← c.field.ensures, c.in_default.is) refl

use Rattle.std.proofs.Common.{◌≡◌, ℕ, ◌+◌, ◌≤◌, ◌<◌, length, None, sym, ap, ◌∙◌, arith}
use Rattle.std.specs.Prelude.{option_map}
use Rattle.cwr_fields.specs.Format.Layouts.{field_with_start, layout}
use Rattle.cwr_fields.specs.Steps.Views.{field_view}
use Rattle.cwr_notes.proofs.lemmas.FieldNames.{no_name, none_missing, other_name, own_name}
use Rattle.cwr_notes.proofs.note_lines.number_of_field.Goals as goal

pub returns-in_default : goal.returns-in_default
returns-in_default c =
    let place : None ≡ field_with_start c.args.kind (c.loop-before.before + 1) =
    sym (ap (option_map field_view) c.in_default.is) ∙ c.field.ensures in
    let within : c.loop-before.before < length (layout c.args.kind) =
    omega (arith, c.loop-before-test.true, c.fields-count.ensures) in
    absurd (none_missing c.args.kind c.loop-before.before place within)

pub returns-then-has_name : goal.returns-then-has_name
returns-then-has_name c =
    own_name c.args.name.now c.args.kind c.loop-before.before (field_view c.in-Some.place)
    (sym (ap (option_map field_view) c.in-Some.is) ∙ c.field.ensures) (sym c.has_name.ensures ∙ c.if-has_name.true)
    c.loop-before.invariant

pub loop-before-preserved : goal.loop-before-preserved
loop-before-preserved c =
    other_name c.args.name.now c.args.kind c.loop-before.before (field_view c.in-Some.place)
    (sym (ap (option_map field_view) c.in-Some.is) ∙ c.field.ensures) (sym c.has_name.ensures ∙ c.if-has_name.false)
    c.loop-before.invariant

pub returns : goal.returns
returns c =
    let all : length (layout c.args.kind) ≤ c.loop-before.before =
    omega (arith, c.loop-before-test.false, c.fields-count.ensures) in
    ap (λ (n : ℕ). n + 1) c.fields-count.ensures
    ∙ no_name c.args.name.now c.args.kind c.loop-before.before all c.loop-before.invariant

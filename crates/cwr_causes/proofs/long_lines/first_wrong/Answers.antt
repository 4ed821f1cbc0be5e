use Rattle.std.proofs.Common.{ℕ, refl, sym, ap, ◌∙◌, add-one}
use Rattle.std.specs.Prelude.{Option, option_map}
use Rattle.cwr_fields.specs.Steps.Views.{field_view}
use Rattle.cwr_fields.specs.Format.Layouts.{FieldLayout, field_with_start}
use Rattle.cwr_causes.specs.Format.LongLines.{wrong_in, wrong_with}
use Rattle.cwr_causes.proofs.long_lines.first_wrong.Goals as goal

pub loop-before-init : goal.loop-before-init
unfolding wrong_in
loop-before-init c = refl

pub loop-before-preserved : goal.loop-before-preserved
unfolding wrong_in
loop-before-preserved c =
    let n = c.loop-before.before in
    c.wrong_with-first.ensures
    ∙ ap (λ (o : Option (ℕ × FieldLayout)). wrong_with c.args.line.now c.args.refused o (option_map field_view c.field.result)) c.loop-before.invariant
    ∙ ap (λ (o : Option (ℕ × FieldLayout)). wrong_with c.args.line.now c.args.refused (wrong_in c.args.kind c.args.line.now c.args.refused n) o) c.field.ensures
    ∙ ap (λ (k : ℕ). wrong_with c.args.line.now c.args.refused (wrong_in c.args.kind c.args.line.now c.args.refused n) (field_with_start c.args.kind k)) (add-one n)
    ∙ ap (λ (k : ℕ). wrong_in c.args.kind c.args.line.now c.args.refused k) (sym (add-one n))

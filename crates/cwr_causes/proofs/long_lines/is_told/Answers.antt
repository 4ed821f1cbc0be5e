use Rattle.std.proofs.Common.{ℕ, Bool, refl, sym, ap, ◌∙◌, add-one}
use Rattle.std.specs.Prelude.{Option, option_map}
use Rattle.cwr_fields.specs.Steps.Views.{field_view}
use Rattle.cwr_fields.specs.Format.Layouts.{FieldLayout, field_with_start}
use Rattle.cwr_causes.specs.Format.LongLines.{told_in, told_with}
use Rattle.cwr_causes.proofs.long_lines.is_told.Goals as goal

pub loop-before-init : goal.loop-before-init
unfolding told_in
loop-before-init c = refl

pub loop-before-preserved : goal.loop-before-preserved
unfolding told_in
loop-before-preserved c =
    let n = c.loop-before.before in
    c.told_with-told.ensures
    ∙ ap (λ (b : Bool). told_with c.args.text.now c.args.start b (option_map field_view c.field.result)) c.loop-before.invariant
    ∙ ap (λ (o : Option (ℕ × FieldLayout)). told_with c.args.text.now c.args.start (told_in c.args.kind c.args.text.now c.args.start n) o)
    c.field.ensures
    ∙ ap
    (λ (k : ℕ).
    told_with c.args.text.now c.args.start (told_in c.args.kind c.args.text.now c.args.start n) (field_with_start c.args.kind k))
    (add-one n)
    ∙ ap (λ (k : ℕ). told_in c.args.kind c.args.text.now c.args.start k) (sym (add-one n))

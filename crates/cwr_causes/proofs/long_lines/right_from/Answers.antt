use Rattle.std.proofs.Common.{ℕ, refl, sym, ap, ◌∙◌, add-one}
use Rattle.std.specs.Prelude.{Option, option_map}
use Rattle.cwr_fields.specs.Steps.Views.{field_view}
use Rattle.cwr_fields.specs.Format.Layouts.{FieldLayout, field_with_start}
use Rattle.cwr_causes.specs.Format.LongLines.{run_start, run_with}
use Rattle.cwr_causes.proofs.long_lines.right_from.Goals as goal

pub loop-before-init : goal.loop-before-init
unfolding run_start
loop-before-init c = refl

pub loop-before-preserved : goal.loop-before-preserved
unfolding run_start
loop-before-preserved c =
    let n = c.loop-before.before in
    c.run_with-first.ensures
    ∙ ap (λ (o : Option (ℕ × FieldLayout)). run_with c.args.text.now o (option_map field_view c.field.result)) c.loop-before.invariant
    ∙ ap (λ (o : Option (ℕ × FieldLayout)). run_with c.args.text.now (run_start c.args.kind c.args.text.now n) o) c.field.ensures
    ∙ ap (λ (k : ℕ). run_with c.args.text.now (run_start c.args.kind c.args.text.now n) (field_with_start c.args.kind k)) (add-one n)
    ∙ ap (λ (k : ℕ). run_start c.args.kind c.args.text.now k) (sym (add-one n))

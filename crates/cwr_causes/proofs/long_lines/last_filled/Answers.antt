use Rattle.std.proofs.Common.{ℕ, refl, sym, ap, ◌∙◌, add-one}
use Rattle.std.specs.Prelude.{Option, option_map}
use Rattle.cwr_fields.specs.Steps.Views.{field_view}
use Rattle.cwr_fields.specs.Format.Layouts.{FieldLayout, field_with_start}
use Rattle.cwr_causes.specs.Format.LongLines.{filled_in, filled_with}
use Rattle.cwr_causes.proofs.long_lines.last_filled.Goals as goal

pub loop-before-init : goal.loop-before-init
unfolding filled_in
loop-before-init c = refl

pub loop-before-preserved : goal.loop-before-preserved
unfolding filled_in
loop-before-preserved c =
    let n = c.loop-before.before in
    c.filled_with-last.ensures
    ∙ ap (λ (o : Option (ℕ × FieldLayout)). filled_with c.args.line.now c.args.end o (option_map field_view c.field.result)) c.loop-before.invariant
    ∙ ap (λ (o : Option (ℕ × FieldLayout)). filled_with c.args.line.now c.args.end (filled_in c.args.kind c.args.line.now c.args.end n) o) c.field.ensures
    ∙ ap (λ (k : ℕ). filled_with c.args.line.now c.args.end (filled_in c.args.kind c.args.line.now c.args.end n) (field_with_start c.args.kind k)) (add-one n)
    ∙ ap (λ (k : ℕ). filled_in c.args.kind c.args.line.now c.args.end k) (sym (add-one n))

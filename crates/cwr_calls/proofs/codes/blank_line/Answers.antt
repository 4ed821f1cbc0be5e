use Rattle.std.proofs.Common.{ℕ, List, ◌+◌, ◌-◌, ◌++◌, refl, sym, ap, ap₂, ◌∙◌, arith, option_map}
use Rattle.cwr_fields.specs.Steps.Views.{field_view}
use Rattle.cwr_calls.proofs.lemmas.BlankTexts.{blank_begins, blank_more, blank_whole, field_there, room_for}
use Rattle.cwr_calls.proofs.codes.blank_line.Goals as goal

pub loop-i-init : goal.loop-i-init
loop-i-init c =
    blank_begins c.args.kind c.push_bytes.new.line.items 0 refl
    (c.push_bytes.ensures ∙ ap₂ (λ (x y : List ℕ). x ++ y) c.new-line.ensures c.letters.ensures)

pub returns : goal.returns
returns c =
    blank_whole c.args.kind c.loop-i.line.items (c.loop-i.i - 1)
    (omega (arith, c.loop-i-test.false, c.fields-i-end.ensures, c.loop-i.auto.i)) c.loop-i.invariant

pub push_blank-requires : goal.push_blank-requires
push_blank-requires c =
    room_for c.args.kind (c.loop-i.i - 1) (c.loop-i.i + 1) (c.loop-i.i + 1 - 1) (field_view c.in-Some.place) c.loop-i.line.items
    (omega (arith, c.loop-i.auto.i)) (omega (arith, c.loop-i.auto.i))
    (sym c.field.ensures ∙ ap (option_map field_view) c.in-Some.is) c.loop-i.invariant

pub loop-i-preserved : goal.loop-i-preserved
loop-i-preserved c =
    blank_more c.args.kind (c.loop-i.i - 1) (c.loop-i.i + 1) (c.loop-i.i + 1 - 1) (field_view c.in-Some.place) c.loop-i.line.items
    c.push_blank.new.line.items (omega (arith, c.loop-i.auto.i)) (omega (arith, c.loop-i.auto.i))
    (sym c.field.ensures ∙ ap (option_map field_view) c.in-Some.is) c.loop-i.invariant c.push_blank.ensures

pub unreachable-requires : goal.unreachable-requires
unreachable-requires c =
    field_there c.args.kind (c.loop-i.i + 1) (omega arith) (omega (arith, c.loop-i-test.true, c.fields-i-end.ensures))
    (sym (ap (option_map field_view) c.in-None.is) ∙ c.field.ensures)

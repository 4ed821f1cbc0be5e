use Rattle.std.proofs.Common.{◌≡◌, ℕ, suc, ◌+◌, ◌++◌, ◌∷◌, [], List, take, sym, ap, subst, ◌∙◌, arith}
use Rattle.cwr_lines.specs.Format.Records.{RecordValue}
use Rattle.cwr_shape.specs.Format.Shapes.{BeginsShape}
use Rattle.cwr_values.specs.Format.Values.{symbol_of}
use Rattle.cwr_select.specs.Format.Sent.{transaction_as}
use Rattle.cwr_select.proofs.lemmas.SentWorks.{all_sent, begins_header, begins_next, first_sent, next_sent, within}
use Rattle.cwr_select.proofs.sent.work_as.Goals as goal

pub begun-requires : goal.begun-requires
begun-requires c =
    subst (λ (r : RecordValue). BeginsShape (symbol_of r ∷ [])) (sym (c.view.ensures.value ∙ c.header_as-header.ensures))
    (begins_header c.args.works c.args.transaction.now c.args.head.now c.requires.head c.requires.work c.len-count.ensures.begun.begins)

pub loop-i-init : goal.loop-i-init
loop-i-init c = record {
  some = omega arith;
  begun =
      c.in_ok-sent.ensures.ok ∙ ap (λ (r : RecordValue). r ∷ []) (c.view.ensures.value ∙ c.header_as-header.ensures)
      ∙ sym (first_sent c.args.works c.args.transaction.now c.args.head.now c.requires.head);
}

pub unreachable-requires : goal.unreachable-requires
unreachable-requires c =
    within c.args.transaction.now c.loop-i.i (omega (arith, c.loop-i-test.true, c.len-count.ensures.len))
    (sym c.record.ensures.value ∙ c.in_default.is)

pub add-requires : goal.add-requires
add-requires c =
    begins_next c.args.works c.args.transaction.now c.args.head.now c.loop-i.i c.in-Some.record c.loop-i.sent c.requires.head
    c.requires.work c.record.ensures.begun.begins c.loop-i.invariant.some (sym c.record.ensures.value ∙ c.in-Some.is)
    c.loop-i.invariant.begun

pub loop-i-preserved : goal.loop-i-preserved
loop-i-preserved c =
    let one : suc c.loop-i.i ≡ c.loop-i.i + 1 = omega arith in
    record {
      some = omega arith;
      begun =
          c.in_ok-add.ensures.ok ∙ ap (λ (l : List RecordValue). l ++ c.in-Some.record ∷ []) c.loop-i.invariant.begun
          ∙ next_sent c.args.works c.args.transaction.now c.loop-i.i c.in-Some.record c.loop-i.invariant.some
          (sym c.record.ensures.value ∙ c.in-Some.is)
          ∙ ap (λ (n : ℕ). take n (transaction_as c.args.works c.args.transaction.now)) one;
    }

pub returns-clause-ok : goal.returns-clause-ok
returns-clause-ok c =
    c.loop-i.invariant.begun
    ∙ all_sent c.args.works c.args.transaction.now c.loop-i.i (omega (arith, c.loop-i-test.false, c.len-count.ensures.len))

use Rattle.std.proofs.Common.{◌+◌, List, [], ◌∷◌, sym, subst, ap, take, ◌∙◌}
use Rattle.json.specs.Value.{items_view, value_view}
use Rattle.cwr_fields.specs.declared.kinds.Kind.{Kind}
use Rattle.cwr_lines.specs.Format.Records.{RecordValue}
use Rattle.cwr_json.specs.Format.Forms.{AreRecordsData, IsRecordData}
use Rattle.std.specs.Prelude.{Err, Some}
use Rattle.std.proofs.Common.{arith, length}
use Rattle.std.proofs.lemmas.List.{length-append}
use Rattle.cwr_shape.specs.Format.Shapes.{BeginsShape}
use Rattle.cwr_values.specs.declared.transactions.PushFault.{PushFault}
use Rattle.cwr_values.specs.Format.Values.{symbol_of}
use Rattle.cwr_write.proofs.lemmas.ItemsRead.{data_all, data_first, data_more}
use Rattle.cwr_write.proofs.lemmas.NoItemData.{first_record, none_at, none_begins, none_continues}
use Rattle.cwr_write.proofs.lemmas.ItemReasons.{begun_goes_on, none_data, on_line, own_among, placed_among}
use Rattle.cwr_write.specs.declared.refusals.Why.TheVariants as whys
use Rattle.cwr_write.proofs.items.transaction_of.Goals as goal

pub loop-i-init : goal.loop-i-init
loop-i-init c = (
  subst (λ (t : List RecordValue). AreRecordsData c.args.encoding (items_view (take 1 c.args.values.now)) t)
      (sym (c.in-Ok.ensures.ok ∙ ap (λ (r : RecordValue). r ∷ []) c.view.ensures.value))
      (data_first c.args.encoding c.args.values.now c.args.first.now c.requires.first),
  ap length c.in-Ok.ensures.ok,
)

pub loop-i-preserved : goal.loop-i-preserved
loop-i-preserved c = (
  subst (λ (t : List RecordValue). AreRecordsData c.args.encoding (items_view (take (c.loop-i.i + 1) c.args.values.now)) t)
      (sym c.in_default.ensures.ok)
      (data_more c.args.encoding c.args.values.now c.loop-i.i c.index-values-i.result c.loop-i.transaction c.view-in-loop-i.result
      c.loop-i-test.true c.index-values-i.is c.loop-i.invariant.0
      (subst (IsRecordData c.args.encoding (value_view c.index-values-i.result)) (sym c.view-in-loop-i.ensures.value)
      c.in-Ok-record_of.ensures.ok)),
  omega (
    arith,
    ap length c.in_default.ensures.ok,
    length-append c.loop-i.transaction (c.view-in-loop-i.result ∷ []),
    c.loop-i.invariant.1,
  ),
)

pub returns-in-Err-clause-none : goal.returns-in-Err-clause-none
returns-in-Err-clause-none c = λ line.
    none_begins c.args.encoding c.args.values.now c.args.first.now c.requires.first c.requires.inside
    (subst (λ (r : RecordValue). ¬ BeginsShape (symbol_of r ∷ [])) c.view.ensures.value
    (c.in-Err.ensures.misplaced.0 (ap (λ (f : PushFault). Err f) (c.push_fault.ensures.misplaced line))))

pub returns-in-Err-record_of-clause-none : goal.returns-in-Err-record_of-clause-none
returns-in-Err-record_of-clause-none c =
    λ line. none_at c.args.encoding c.args.values.now c.loop-i.i c.index-values-i.result c.loop-i-test.true c.index-values-i.is
    c.in-Err-record_of.ensures.err

pub returns-in-Err-push-clause-none : goal.returns-in-Err-push-clause-none
returns-in-Err-push-clause-none c = λ line.
    none_continues c.args.encoding c.args.values.now c.args.first.now c.loop-i.transaction c.view-in-loop-i.result c.loop-i.i
    c.index-values-i.result c.requires.first c.requires.inside c.loop-i-test.true c.index-values-i.is c.loop-i.invariant.0
    (subst (IsRecordData c.args.encoding (value_view c.index-values-i.result)) (sym c.view-in-loop-i.ensures.value)
    c.in-Ok-record_of.ensures.ok)
    (c.in-Err-push.ensures.misplaced.0 (ap (λ (f : PushFault). Err f) (c.push_fault-in-Err-push.ensures.misplaced line)))

pub returns-clause-kinded : goal.returns-clause-kinded
returns-clause-kinded c =
    let whole =
    data_all c.args.encoding c.args.values.now c.loop-i.i c.loop-i.transaction (omega (arith, c.loop-i-test.false))
    c.loop-i.invariant.0 in
    let p = first_record c.args.encoding c.args.values.now c.args.first.now c.loop-i.transaction c.requires.first whole in
    (c.args.first.now, p.0, p.1, c.requires.inside)

pub returns-in-Err-clause-reason : goal.returns-in-Err-clause-reason
returns-in-Err-clause-reason c = on_line c.push_fault.result _ _
    (λ line f p. placed_among c.args.encoding c.args.values.now 0 c.requires.first.found f [] whys.Misplaced
    c.requires.first.within c.requires.first.is p.0 (none_data c.args.encoding c.args.values.now) tt p.1 (
      c.args.first.now,
      c.requires.first.is_data,
      p.2 ∙ ap (λ (k : Kind). Some k)
          (c.kind.ensures.value ∙ ap (λ (r : RecordValue). r.kind) c.view-in-Err.ensures.value),
      p.3,
      subst
          (λ (r : RecordValue). ¬ BeginsShape (symbol_of r ∷ [])) c.view.ensures.value
          (c.in-Err.ensures.misplaced.0 (ap (λ (f : PushFault). Err f) (c.push_fault.ensures.misplaced line))),
    ))
    c.push_fault.ensures.told

pub returns-in-Err-record_of-clause-reason : goal.returns-in-Err-record_of-clause-reason
returns-in-Err-record_of-clause-reason c =
    own_among c.args.encoding c.args.values.now c.loop-i.i c.index-values-i.result c.in-Err-record_of.fault c.loop-i.transaction
    c.loop-i-test.true c.index-values-i.is
    (c.in-Err-record_of.ensures.reason.0 ∙ omega (arith, c.number_after-number.ensures, c.len.ensures.len, c.loop-i.invariant.1))
    c.loop-i.invariant.0 (begun_goes_on c.loop-i.transaction c.len.ensures.begun) c.in-Err-record_of.ensures.reason.1

pub returns-in-Err-push-clause-reason : goal.returns-in-Err-push-clause-reason
returns-in-Err-push-clause-reason c = on_line c.push_fault-in-Err-push.result _ _
    (λ line f p. placed_among c.args.encoding c.args.values.now c.loop-i.i c.index-values-i.result f c.loop-i.transaction
    whys.Misplaced c.loop-i-test.true c.index-values-i.is
    (p.0 ∙ omega (arith, c.number_after-number.ensures, c.len.ensures.len, c.loop-i.invariant.1)) c.loop-i.invariant.0
    (begun_goes_on c.loop-i.transaction c.len.ensures.begun) p.1 (
      c.view-in-loop-i.result,
      subst (IsRecordData c.args.encoding (value_view c.index-values-i.result)) (sym c.view-in-loop-i.ensures.value)
          c.in-Ok-record_of.ensures.ok,
      p.2 ∙ ap (λ (k : Kind). Some k) (c.kind-in-Err-push.ensures.value
          ∙ ap (λ (r : RecordValue). r.kind) (c.view-in-Err-push.ensures.value ∙ sym c.view-in-loop-i.ensures.value)),
      p.3,
      c.in-Err-push.ensures.misplaced.0 (ap (λ (f : PushFault). Err f) (c.push_fault-in-Err-push.ensures.misplaced line)),
    ))
    c.push_fault-in-Err-push.ensures.told

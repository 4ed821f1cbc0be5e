use Rattle.std.proofs.Common.{◌≡◌, [], ◌∷◌, sym, subst, arith, ◌∙◌}
use Rattle.json.specs.Value.{items_view}
use Rattle.cwr_lines.specs.Format.Records.{RecordValue}
use Rattle.cwr_values.specs.declared.items.Item.{Item}
use Rattle.cwr_judge.specs.Format.Items.{item_records}
use Rattle.cwr_json.specs.Format.Forms.{AreRecordsData}
use Rattle.cwr_write.proofs.lemmas.ItemsRead.{alone_trailer, data_all, data_first, data_of_trailer}
use Rattle.cwr_write.specs.Format.AloneKinds.{IsAlone}
use Rattle.cwr_write.proofs.lemmas.NoItemData.{none_alone}
use Rattle.cwr_write.proofs.items.item_alone.Goals as goal
use Rattle.cwr_write.proofs.items.item_alone.Goals.{in-Hdr, in-Grh, in-Grt, in_default}

pub returns-clause-ok : goal.returns-clause-ok
returns-clause-ok c =
    let whole =
    data_all c.args.encoding c.args.values.now 1 (c.args.first ∷ []) (omega (arith, c.if-values-gt1.false))
    (data_first c.args.encoding c.args.values.now c.args.first c.requires.data) in
    let as_record : (r : RecordValue) → r ≡ c.args.first
    → AreRecordsData c.args.encoding (items_view c.args.values.now) (r ∷ [])
    = λ r same. subst (λ (x : RecordValue). AreRecordsData c.args.encoding (items_view c.args.values.now) (x ∷ [])) (sym same) whole in
    elim c.match-kind.branch [
      | in-Hdr w ↦ subst (λ (i : Item). AreRecordsData c.args.encoding (items_view c.args.values.now) (item_records i))
          (sym w.result-is) (as_record w.to_control.result (w.to_control.ensures.value ∙ w.view.ensures.value))
      | in-Grh w ↦ subst (λ (i : Item). AreRecordsData c.args.encoding (items_view c.args.values.now) (item_records i))
          (sym w.result-is) (as_record w.to_control-in-Grh.result (w.to_control-in-Grh.ensures.value ∙ w.view-in-Grh.ensures.value))
      | in-Grt w ↦ subst (λ (i : Item). AreRecordsData c.args.encoding (items_view c.args.values.now) (item_records i))
          (sym w.result-is) (as_record w.to_control-in-Grt.result (w.to_control-in-Grt.ensures.value ∙ w.view-in-Grt.ensures.value))
      | in_default w ↦ subst (λ (i : Item). AreRecordsData c.args.encoding (items_view c.args.values.now) (item_records i))
          (sym w.result-is)
          (data_of_trailer c.args.encoding c.args.values.now c.args.first c.requires.data (c.requires.kind.0
          ∙ alone_trailer c.args.kind c.requires.kind.1 w.in_default.not-Hdr w.in_default.not-Grh w.in_default.not-Grt) whole)
    ]

pub returns-then-values-gt1-clause-none : goal.returns-then-values-gt1-clause-none
returns-then-values-gt1-clause-none c =
    none_alone c.args.encoding c.args.values.now c.args.first c.requires.data
    (subst IsAlone (sym c.requires.kind.0) c.requires.kind.1) c.if-values-gt1.true

-- The items of accepted records are the first of those of some transmission within the limits.
use Rattle.std.proofs.Common.{◌<◌, ◌^◌, List, [], map, sym, ap, subst, ◌∙◌}
use Rattle.std.specs.List.{AllByRecursion}
use Rattle.cwr_lines.specs.Format.Records.{RecordValue, IsRecord}
use Rattle.cwr_shape.specs.Format.Ranges.{LimitValues}
use Rattle.cwr_shape.specs.Format.Outlines.{Continues, IsWithin}
use Rattle.cwr_values.specs.Format.Values.{symbol_of}
use Rattle.cwr_values.specs.Format.Begins.{rows_after, rows_so_far}
use Rattle.cwr_values.proofs.lemmas.RowAt.{rows_split}
use Rattle.cwr_values.proofs.lemmas.Witnesses.{completed}
use Rattle.cwr_judge.specs.Format.Items.{AreFirstItems, items, items_after}
use Rattle.cwr_judge.specs.Steps.Open.{items_so_far}
use Rattle.cwr_judge.proofs.lemmas.ItemsOfTransactions.{items-append}
use Rattle.cwr_judge.proofs.lemmas.ItemLaws.{items_of_parts}

pub begun_items : (limits : LimitValues) (records : List RecordValue) → limits.records < 10 ^ 8 → AllByRecursion IsRecord records
    → Continues (IsWithin limits) (map symbol_of records)
    → AreFirstItems limits (items_so_far records)
begun_items limits records few in_order g =
    let v = completed g.0 records g.3.0 g.1 in_order g.3.1 in
    let within : IsWithin limits _ = subst (IsWithin limits) (sym v.outline) g.2 in
    record {
      value = v.value;
      whole = v.whole;
      within = within;
      rest = items_after (rows_so_far records) (rows_after records v.more);
      split =
          sym (items_of_parts limits v.value v.whole within few) ∙ ap items (rows_split v.value records v.more v.whole v.begins)
          ∙ items-append [] (rows_so_far records) (rows_after records v.more);
    }

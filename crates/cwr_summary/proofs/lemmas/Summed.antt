-- A summary after one item more, and what it says at the end.
use Rattle.std.proofs.Common.{◌≡◌, ℕ, ◌+◌, if◌then◌else◌, Bool, true, List, [], ◌∷◌, ◌++◌, Option, length, replicate, refl, sym, ap, ◌∙◌, append-nil}
use Rattle.std.specs.Prelude.{◌==◌, OnErr, OnOk, Result, Ok, Err, slice_index}
use Rattle.std.specs.declared.alloc.AllocError.{AllocError}
use Rattle.std.proofs.lemmas.List.Concat.{flat_map-append}
use Rattle.std.proofs.lemmas.List.Sums.{sum_by-append}
use Rattle.cwr_devices.specs.declared.pens.Pen.{Pen}
use Rattle.cwr_devices.proofs.lemmas.Adding.{adds_nothing}
use Rattle.cwr_values.specs.declared.items.Item.{Item}
use Rattle.cwr_tools.specs.Format.Reports.{ItemLines}
use Rattle.cwr_tools.specs.Steps.Reports.{AddsLines}
use Rattle.cwr_summary.specs.declared.columns.Column.{Column}
use Rattle.cwr_summary.specs.Format.Columns.{place}
use Rattle.cwr_summary.specs.Format.Summaries.{IsSummaryOf, item_parts, Part, lines_of_nothing, parts_of, total}
use Rattle.cwr_summary.specs.Steps.Counted.{counted}
use Rattle.cwr_summary.proofs.lemmas.Counting.{counted_both}
use Rattle.cwr_summary.proofs.lemmas.Places.{place_below}
use Rattle.cwr_summary.proofs.lemmas.Totals.{number_is_total}

-- nothing is added, whether memory was refused or not
pub nothing_added : {W : Type 0} (contents : W → Option (List ℕ)) (failures : W → ℕ) (takes_memory : Bool)
    (result : Result (Unit {0}) AllocError) (pen : Pen W) → OnErr result (takes_memory ≡ true)
    → AddsLines contents failures takes_memory [] result pen pen
nothing_added contents failures takes_memory (Ok u) pen h = adds_nothing
nothing_added contents failures takes_memory (Err e) pen h = (h, refl)

-- with one item more
pub parts_more : (given : List Item) (item : Item) → parts_of (given ++ item ∷ []) ≡ parts_of given ++ item_parts item
parts_more given item =
    flat_map-append item_parts given (item ∷ []) ∙ ap (λ l. parts_of given ++ l) (append-nil (item_parts item))

pub summed_more : (of : ItemLines) (given : List Item) (item : Item) (old new : List ℕ) (result : Result (Unit {0}) AllocError)
    → of ≡ lines_of_nothing → old ≡ counted (replicate 80 0) (parts_of given) → OnOk result (new ≡ counted old (item_parts item))
    → OnOk result ((of ≡ lines_of_nothing) × (new ≡ counted (replicate 80 0) (parts_of (given ++ item ∷ []))))
summed_more of given item old new (Ok u) is before next =
    let zeros : List ℕ = replicate 80 0 in
    (is, counted_both zeros old new (parts_of given) (item_parts item) before next ∙ ap (counted zeros) (sym (parts_more given item)))
summed_more of given item old new (Err e) is before next = tt

-- the numbers of items are their summary
pub summed_up : (given : List Item) (numbers : List ℕ) → length numbers ≡ 80 → numbers ≡ counted (replicate 80 0) (parts_of given)
    → IsSummaryOf given numbers
summed_up given numbers long e = record {
  columns = long;
  each = λ column.
      ap (λ (l : List ℕ). slice_index l (place column)) e ∙ number_is_total column (parts_of given) (place_below column);
}

-- ---- the law

-- what items add to a column is what the first of them and what the others add to it
pub add_up : (column : Column) (front rest : List Item)
    → total column (parts_of (front ++ rest)) ≡ total column (parts_of front) + total column (parts_of rest)
add_up column front rest =
    ap (total column) (flat_map-append item_parts front rest)
    ∙ sum_by-append (λ (p : Part). if place p.0 == place column then p.1 else 0) (parts_of front) (parts_of rest)

-- Some transmission within the limits continues from a line's first cells exactly where these are good.
use Rattle.std.proofs.Common.{◌≡◌, ℕ, suc, List, [], ◌∷◌, ◌++◌, length, map, take, sym, ap, subst, ◌∙◌, arith, append_assoc}
use Rattle.std.specs.List.{AllZip, AllByRecursion}
use Rattle.std.proofs.lemmas.List.{map-append}
use Rattle.cwr_fields.specs.Format.Layouts.{layout}
use Rattle.cwr_lines.specs.Format.Records.{RecordValue, Row, IsRecord}
use Rattle.cwr_lines.specs.Format.Lines.{IsLineOf, line_cells}
use Rattle.cwr_lines.proofs.lemmas.RowLaws.{row_fits}
use Rattle.cwr_shape.specs.declared.symbols.Symbol.{Symbol}
use Rattle.cwr_shape.specs.Format.Ranges.{LimitValues}
use Rattle.cwr_shape.specs.Format.Outlines.{symbols_of}
use Rattle.cwr_values.specs.Format.Values.{symbol_of, outline_of}
use Rattle.cwr_values.specs.Format.Begins.{numbers_after, row_after, rows_so_far}
use Rattle.cwr_values.proofs.lemmas.OneSpelling.{symbols-outline, outline_whole}
use Rattle.cwr_judge.specs.Format.Places.{Viable}
use Rattle.cwr_judge.specs.Format.GoodFronts.{HasGoodFront, ContinuesFrom}
use Rattle.cwr_judge.proofs.lemmas.RecordsBefore.{records_before, one_list}
use Rattle.cwr_judge.proofs.lemmas.FrontCells.{front_of}
use Rattle.cwr_judge.proofs.lemmas.MixedCells.{wide_only, wide_length}
use Rattle.cwr_judge.proofs.lemmas.GoodFrontsContinue.{viable}

-- as many cells as fields
pub many_cells : (before : List RecordValue) (r : RecordValue) → IsRecord r
    → length (row_after before r).cells ≡ length (layout r.kind)
many_cells before r h =
    let row : List (List ℕ) = (row_after before r).cells in
    wide_length (layout r.kind) row (wide_only (layout r.kind) row (row_fits (numbers_after (map symbol_of before) r.kind) r h))

pub viable_continues : (limits : LimitValues) (before : List (List ℕ)) (line : List ℕ) (m : ℕ) → Viable limits before line (suc m)
    → ContinuesFrom limits before line m
viable_continues limits before line m v =
    let b = records_before v.value v.front v.next v.rest v.whole v.split in
    let xs : List Symbol = map symbol_of b.records in
    let cells : take (suc m) (row_after b.records b.at).cells ≡ take (suc m) (line_cells line) =
    ap (λ (r : Row). take (suc m) r.cells) b.next_is ∙ v.cells.0 in
    let f = front_of (numbers_after xs b.at.kind) b.at line m b.at_in_order cells in
    let many : length v.next.cells ≡ length (layout b.at.kind) =
    sym (ap (λ (r : Row). length r.cells) b.next_is) ∙ many_cells b.records b.at b.at_in_order in
    let begins : symbols_of (outline_of v.value) ≡ (xs ++ symbol_of b.at ∷ []) ++ map symbol_of b.more =
    symbols-outline v.value v.whole ∙ ap (map symbol_of) b.split ∙ map-append symbol_of b.records (b.at ∷ b.more)
    ∙ sym (append_assoc xs (symbol_of b.at ∷ []) (map symbol_of b.more)) in
    record {
      records = b.records;
      in_order = b.in_order;
      lines = subst (λ (rs : List Row). AllZip IsLineOf rs before) (sym b.front_are) v.lines;
      front = record {
        kind = b.at.kind;
        known = f.known;
        good = f.good;
        excess = λ h. v.cells.1 (omega (arith, h, many));
        symbol = symbol_of b.at;
        among = f.among;
        continues = (outline_of v.value, outline_whole v.value v.whole, v.within, (map symbol_of b.more, begins));
      };
    }

pub continuing_viable : (limits : LimitValues) (before : List (List ℕ)) (line : List ℕ) (m : ℕ)
    → ContinuesFrom limits before line m → Viable limits before line (suc m)
continuing_viable limits before line m g =
    viable limits g.records before line g.front.kind m g.front.symbol g.in_order g.lines g.front.known g.front.good g.front.excess
    g.front.among g.front.continues

-- after the lines of records that are known, the front is good after these
pub viable_front : (limits : LimitValues) (records : List RecordValue) (before : List (List ℕ)) (line : List ℕ) (m : ℕ)
    → AllByRecursion IsRecord records → AllZip IsLineOf (rows_so_far records) before
    → Viable limits before line (suc m) → HasGoodFront limits (map symbol_of records) line m
viable_front limits records before line m h z v =
    let g = viable_continues limits before line m v in
    subst (λ (rs : List RecordValue). HasGoodFront limits (map symbol_of rs) line m)
    (one_list g.records records before g.in_order h g.lines z) g.front

-- Where a cell is not one of its type, or not the number that belongs there, the reason is the first that holds there.
use Rattle.std.proofs.Common.{◌≡◌, ℕ, suc, ◌-◌, ◌≤◌, true, List, [], ◌∷◌, ◌++◌, length, map, take, refl, sym, ap, ap₂, subst, ◌∙◌}
use Rattle.std.proofs.Common.{arith, append_assoc, lit≤}
use Rattle.std.specs.Prelude.{Some, None, slice_get, slice_index_or, option_and_then}
use Rattle.std.specs.List.{IsAmong}
use Rattle.std.proofs.lemmas.Option.{get_or_from_slice_get}
use Rattle.std.proofs.lemmas.List.{length-map}
use Rattle.cwr_fields.specs.declared.cell_types.CellFault.{CellFault}
use Rattle.cwr_fields.specs.Format.Bytes.{digits}
use Rattle.cwr_fields.specs.Format.Cells.{Allows, HasFault}
use Rattle.cwr_fields.specs.declared.kinds.Kind.{Kind}
use Rattle.cwr_fields.specs.Format.Layouts.{FieldLayout, field_at}
use Rattle.cwr_lines.specs.Format.Records.{RecordValue}
use Rattle.cwr_lines.specs.Format.Lines.{line_kind}
use Rattle.cwr_lines.specs.Steps.Held.{HeldLine, held_cell, held_cells}
use Rattle.cwr_lines.proofs.lemmas.HeldLaws.{held_cell-at, length-held_cell}
use Rattle.cwr_shape.specs.declared.symbols.Symbol.{Symbol}
use Rattle.cwr_shape.specs.declared.reasons.Reason.TheVariants as reasons
use Rattle.cwr_shape.specs.declared.tallies.Bar.TheVariants as bars
use Rattle.cwr_shape.specs.Format.Ranges.{LimitValues}
use Rattle.cwr_shape.specs.Format.Outlines.{GroupOutline, IsWithin, symbols_of}
use Rattle.cwr_shape.specs.Format.Numbers.{IsNumberAt, symbol_kind, number_in, numbers_of, lengths_of}
use Rattle.cwr_shape.specs.Format.Candidates.{BeginsAmong}
use Rattle.cwr_shape.specs.Format.NextSymbols.{ContinuesWith}
use Rattle.cwr_values.specs.Format.Values.{symbol_of}
use Rattle.cwr_values.specs.Format.Begins.{rows_so_far}
use Rattle.cwr_values.proofs.lemmas.RowAt.{length-rows_so_far}
use Rattle.cwr_judge.specs.Format.Reasons.{Applies, IsReason, IsNumber, cell_of, field_of}
use Rattle.cwr_judge.specs.Steps.Judged.{MayComeOf, named_symbol}
use Rattle.cwr_judge.proofs.lemmas.FirstFaults.{candidate_kind}
use Rattle.cwr_judge.proofs.lemmas.FrontsBeforeFaults.{GoodBelow, symbol_below}
use Rattle.cwr_judge.proofs.lemmas.NoneAtFaults.{among_all}
use Rattle.cwr_judge.proofs.lemmas.BarsOfLines.{none_bars}
use Rattle.cwr_judge.proofs.lemmas.SymbolsOfLines.{among_with}
use Rattle.cwr_judge.proofs.lemmas.NamedSymbols.{names_no_more}
use Rattle.cwr_judge.proofs.lemmas.NamelessCells.{unfit_nameless, derived_nameless}
use Rattle.cwr_judge.proofs.lemmas.LineRecords.{as_many}
use Rattle.cwr_judge.proofs.lemmas.FirstReasonOfKind.{FollowsLines, names, kind_of_line, seen_are, bar_applies, Least, least_of}
use Rattle.cwr_judge.proofs.lemmas.FirstReasonOfKind.{known_kind}

-- ---- a cell

-- the cell in a field of the line
pub record Faces (h : HeldLine) (line : List ℕ) (kind : Kind) (m : ℕ) : Type 0 where
  pub field : FieldLayout
  pub cell : List ℕ
  pub at : field_at kind (suc (suc m)) ≡ Some field
  pub there : slice_get (held_cells h) (suc m) ≡ Some cell
  pub wide : length cell ≡ field.width
  pub field_is : field_of line (suc (suc m)) ≡ Some field
  pub cell_is : cell_of line (suc (suc m)) ≡ cell

unfoldable pub faces : (records : List RecordValue) (lines : List (List ℕ)) (h : HeldLine) (line : List ℕ) (kind : Kind) (m : ℕ)
    (f : FieldLayout) (c : List ℕ) → FollowsLines records lines h line kind
    → field_at kind (suc (suc m)) ≡ Some f → held_cell h (suc (suc m)) ≡ Some c → Faces h line kind m
faces records lines h line kind m f c follows at found =
    let there : slice_get (held_cells h) (suc m) ≡ Some c = sym (held_cell-at h kind (suc m) follows.known) ∙ found in
    let index : suc (suc m) - 1 ≡ suc m = omega arith in
    record {
      field = f;
      cell = c;
      at = at;
      there = there;
      wide = length-held_cell h kind (suc (suc m)) f c follows.known at found;
      field_is = ap (option_and_then (λ known. field_at known (suc (suc m)))) (kind_of_line follows) ∙ at;
      cell_is =
          ap₂ (λ (cs : List (List ℕ)) (n : ℕ). slice_index_or cs n []) (sym follows.cut.cells) index
          ∙ get_or_from_slice_get (held_cells h) (suc m) c [] there;
    }

pub same_field : (line : List ℕ) (k : ℕ) (f g : FieldLayout) → field_of line k ≡ Some f → field_of line k ≡ Some g → f ≡ g
same_field line k f g p q = by (sym p ∙ q)
  where
    by : Some f ≡ Some g → f ≡ g
    by e = cc e

-- no fault holds of a cell of its type
pub no_fault_of : (limits : LimitValues) (lines : List (List ℕ)) (h : HeldLine) (line : List ℕ) (kind : Kind) (m : ℕ)
    (x : Faces h line kind m) → Allows x.field.ty x.cell → (fault : CellFault)
    → ¬ Applies limits lines line (suc (suc m)) (reasons.Cell fault)
no_fault_of limits lines h line kind m x holds fault (g, at, has) =
    let same : x.field ≡ g = same_field line (suc (suc m)) x.field g x.field_is at in
    has.0 (subst (λ (c : List ℕ). Allows g.ty c) (sym x.cell_is) (subst (λ (f : FieldLayout). Allows f.ty x.cell) same holds))

-- where the cells before one are good and it names no symbol, some transmission within the limits continues
continues_here : (limits : LimitValues) (records : List RecordValue) (lines : List (List ℕ)) (h : HeldLine) (line : List ℕ)
    (kind : Kind) (m : ℕ) (c : List ℕ) → FollowsLines records lines h line kind
    → MayComeOf limits (map symbol_of records) kind → GoodBelow limits (map symbol_of records) h kind (suc (suc m))
    → slice_get (held_cells h) (suc m) ≡ Some c → named_symbol kind (suc (suc m)) c ≡ None
    → ContinuesWith (map symbol_of records) (names kind h (suc (suc m))) (IsWithin limits)
continues_here limits records lines h line kind m c f may good there nameless =
    let s = symbol_below limits (map symbol_of records) h kind m f.known may good in (
      s.symbol,
      subst (λ (cs : List Symbol). IsAmong cs s.symbol)
          (sym (names_no_more kind (suc m) (held_cells h) c there nameless)) s.among,
      s.may_come,
    )

-- where some transmission within the limits continues, neither the kind nor the order nor a limit is the reason
pub unbarred : (limits : LimitValues) (records : List RecordValue) (lines : List (List ℕ)) (h : HeldLine) (line : List ℕ)
    (kind : Kind) (k n : ℕ) → FollowsLines records lines h line kind
    → ContinuesWith (map symbol_of records) (names kind h k) (IsWithin limits)
    → ((fault : CellFault) → Applies limits lines line k (reasons.Cell fault) → n ≤ 3)
    → ((m : ℕ) → Applies limits lines line k (reasons.Number m) → n ≤ 4) → n ≤ 8 → Least limits lines line k n
unbarred limits records lines h line kind k n f within cell_at number_at most = record {
  unknown = λ a. absurd (known_kind kind (line_kind line) (kind_of_line f) a);
  misplaced =
      λ a. absurd (none_bars limits (map symbol_of records) (names kind h k) bars.Misplaced within
      (bar_applies limits records lines h line kind k bars.Misplaced f a));
  cell = cell_at;
  number = number_at;
  limit =
      λ l a. absurd (none_bars limits (map symbol_of records) (names kind h k) (bars.Limit l) within
      (bar_applies limits records lines h line kind k (bars.Limit l) f a));
  most = most;
}

-- a cell that isn't one of its type
pub reason_unfit : (limits : LimitValues) (records : List RecordValue) (lines : List (List ℕ)) (h : HeldLine) (line : List ℕ)
    (kind : Kind) (m : ℕ) (fault : CellFault) (x : Faces h line kind m) → FollowsLines records lines h line kind
    → MayComeOf limits (map symbol_of records) kind → GoodBelow limits (map symbol_of records) h kind (suc (suc m))
    → HasFault x.field.ty x.cell fault → IsReason limits lines line (suc (suc m)) (reasons.Cell fault)
reason_unfit limits records lines h line kind m fault x f may good has =
    let within =
    continues_here limits records lines h line kind m x.cell f may good x.there
    (unfit_nameless kind (suc (suc m)) x.field x.cell x.at has.0) in (
      (x.field, x.field_is, subst (λ (c : List ℕ). HasFault x.field.ty c fault) (sym x.cell_is) has),
      least_of limits lines line (suc (suc m)) 3
          (unbarred limits records lines h line kind (suc (suc m)) 3 f within (λ other a. lit≤ tt) (λ n a. lit≤ tt) (lit≤ tt)),
    )

-- the number of the records before is that of the lines
is_number : (records : List RecordValue) (lines : List (List ℕ)) (h : HeldLine) (line : List ℕ) (kind : Kind) (k n : ℕ)
    → FollowsLines records lines h line kind → IsNumberAt (map symbol_of records) kind k (Some n)
    → IsNumber lines line k n
is_number records lines h line kind k n f belongs groups other whole begins at =
    let xs : List Symbol = map symbol_of records in
    let among = subst (λ (sets : List (List Symbol)). BeginsAmong sets groups) (seen_are records lines h line kind k f) begins in
    let w =
    among_with (λ (g : List GroupOutline). g ≡ groups) records lines (names kind h k) f.in_order f.rows
    (groups, whole, refl, among) in
    let s : Symbol = w.0 in
    let split : symbols_of groups ≡ xs ++ s ∷ w.2.3.0 = ap symbols_of (sym w.2.2) ∙ w.2.3.1 ∙ append_assoc xs (s ∷ []) w.2.3.0 in
    let of_kind : symbol_kind s ≡ kind = candidate_kind kind s (among_all kind (take k (held_cells h)) s w.1) in
    let many : length xs ≡ length lines =
    length-map records symbol_of ∙ sym (as_many (rows_so_far records) lines f.rows ∙ length-rows_so_far records) in
    let same : kind ≡ other = one_kind (sym (kind_of_line f) ∙ at) in
    sym (belongs groups s w.2.3.0 whole split of_kind
    ∙ ap₂ (λ (i : Kind) (p : ℕ). number_in i k (slice_index_or (numbers_of (lengths_of groups)) p [])) same many)
  where
    one_kind : Some kind ≡ Some other → kind ≡ other
    one_kind e = cc e

-- a derived cell that is another number
pub reason_number : (limits : LimitValues) (records : List RecordValue) (lines : List (List ℕ)) (h : HeldLine) (line : List ℕ)
    (kind : Kind) (m n : ℕ) (x : Faces h line kind m) → FollowsLines records lines h line kind
    → MayComeOf limits (map symbol_of records) kind → GoodBelow limits (map symbol_of records) h kind (suc (suc m))
    → x.field.derived ≡ true → IsNumberAt (map symbol_of records) kind (suc (suc m)) (Some n)
    → Allows x.field.ty x.cell → ¬ (x.cell ≡ digits (length x.cell) n)
    → IsReason limits lines line (suc (suc m)) (reasons.Number n)
reason_number limits records lines h line kind m n x f may good d belongs holds other =
    let within =
    continues_here limits records lines h line kind m x.cell f may good x.there
    (derived_nameless kind (suc (suc m)) x.field x.cell x.at d) in (
      (
        x.field,
        x.field_is,
        d,
        is_number records lines h line kind (suc (suc m)) n f belongs,
        λ e. other (sym x.cell_is ∙ e ∙ ap (λ (w : ℕ). digits w n) (sym x.wide)),
      ),
      least_of limits lines line (suc (suc m)) 4
          (unbarred limits records lines h line kind (suc (suc m)) 4 f within
          (λ fault a. absurd (no_fault_of limits lines h line kind m x holds fault a)) (λ i a. lit≤ tt) (lit≤ tt)),
    )

-- A line all of whose cells are good is that of a record in order, whose symbol is the one that they name.
use Rattle.std.proofs.Common.{◌≡◌, ℕ, suc, ◌≤◌, List, [], ◌∷◌, length, take, drop, refl, sym, ap, subst, arith}
use Rattle.std.specs.Prelude.{Option, Some}
use Rattle.std.specs.List.{AllZip, IsAmong}
use Rattle.std.proofs.lemmas.List.{take_all}
use Rattle.cwr_fields.proofs.lemmas.LineFeeds.{NoLf}
use Rattle.cwr_fields.specs.declared.kinds.Kind.{Kind}
use Rattle.cwr_fields.specs.declared.kinds.Kind.TheVariants as kinds
use Rattle.cwr_fields.specs.Format.Layouts.{FieldLayout, layout, fields_after_type}
use Rattle.cwr_lines.specs.Format.Records.{RecordValue, Row, IsRecord, row_of}
use Rattle.cwr_lines.specs.Format.GoodCells.{AreGood}
use Rattle.cwr_lines.specs.Format.Lines.{IsLineOf, line_kind, line_cells}
use Rattle.cwr_lines.proofs.lemmas.CutLaws.{line_is_cut}
use Rattle.cwr_lines.proofs.lemmas.RowLaws.{IsRow-row_of}
use Rattle.cwr_lines.proofs.lemmas.GoodLinesAreRows.{good_line_is_row}
use Rattle.cwr_shape.specs.declared.symbols.Symbol.{Symbol}
use Rattle.cwr_shape.specs.declared.symbols.Symbol.TheVariants.{Plain}
use Rattle.cwr_shape.specs.Format.Ranges.{LimitValues}
use Rattle.cwr_shape.specs.Format.Candidates.{candidates}
use Rattle.cwr_shape.specs.Format.NextSymbols.{MayCome}
use Rattle.cwr_values.specs.Format.Values.{symbol_of}
use Rattle.cwr_values.specs.Format.Begins.{numbers_after}
use Rattle.cwr_judge.specs.Format.GoodFronts.{HasGoodFront}
use Rattle.cwr_judge.proofs.lemmas.FrontCells.{symbol_named}
use Rattle.cwr_judge.proofs.lemmas.MixedCells.{line_parts, wide_length}
use Rattle.cwr_judge.proofs.lemmas.GoodFrontsContinue.{party_symbol, group_symbol, only_among}

-- all cells of a record's row name its symbol alone
pub symbol_alone : (kind : Kind) (ns : List ℕ) (cells : List (List ℕ)) (s : Symbol)
    → IsRecord (record { kind = kind; cells = cells })
    → IsAmong (candidates (Some kind) (row_of ns (record { kind = kind; cells = cells })).cells) s
    → s ≡ symbol_of (record { kind = kind; cells = cells })
symbol_alone kinds.Ipa ns cells s h a = party_symbol cells h s a
symbol_alone kinds.Grh ns cells s h a = group_symbol cells h s a
symbol_alone kind ns cells s h a = only_among (Plain kind) s a

-- the line of a record's row names the record's symbol alone
pub line_names : (ns : List ℕ) (r : RecordValue) (line : List ℕ) (s : Symbol) → IsRecord r → IsLineOf (row_of ns r) line
    → IsAmong (candidates (line_kind line) (line_cells line)) s → s ≡ symbol_of r
line_names ns r line s h l a =
    let cut = line_is_cut (row_of ns r) line (IsRow-row_of ns r h) l in
    symbol_alone r.kind ns r.cells s h
    (subst (λ (cs : List (List ℕ)). IsAmong (candidates (Some r.kind) cs) s) cut.cells
    (subst (λ (o : Option Kind). IsAmong (candidates o (line_cells line)) s) cut.kind a))

-- and it names it
pub line_names_it : (ns : List ℕ) (r : RecordValue) (line : List ℕ) → IsRecord r → IsLineOf (row_of ns r) line
    → IsAmong (candidates (line_kind line) (line_cells line)) (symbol_of r)
line_names_it ns r line h l =
    let cut = line_is_cut (row_of ns r) line (IsRow-row_of ns r h) l in
    let all : take (suc (length (row_of ns r).cells)) (row_of ns r).cells ≡ (row_of ns r).cells =
    take_all (suc (length (row_of ns r).cells)) (row_of ns r).cells (omega arith) in
    let named : IsAmong (candidates (Some r.kind) (row_of ns r).cells) (symbol_of r) =
    subst (λ (cs : List (List ℕ)). IsAmong (candidates (Some r.kind) cs) (symbol_of r)) all
    (symbol_named r.kind (length (row_of ns r).cells) ns r.cells h) in
    subst (λ (o : Option Kind). IsAmong (candidates o (line_cells line)) (symbol_of r)) (sym cut.kind)
    (subst (λ (cs : List (List ℕ)). IsAmong (candidates (Some r.kind) cs) (symbol_of r)) (sym cut.cells) named)

-- the record of a line that may come next
pub record LineRecord (limits : LimitValues) (xs : List Symbol) (line : List ℕ) : Type 0 where
  pub value : RecordValue
  pub in_order : IsRecord value
  pub may_come : MayCome limits xs (symbol_of value)
  pub is_line : IsLineOf (row_of (numbers_after xs value.kind) value) line

-- a line whose front is good up to after its last field is that of a record that may come next
pub line_record : (limits : LimitValues) (xs : List Symbol) (line : List ℕ) (m : ℕ) → NoLf line
    → (g : HasGoodFront limits xs line m) → length (layout g.kind) ≤ m → LineRecord limits xs line
line_record limits xs line m no_lf g far =
    let fields : List FieldLayout = fields_after_type g.kind in
    let ns : List ℕ = numbers_after xs g.kind in
    let cells : List (List ℕ) = drop 1 (line_cells line) in
    let parts = line_parts g.kind line g.known in
    let many : length cells ≡ length fields = wide_length fields cells parts.1 in
    let good : AreGood fields ns cells =
    subst (λ (cs : List (List ℕ)). AreGood fields ns cs) (take_all m cells (omega (arith, far, many)))
    (subst (λ (fs : List FieldLayout). AreGood fs ns (take m cells)) (take_all m fields (omega (arith, far))) g.good) in
    let v = good_line_is_row ns g.kind line no_lf g.known (g.excess (omega (arith, far))) good in
    let among : IsAmong (candidates (line_kind line) (line_cells line)) g.symbol =
    subst (λ (o : Option Kind). IsAmong (candidates o (line_cells line)) g.symbol) (sym g.known)
    (subst (λ (cs : List (List ℕ)). IsAmong (candidates (Some g.kind) cs) g.symbol)
    (take_all (suc m) (line_cells line) (omega (arith, far, many, ap length parts.0))) g.among) in
    let symbol : g.symbol ≡ symbol_of v.value = line_names ns v.value line g.symbol v.in_order v.is_line among in
    record {
      value = v.value;
      in_order = v.in_order;
      may_come = subst (MayCome limits xs) symbol g.continues;
      is_line = subst (λ (k : Kind). IsLineOf (row_of (numbers_after xs k) v.value) line) (sym v.of_kind) v.is_line;
    }

-- there are as many lines as rows
pub as_many : (rows : List Row) (lines : List (List ℕ)) → AllZip IsLineOf rows lines → length lines ≡ length rows
as_many [] [] h = refl
as_many [] (line ∷ lines) h = absurd h
as_many (row ∷ rows) [] h = absurd h
as_many (row ∷ rows) (line ∷ lines) h = let m : length lines ≡ length rows = as_many rows lines h.1 in omega (arith, m)

-- A line of a row, or one that has another number in one cell: from a fair state it is gone on with.
use Rattle.std.proofs.Common.{◌≡◌, ◌≢◌, ℕ, zero, suc, ◌-◌, ◌<◌, ◌≤◌, Bool, true, false, true≢false, List, length, Option, Some}
use Rattle.std.proofs.Common.{None, refl, sym, ap, subst, ◌∙◌, arith, inl, inr, slice_get}
use Rattle.std.specs.Prelude.{◌⊎◌, ◌^◌, ◌&&◌, ◌==◌, cond, nat_le, option_and_then}
use Rattle.std.specs.List.{IsAmong}
use Rattle.std.proofs.lemmas.Bool.{eqb-true, le-leb}
use Rattle.cwr_fields.specs.declared.cell_types.CellType.{CellType}
use Rattle.cwr_fields.specs.declared.cell_types.CellType.TheVariants as types
use Rattle.cwr_fields.specs.declared.tables.Table.TheVariants as tables
use Rattle.cwr_fields.specs.Format.Cells.{Allows}
use Rattle.cwr_fields.specs.Format.Bytes.{are_digits, digits, number_of}
use Rattle.cwr_fields.proofs.lemmas.Digits.{length-digits, number_of-digits}
use Rattle.cwr_fields.proofs.lemmas.Spellings.{are_digits-digits}
use Rattle.cwr_fields.specs.declared.kinds.Kind.{Kind}
use Rattle.cwr_fields.specs.declared.kinds.Kind.TheVariants as kinds
use Rattle.cwr_lines.specs.declared.lines.LineEnd.TheVariants.{Line}
use Rattle.cwr_fields.specs.Format.Layouts.{FieldLayout, field_at, layout}
use Rattle.cwr_lines.specs.Format.Lines.{IsLineOf, has_bad_excess, line_cells, line_kind}
use Rattle.cwr_lines.specs.Format.Records.{RecordValue, IsRecord, row_of}
use Rattle.cwr_lines.specs.Steps.Held.{HeldLine, IsHeld, cell_as}
use Rattle.cwr_lines.proofs.lemmas.GoodLinesAreRows.{IsCutGood, line_is_good}
use Rattle.cwr_lines.proofs.lemmas.HeldLaws.{held_cell-at, length-held_cells, held_line_is_cut}
use Rattle.cwr_shape.specs.declared.symbols.Symbol.{Symbol}
use Rattle.cwr_shape.specs.declared.symbols.Symbol.TheVariants.{Ipa, Grh}
use Rattle.cwr_shape.specs.declared.stages.Stage.{Stage}
use Rattle.cwr_shape.specs.declared.stages.Stage.TheVariants.{Start}
use Rattle.cwr_shape.specs.Format.Candidates.{candidates, groups_of, parties_of, role_in as role_spelled, type_in as type_spelled}
use Rattle.cwr_shape.specs.Format.NextSymbols.{MayCome}
use Rattle.cwr_shape.specs.Format.Ranges.{LimitValues}
use Rattle.cwr_shape.specs.Steps.Counting.{counts_with, stage_type}
use Rattle.cwr_shape.specs.Steps.NextStages.{next_stage}
use Rattle.cwr_shape.specs.Steps.Tallies.{TallyValue, IsTallyOf}
use Rattle.cwr_shape.proofs.lemmas.TallySteps.{expects_numbers}
use Rattle.cwr_shape.proofs.lemmas.WhatMayCome.{comes_any}
use Rattle.cwr_values.specs.Format.Values.{symbol_by, symbol_of}
use Rattle.cwr_values.specs.Format.Begins.{numbers_after}
use Rattle.cwr_values.proofs.lemmas.RowAt.{kind_of_symbol}
use Rattle.cwr_judge.specs.Steps.Judged.{IsNext}
use Rattle.cwr_judge.proofs.lemmas.GoodFrontsContinue.{only_among, role_held, type_held}
use Rattle.cwr_judge.proofs.lemmas.LineRecords.{line_names_it}
use Rattle.cwr_judge.proofs.lemmas.NextLines.{line_is_next}
use Rattle.cwr_judge.proofs.lemmas.NumberCells.{one_number}
use Rattle.cwr_lint_lines.specs.declared.states.LintState.{LintState}
use Rattle.cwr_lint_lines.specs.Format.FaultsAtFields.{LineCut, cut_of}
use Rattle.cwr_lint_lines.specs.Steps.Cells.{cell_in, number_in_cell, role_in, type_in}
use Rattle.cwr_lint.proofs.lemmas.FairStates.{Fair, Fresh, GoesOn, Named}
use Rattle.cwr_lint.proofs.lemmas.QuietLines.{AllowsFrom, row_allows}
use Rattle.cwr_lint.proofs.lemmas.RowsGoOn.{AreSmall, HasNumbers, is_ended, row_goes_on}

-- field k holds a number of the kind, or there is none
abbrev pub IsDerivedIn : Kind → ℕ → Type 0
IsDerivedIn kind k = (k ≡ 0) ⊎ ((f : FieldLayout) × (2 ≤ k) × (field_at kind k ≡ Some f) × (f.derived ≡ true))

-- the line has the other's kind and cells but that in field k, and nothing bad after its last field
pub record HasOtherCell (k : ℕ) (line other : List ℕ) : Type 0 where
  pub kind : line_kind other ≡ line_kind line
  pub excess : has_bad_excess other ≡ false
  pub many : length (line_cells other) ≡ length (line_cells line)
  pub elsewhere : (j : ℕ) → j ≢ k → slice_get (line_cells other) (j - 1) ≡ slice_get (line_cells line) (j - 1)

-- the number of digits
number_read : (width n : ℕ) → n < 10 ^ width → width ≤ 10 → number_in_cell (digits width n) ≡ Some n
number_read width n small few =
    let short : nat_le (length (digits width n)) 10 ≡ true =
    le-leb (length (digits width n)) 10 (omega (arith, few, length-digits width n)) in
    ap (λ (b : Bool). cond (b && are_digits (digits width n)) (Some (number_of (digits width n))) None) short
    ∙ ap (λ (b : Bool). cond b (Some (number_of (digits width n))) None) (are_digits-digits width n)
    ∙ ap Some (number_of-digits width n small)

-- ---- what a row's line says

abbrev held : List ℕ → HeldLine
held line = record { bytes = line; ended = Line }

is_held : (ns : List ℕ) (r : RecordValue) (line : List ℕ) → IsLineOf (row_of ns r) line → IsHeld (held line)
is_held ns r line l = record { no_lf = l.0; short = l.1; full = tt }

cell_at : (l : LineCut) (kind : Kind) (i : ℕ) → l.kind ≡ Some kind → cell_in l (suc i) ≡ slice_get l.cells i
cell_at l kind i e = ap (λ (o : Option Kind). cell_as o l.cells (suc i)) e ∙ by (suc i == 0) refl
  where
    by : (b : Bool) → (suc i == 0) ≡ b → cond b None (slice_get l.cells (suc i - 1)) ≡ slice_get l.cells i
    by true z = absurd (omega (arith, eqb-true (suc i) 0 z))
    by false z = let less : suc i - 1 ≡ i = omega arith in ap (slice_get l.cells) less

numbers_there : (limits : LimitValues) (t : TallyValue) (xs : List Symbol) (r : RecordValue) (line other : List ℕ) (k : ℕ)
    → IsTallyOf t xs → IsRecord r → MayCome t.limits xs (symbol_of r) → IsLineOf (row_of (numbers_after xs r.kind) r) line
    → line_kind line ≡ Some r.kind → HasOtherCell k line other
    → HasNumbers t.stage t.counts r.kind k (cut_of other)
numbers_there limits t xs r line other k st h comes l known same zero n f two at d e small few apart = absurd (omega (arith, two))
numbers_there limits t xs r line other k st h comes l known same (suc i) n f two at d e small few apart =
    let next : IsNext t.limits xs (held line) (symbol_of r) r =
    line_is_next t.limits xs (held line) line r (is_held (numbers_after xs r.kind) r line l) refl h comes l in
    let cell = next.numbers (suc i) two f at d in
    let cut = held_line_is_cut (held line) line (is_held (numbers_after xs r.kind) r line l) refl in
    let is : Some cell.number ≡ Some n =
    one_number xs r.kind (suc i) (Some cell.number) (Some n) (symbol_of r) (kind_of_symbol r)
    (comes_any t.limits xs (symbol_of r) comes) cell.belongs (expects_numbers t xs r.kind (suc i) (Some n) st (sym e)) in
    let value : cell.number ≡ n = cc is in
    let less : suc i - 1 ≡ i = omega arith in
    let there : slice_get (line_cells line) i ≡ Some (digits f.width cell.number) =
    ap (λ (cs : List (List ℕ)). slice_get cs i) (sym cut.cells) ∙ sym (held_cell-at (held line) r.kind i (cut.kind ∙ known))
    ∙ cell.spelled in
    let mine : cell_in (cut_of other) (suc i) ≡ Some (digits f.width n) =
    cell_at (cut_of other) r.kind i (same.kind ∙ known) ∙ ap (slice_get (line_cells other)) (sym less)
    ∙ same.elsewhere (suc i) (λ q. apart (sym q)) ∙ ap (slice_get (line_cells line)) less ∙ there
    ∙ ap (λ (m : ℕ). Some (digits f.width m)) value in
    ap (option_and_then number_in_cell) mine ∙ number_read f.width n small few

-- ---- the symbol that it names

not_derived : (kind : Kind) (k j : ℕ) (f : FieldLayout) → field_at kind j ≡ Some f → f.derived ≡ false → IsDerivedIn kind k
    → 1 ≤ j → j ≢ k
not_derived kind k j f at plain (inl z) one q = absurd (omega (arith, z, one, q))
not_derived kind k j f at plain (inr (g, two, there, derived)) one q =
    let same : Some f ≡ Some g = sym at ∙ ap (field_at kind) q ∙ there in
    let it : f ≡ g = cc same in
    absurd (true≢false (sym (ap (λ (x : FieldLayout). x.derived) it ∙ derived) ∙ plain))

role_there : (l : LineCut) (cell : List ℕ) (role : _) → l.kind ≡ Some kinds.Ipa → slice_get l.cells 3 ≡ Some cell
    → role_spelled cell ≡ Some role → role_in l ≡ Some role
role_there l cell role e c n = ap (option_and_then role_spelled) (cell_at l kinds.Ipa 3 e ∙ c) ∙ n

type_there : (l : LineCut) (cell : List ℕ) (ty : _) → l.kind ≡ Some kinds.Grh → slice_get l.cells 1 ≡ Some cell
    → type_spelled cell ≡ Some ty → type_in l ≡ Some ty
type_there l cell ty e c n = ap (option_and_then type_spelled) (cell_at l kinds.Grh 1 e ∙ c) ∙ n

abbrev type_at : Option FieldLayout → CellType
type_at None = types.Text
type_at (Some f) = f.ty

abbrev derived_at : Option FieldLayout → Bool
derived_at None = false
derived_at (Some f) = f.derived

names : (kind : Kind) (r : RecordValue) (line other : List ℕ) (k : ℕ) → r.kind ≡ kind → line_kind line ≡ Some kind
    → HasOtherCell k line other → IsDerivedIn kind k → AllowsFrom (cut_of line) kind 1
    → IsAmong (candidates (line_kind line) (line_cells line)) (symbol_of r) → Named (symbol_of r) (cut_of other)
names kinds.Ipa r line other k e known same derived allows among =
    let (f, cell, at, there, holds) = allows 4 (omega arith) (omega arith) in
    let type_is : f.ty ≡ types.Code tables.Role = ap type_at (sym at) in
    let found = role_held cell (subst (λ (x : CellType). Allows x cell) type_is (holds (omega arith))) in
    let only : symbol_of r ≡ Ipa found.0 =
    only_among (Ipa found.0) (symbol_of r) (subst (λ (ss : List Symbol). IsAmong ss (symbol_of r)) (ap
    (λ (o : Option Kind). candidates o (line_cells line)) known ∙ ap
    (λ (o : Option (List ℕ)). parties_of (option_and_then role_spelled o)) there ∙ ap parties_of found.1) among) in
    subst (λ (x : Symbol). Named x (cut_of other)) (sym only) (role_there (cut_of other) cell found.0 (same.kind ∙ known)
    (same.elsewhere 4 (not_derived kinds.Ipa k 4 f at (ap derived_at (sym at)) derived (omega arith)) ∙ there) found.1)
names kinds.Grh r line other k e known same derived allows among =
    let (f, cell, at, there, holds) = allows 2 (omega arith) (omega arith) in
    let type_is : f.ty ≡ types.Code tables.TransactionType = ap type_at (sym at) in
    let found = type_held cell (subst (λ (x : CellType). Allows x cell) type_is (holds (omega arith))) in
    let only : symbol_of r ≡ Grh found.0 =
    only_among (Grh found.0) (symbol_of r) (subst (λ (ss : List Symbol). IsAmong ss (symbol_of r)) (ap
    (λ (o : Option Kind). candidates o (line_cells line)) known ∙ ap
    (λ (o : Option (List ℕ)). groups_of (option_and_then type_spelled o)) there ∙ ap groups_of found.1) among) in
    subst (λ (x : Symbol). Named x (cut_of other)) (sym only) (type_there (cut_of other) cell found.0 (same.kind ∙ known)
    (same.elsewhere 2 (not_derived kinds.Grh k 2 f at (ap derived_at (sym at)) derived (omega arith)) ∙ there) found.1)
names kind r line other k e known same derived allows among =
    subst (λ (x : Symbol). Named x (cut_of other)) (sym (ap (λ (x : Kind). symbol_by x r) e)) tt

-- ---- the line is gone on with

pub line_goes_on : (limits : LimitValues) (t : TallyValue) (xs : List Symbol) (r : RecordValue) (to : Stage) (line other : List ℕ)
    (st : LintState) (k from : ℕ) → t.stage ≢ Start → IsTallyOf t xs → IsRecord r → MayCome t.limits xs (symbol_of r)
    → next_stage t.stage (symbol_of r) ≡ Some to → AreSmall t.counts (symbol_of r) to
    → IsLineOf (row_of (numbers_after xs r.kind) r) line → HasOtherCell k line other → IsDerivedIn r.kind k
    → (k < from) ⊎ (k ≡ 0) → Fair t.stage t.counts st → (k ≢ 0 → Fresh st)
    → GoesOn (cut_of other) r.kind k to (counts_with (stage_type t.stage) t.counts (symbol_of r)) st (is_ended to)
    × AllowsFrom (cut_of other) r.kind from × ((cut_of other).kind ≡ Some r.kind)
line_goes_on limits t xs r to line other st k from begun tally h comes e small l same derived late fair fresh = (
  subst (λ (x : Kind). GoesOn (cut_of other) x k to (counts_with (stage_type t.stage) t.counts (symbol_of r)) st (is_ended to))
      (kind_of_symbol r)
      (row_goes_on t.stage (symbol_of r) to t.counts st (cut_of other) k begun e fair small
      (record {
        kind = known ∙ ap (λ (x : Kind). Some x) (sym (kind_of_symbol r));
        excess = same.excess;
        named =
            names r.kind r line other k refl good.kind_is same derived whole (line_names_it (numbers_after xs r.kind) r line h l);
      })
      (subst (λ (x : Kind). HasNumbers t.stage t.counts x k (cut_of other)) (sym (kind_of_symbol r))
      (numbers_there limits t xs r line other k tally h comes l good.kind_is same)) fresh),
  row_allows r.kind (numbers_after xs r.kind) (line_cells line) (cut_of other) k from good.good (same.many ∙ many) same.elsewhere
      late,
  known,
) where
  good : IsCutGood (numbers_after xs r.kind) r.kind line
  good = line_is_good (numbers_after xs r.kind) r line h l

  known : line_kind other ≡ Some r.kind
  known = same.kind ∙ good.kind_is

  many : length (line_cells line) ≡ length (layout r.kind)
  many =
      let cut =
      held_line_is_cut (held line) line (is_held (numbers_after xs r.kind) r line l) refl in ap length (sym cut.cells)
      ∙ length-held_cells (held line) r.kind (cut.kind ∙ good.kind_is)

  whole : AllowsFrom (cut_of line) r.kind 1
  whole = row_allows r.kind (numbers_after xs r.kind) (line_cells line) (cut_of line) 0 1 good.good many (λ j ne. refl) (inr refl)

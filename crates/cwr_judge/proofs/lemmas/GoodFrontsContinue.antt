-- From lines that were accepted, and the first good cells of one more, some transmission within the limits continues.
use Rattle.std.proofs.Common.{◌≡◌, ℕ, zero, suc, ◌<◌, ◌≤◌, Bool, true, false, List, [], ◌∷◌, ◌++◌, length, map, take, drop, refl}
use Rattle.std.proofs.Common.{sym, ap, subst, ◌∙◌, arith, append_assoc, ltb-true, ltb-false}
use Rattle.std.specs.Prelude.{Option, Some, None, slice_get, nat_lt, unwrap_or, IsFalse, option_and_then}
use Rattle.std.specs.List.{AllZip, AllByRecursion, IsAmong}
use Rattle.std.proofs.lemmas.List.{map-append, take_all}
use Rattle.cwr_fields.specs.declared.cell_types.CellType.TheVariants as types
use Rattle.cwr_fields.specs.declared.tables.Table.TheVariants as tables
use Rattle.cwr_fields.specs.declared.codes.Role.{Role}
use Rattle.cwr_fields.specs.declared.codes.Role.TheVariants.{Assignor, Acquirer}
use Rattle.cwr_fields.specs.declared.codes.TransactionType.{TransactionType}
use Rattle.cwr_fields.specs.declared.codes.TransactionType.TheVariants.{Agreement, NewWork, RevisedWork, Acknowledgement}
use Rattle.cwr_fields.specs.Format.Bytes.{filled}
use Rattle.cwr_fields.specs.Format.Codes.{role_code, type_code}
use Rattle.cwr_fields.specs.Format.Cells.{Allows}
use Rattle.cwr_fields.specs.declared.kinds.Kind.{Kind}
use Rattle.cwr_fields.specs.declared.kinds.Kind.TheVariants as kinds
use Rattle.cwr_fields.specs.Format.Kinds.{letters}
use Rattle.cwr_fields.specs.Format.Layouts.{FieldLayout, layout, fields_after_type}
use Rattle.cwr_lines.specs.Format.Records.{RecordValue, Row, IsRecord, row_cells, row_of}
use Rattle.cwr_lines.specs.Format.Lines.{IsLineOf, line_kind, line_cells, has_bad_excess}
use Rattle.cwr_lines.proofs.lemmas.RowLaws.{row_fits}
use Rattle.cwr_lines.specs.Format.GoodCells.{AreGood}
use Rattle.cwr_lines.proofs.lemmas.GoodLinesAreRows.{carried_in, cells_again, good_cells}
use Rattle.cwr_shape.specs.declared.symbols.Symbol.{Symbol}
use Rattle.cwr_shape.specs.declared.symbols.Symbol.TheVariants.{Plain, Ipa, Grh}
use Rattle.cwr_shape.specs.Format.Ranges.{LimitValues}
use Rattle.cwr_shape.specs.Format.Outlines.{IsWithin, Continues}
use Rattle.cwr_shape.specs.Format.Candidates.{candidates, role_in, type_in, parties_of, groups_of}
use Rattle.cwr_values.specs.Format.Values.{symbol_of}
use Rattle.cwr_values.specs.Format.Rows.{records_of}
use Rattle.cwr_values.specs.Format.Begins.{numbers_after, row_after, rows_after, rows_so_far}
use Rattle.cwr_values.proofs.lemmas.Witnesses.{witness, witness_fits, completed}
use Rattle.cwr_values.proofs.lemmas.RowAt.{rows_split}
use Rattle.cwr_judge.specs.Format.Places.{Viable}
use Rattle.cwr_judge.proofs.lemmas.MixedCells.{mixed, mixed_good, mixed_wide, mixed_front, mixed_at_front, mixed_at_back, taken_at}
use Rattle.cwr_judge.proofs.lemmas.MixedCells.{MixedNext, taken_none, wide_only, wide_length, line_parts}

-- ---- the symbol

pub role_held : (c : List ℕ) → Allows (types.Code tables.Role) c → (role : Role) × (role_in c ≡ Some role)
role_held c (code, (zero, (h, e)), f) = (Assignor, ap role_in (f ∙ ap (filled 2) e))
role_held c (code, (suc zero, (h, e)), f) = (Acquirer, ap role_in (f ∙ ap (filled 2) e))
role_held c (code, (suc (suc i), (h, e)), f) = absurd (omega (arith, h))

pub type_held : (c : List ℕ) → Allows (types.Code tables.TransactionType) c → (ty : TransactionType) × (type_in c ≡ Some ty)
type_held c (code, (zero, (h, e)), f) = (Agreement, ap type_in (f ∙ ap (filled 3) e))
type_held c (code, (suc zero, (h, e)), f) = (NewWork, ap type_in (f ∙ ap (filled 3) e))
type_held c (code, (suc (suc zero), (h, e)), f) = (RevisedWork, ap type_in (f ∙ ap (filled 3) e))
type_held c (code, (suc (suc (suc zero)), (h, e)), f) = (Acknowledgement, ap type_in (f ∙ ap (filled 3) e))
type_held c (code, (suc (suc (suc (suc i))), (h, e)), f) = absurd (omega (arith, h))

pub only_among : (s t : Symbol) → IsAmong (s ∷ []) t → t ≡ s
only_among s t (zero, h) = h.1
only_among s t (suc i, h) = absurd (omega (arith, h.0))

-- a party's record has the role of its first carried cell
pub party_symbol : (cells : List (List ℕ)) → IsRecord (record { kind = kinds.Ipa; cells = cells }) → (s : Symbol)
    → IsAmong (parties_of (role_in (unwrap_or (slice_get cells 0) []))) s
    → s ≡ Ipa (unwrap_or (role_in (unwrap_or (slice_get cells 0) [])) Assignor)
party_symbol [] h s a = absurd h
party_symbol (c ∷ cells) h s a =
    let r = role_held c h.0.1 in
    subst (λ (o : Option Role). s ≡ Ipa (unwrap_or o Assignor)) (sym r.1)
    (only_among (Ipa r.0) s (subst (λ (o : Option Role). IsAmong (parties_of o) s) r.1 a))

pub group_symbol : (cells : List (List ℕ)) → IsRecord (record { kind = kinds.Grh; cells = cells }) → (s : Symbol)
    → IsAmong (groups_of (type_in (unwrap_or (slice_get cells 0) []))) s
    → s ≡ Grh (unwrap_or (type_in (unwrap_or (slice_get cells 0) [])) Acknowledgement)
group_symbol [] h s a = absurd h
group_symbol (c ∷ cells) h s a =
    let r = type_held c h.0.1 in
    subst (λ (o : Option TransactionType). s ≡ Grh (unwrap_or o Acknowledgement)) (sym r.1)
    (only_among (Grh r.0) s (subst (λ (o : Option TransactionType). IsAmong (groups_of o) s) r.1 a))

-- the symbol is of the kind
kind_of_candidate : (kind : Kind) (cells : List (List ℕ)) (s : Symbol) → IsAmong (candidates (Some kind) cells) s
    → (witness s).kind ≡ kind
kind_of_candidate kinds.Ipa cells s a = by (option_and_then role_in (slice_get cells 3)) a
  where
    by : (o : Option Role) → IsAmong (parties_of o) s → (witness s).kind ≡ kinds.Ipa
    by (Some role) (zero, h) = ap (λ (t : Symbol). (witness t).kind) h.1
    by (Some role) (suc i, h) = absurd (omega (arith, h.0))
    by None (zero, h) = ap (λ (t : Symbol). (witness t).kind) h.1
    by None (suc zero, h) = ap (λ (t : Symbol). (witness t).kind) h.1
    by None (suc (suc i), h) = absurd (omega (arith, h.0))
kind_of_candidate kinds.Grh cells s a = by (option_and_then type_in (slice_get cells 1)) a
  where
    by : (o : Option TransactionType) → IsAmong (groups_of o) s → (witness s).kind ≡ kinds.Grh
    by (Some ty) (zero, h) = ap (λ (t : Symbol). (witness t).kind) h.1
    by (Some ty) (suc i, h) = absurd (omega (arith, h.0))
    by None (zero, h) = ap (λ (t : Symbol). (witness t).kind) h.1
    by None (suc zero, h) = ap (λ (t : Symbol). (witness t).kind) h.1
    by None (suc (suc zero), h) = ap (λ (t : Symbol). (witness t).kind) h.1
    by None (suc (suc (suc zero)), h) = ap (λ (t : Symbol). (witness t).kind) h.1
    by None (suc (suc (suc (suc i))), h) = absurd (omega (arith, h.0))
kind_of_candidate kind cells s a = ap (λ (t : Symbol). (witness t).kind) (only_among (Plain kind) s a)

-- the symbol of a record whose row has the first cells of the line, and after them those of the symbol's witness
has_symbol : (kind : Kind) (ns : List ℕ) (m : ℕ) (cells carried : List (List ℕ)) (s : Symbol)
    → IsRecord (record { kind = kind; cells = carried }) → m ≤ length cells → length cells ≡ length (fields_after_type kind)
    → row_cells (fields_after_type kind) ns carried ≡ mixed m cells (row_cells (fields_after_type kind) ns (witness s).cells)
    → IsAmong (candidates (Some kind) (take (suc m) (letters kind ∷ cells))) s
    → symbol_of (record { kind = kind; cells = carried }) ≡ s
has_symbol kinds.Ipa ns m cells carried s in_order few many row a = by (nat_lt 2 m) refl
  where
    w : List (List ℕ)
    w = row_cells (fields_after_type kinds.Ipa) ns (witness s).cells

    named : Some (unwrap_or (slice_get carried 0) []) ≡ slice_get (mixed m cells w) 2
    named = ap (λ (l : List (List ℕ)). slice_get l 2) row

    of_role : (role : Role) (t : Symbol) → t ≡ Ipa role
        → Some (unwrap_or (slice_get carried 0) []) ≡ slice_get (row_cells (fields_after_type kinds.Ipa) ns (witness t).cells) 2
        → symbol_of (record { kind = kinds.Ipa; cells = carried }) ≡ t
    of_role role t e q =
        let there : Some (unwrap_or (slice_get carried 0) []) ≡ Some (role_code role) =
        q ∙ ap (λ (u : Symbol). slice_get (row_cells (fields_after_type kinds.Ipa) ns (witness u).cells) 2) e in
        let cell : unwrap_or (slice_get carried 0) [] ≡ role_code role = cc there in
        ap (λ (c : List ℕ). Ipa (unwrap_or (role_in c) Assignor)) cell ∙ known role ∙ sym e
      where
        known : (r : Role) → Ipa (unwrap_or (role_in (role_code r)) Assignor) ≡ Ipa r
        known Assignor = refl
        known Acquirer = refl

    of_witness : IsAmong (Ipa Assignor ∷ Ipa Acquirer ∷ []) s → Some (unwrap_or (slice_get carried 0) []) ≡ slice_get w 2
        → symbol_of (record { kind = kinds.Ipa; cells = carried }) ≡ s
    of_witness (zero, h) q = of_role Assignor s h.1 q
    of_witness (suc zero, h) q = of_role Acquirer s h.1 q
    of_witness (suc (suc i), h) q = absurd (omega (arith, h.0))

    by : (b : Bool) → nat_lt 2 m ≡ b → symbol_of (record { kind = kinds.Ipa; cells = carried }) ≡ s
    by true e =
        let inside : 2 < m = ltb-true 2 m e in
        let cell : slice_get (take (suc m) (letters kinds.Ipa ∷ cells)) 3 ≡ Some (unwrap_or (slice_get carried 0) []) =
        taken_at m 2 cells inside ∙ sym (mixed_at_front m 2 cells w inside few) ∙ sym named in
        sym (party_symbol carried in_order s
        (subst (λ (o : Option (List ℕ)). IsAmong (parties_of (option_and_then role_in o)) s) cell a))
    by false e =
        let outside : m ≤ 2 = ltb-false 2 m e in
        let none : slice_get (take (suc m) (letters kinds.Ipa ∷ cells)) 3 ≡ None = taken_none m 2 cells outside in
        of_witness (subst (λ (o : Option (List ℕ)). IsAmong (parties_of (option_and_then role_in o)) s) none a)
        (named ∙ mixed_at_back m 2 cells w outside few (omega (arith, outside)))
has_symbol kinds.Grh ns m cells carried s in_order few many row a = by (nat_lt 0 m) refl
  where
    w : List (List ℕ)
    w = row_cells (fields_after_type kinds.Grh) ns (witness s).cells

    named : Some (unwrap_or (slice_get carried 0) []) ≡ slice_get (mixed m cells w) 0
    named = ap (λ (l : List (List ℕ)). slice_get l 0) row

    of_type : (ty : TransactionType) (t : Symbol) → t ≡ Grh ty
        → Some (unwrap_or (slice_get carried 0) []) ≡ slice_get (row_cells (fields_after_type kinds.Grh) ns (witness t).cells) 0
        → symbol_of (record { kind = kinds.Grh; cells = carried }) ≡ t
    of_type ty t e q =
        let there : Some (unwrap_or (slice_get carried 0) []) ≡ Some (type_code ty) =
        q ∙ ap (λ (u : Symbol). slice_get (row_cells (fields_after_type kinds.Grh) ns (witness u).cells) 0) e in
        let cell : unwrap_or (slice_get carried 0) [] ≡ type_code ty = cc there in
        ap (λ (c : List ℕ). Grh (unwrap_or (type_in c) Acknowledgement)) cell ∙ known ty ∙ sym e
      where
        known : (u : TransactionType) → Grh (unwrap_or (type_in (type_code u)) Acknowledgement) ≡ Grh u
        known Agreement = refl
        known NewWork = refl
        known RevisedWork = refl
        known Acknowledgement = refl

    of_witness : IsAmong (Grh Agreement ∷ Grh NewWork ∷ Grh RevisedWork ∷ Grh Acknowledgement ∷ []) s
        → Some (unwrap_or (slice_get carried 0) []) ≡ slice_get w 0 → symbol_of (record { kind = kinds.Grh; cells = carried }) ≡ s
    of_witness (zero, h) q = of_type Agreement s h.1 q
    of_witness (suc zero, h) q = of_type NewWork s h.1 q
    of_witness (suc (suc zero), h) q = of_type RevisedWork s h.1 q
    of_witness (suc (suc (suc zero)), h) q = of_type Acknowledgement s h.1 q
    of_witness (suc (suc (suc (suc i))), h) q = absurd (omega (arith, h.0))

    by : (b : Bool) → nat_lt 0 m ≡ b → symbol_of (record { kind = kinds.Grh; cells = carried }) ≡ s
    by true e =
        let inside : 0 < m = ltb-true 0 m e in
        let cell : slice_get (take (suc m) (letters kinds.Grh ∷ cells)) 1 ≡ Some (unwrap_or (slice_get carried 0) []) =
        taken_at m 0 cells inside ∙ sym (mixed_at_front m 0 cells w inside few) ∙ sym named in
        sym (group_symbol carried in_order s
        (subst (λ (o : Option (List ℕ)). IsAmong (groups_of (option_and_then type_in o)) s) cell a))
    by false e =
        let outside : m ≤ 0 = ltb-false 0 m e in
        let none : slice_get (take (suc m) (letters kinds.Grh ∷ cells)) 1 ≡ None = taken_none m 0 cells outside in
        of_witness (subst (λ (o : Option (List ℕ)). IsAmong (groups_of (option_and_then type_in o)) s) none a)
        (named ∙ mixed_at_back m 0 cells w outside few (omega (arith, outside)))
has_symbol kind ns m cells carried s in_order few many row a = sym (only_among (Plain kind) s a)

-- there is a record of the symbol whose row has the line's first good cells
next_inside : (ns : List ℕ) (kind : Kind) (line : List ℕ) (m : ℕ) (s : Symbol) → line_kind line ≡ Some kind
    → m ≤ length (fields_after_type kind)
    → AreGood (take m (fields_after_type kind)) ns (take m (drop 1 (line_cells line)))
    → IsAmong (candidates (Some kind) (take (suc m) (line_cells line))) s → MixedNext ns kind line (suc m) s
next_inside ns kind line m s known few good among =
    let fields : List FieldLayout = fields_after_type kind in
    let cells : List (List ℕ) = drop 1 (line_cells line) in
    let parts = line_parts kind line known in
    let many : length cells ≡ length fields = wide_length fields cells parts.1 in
    let of_kind : (witness s).kind ≡ kind = kind_of_candidate kind (take (suc m) (line_cells line)) s among in
    let fits : IsRecord (record { kind = kind; cells = (witness s).cells }) =
    subst (λ (j : Kind). IsRecord (record { kind = j; cells = (witness s).cells })) of_kind (witness_fits s) in
    let w : List (List ℕ) = row_cells fields ns (witness s).cells in
    let wide =
    mixed_wide m fields cells w parts.1
    (wide_only fields w (row_fits ns (record { kind = kind; cells = (witness s).cells }) fits).1) in
    let all = mixed_good m fields ns cells w (omega (arith, few, many)) good (good_cells fields ns (witness s).cells fits) in
    let again = cells_again fields ns (mixed m cells w) wide all in
    let value : RecordValue = record { kind = kind; cells = carried_in fields (mixed m cells w) } in
    record {
      value = value;
      of_kind = refl;
      in_order = again.1;
      symbol =
          has_symbol kind ns m cells value.cells s again.1 (omega (arith, few, many)) many again.0
          (subst (λ (l : List (List ℕ)). IsAmong (candidates (Some kind) (take (suc m) l)) s) parts.0 among);
      front =
          ap (λ (l : List (List ℕ)). letters kind ∷ l) (ap (take m) again.0 ∙ mixed_front m cells w (omega (arith, few, many)))
          ∙ sym (ap (take (suc m)) parts.0);
    }

-- however far after the last cell
next_of : (ns : List ℕ) (kind : Kind) (line : List ℕ) (m : ℕ) (s : Symbol) → line_kind line ≡ Some kind
    → AreGood (take m (fields_after_type kind)) ns (take m (drop 1 (line_cells line)))
    → IsAmong (candidates (Some kind) (take (suc m) (line_cells line))) s → MixedNext ns kind line (suc m) s
next_of ns kind line m s known good among = by (nat_lt (length fields) m) refl
  where
    fields : List FieldLayout
    fields = fields_after_type kind

    cells : List (List ℕ)
    cells = drop 1 (line_cells line)

    many : length cells ≡ length fields
    many = wide_length fields cells (line_parts kind line known).1

    all : (n : ℕ) → length fields ≤ n → take (suc n) (line_cells line) ≡ line_cells line
    all n h = take_all (suc n) (line_cells line) (omega (arith, h, many, ap length (line_parts kind line known).0))

    by : (b : Bool) → nat_lt (length fields) m ≡ b → MixedNext ns kind line (suc m) s
    by false e = next_inside ns kind line m s known (ltb-false (length fields) m e) good among
    by true e =
        let far : length fields < m = ltb-true (length fields) m e in
        let fields_same : take m fields ≡ take (length fields) fields =
        take_all m fields (omega (arith, far)) ∙ sym (take_all (length fields) fields (omega arith)) in
        let cells_same : take m cells ≡ take (length fields) cells =
        take_all m cells (omega (arith, far, many)) ∙ sym (take_all (length fields) cells (omega (arith, many))) in
        let line_same : take (suc m) (line_cells line) ≡ take (suc (length fields)) (line_cells line) =
        all m (omega (arith, far)) ∙ sym (all (length fields) (omega arith)) in
        let n = next_inside ns kind line (length fields) s known (omega arith)
        (subst (λ (cs : List (List ℕ)). AreGood (take (length fields) fields) ns cs) cells_same
        (subst (λ (fs : List FieldLayout). AreGood fs ns (take m cells)) fields_same good))
        (subst (λ (l : List (List ℕ)). IsAmong (candidates (Some kind) l) s) line_same among) in
        let row : List (List ℕ) = (row_of ns n.value).cells in
        let as_many : length row ≡ suc (length fields) =
        wide_length (layout n.value.kind) row (wide_only (layout n.value.kind) row (row_fits ns n.value n.in_order))
        ∙ ap (λ (j : Kind). length (layout j)) n.of_kind in
        record {
          value = n.value;
          of_kind = n.of_kind;
          in_order = n.in_order;
          symbol = n.symbol;
          front =
              take_all (suc m) row (omega (arith, far, as_many))
              ∙ sym (take_all (suc (length fields)) row (omega (arith, as_many))) ∙ n.front ∙ sym line_same;
        }

-- ---- the transmission

more_rows : (rs : List RecordValue) (r : RecordValue) (more : List RecordValue)
    → rows_so_far rs ++ rows_after rs (r ∷ more) ≡ rows_so_far rs ++ row_after rs r ∷ rows_after (rs ++ r ∷ []) more
unfolding rows_after
more_rows rs r more = refl

pub viable : (limits : LimitValues) (records : List RecordValue) (before : List (List ℕ)) (line : List ℕ) (kind : Kind) (m : ℕ)
    (s : Symbol) → AllByRecursion IsRecord records → AllZip IsLineOf (rows_so_far records) before
    → line_kind line ≡ Some kind → AreGood (take m (fields_after_type kind)) (numbers_after (map symbol_of records) kind)
    (take m (drop 1 (line_cells line)))
    → (length (layout kind) < suc m → IsFalse (has_bad_excess line))
    → IsAmong (candidates (Some kind) (take (suc m) (line_cells line))) s
    → Continues (IsWithin limits) (map symbol_of records ++ s ∷ []) → Viable limits before line (suc m)
viable limits records before line kind m s in_order lines known good excess among g =
    let next = next_of (numbers_after (map symbol_of records) kind) kind line m s known good among in
    let symbols : map symbol_of (records ++ next.value ∷ []) ≡ map symbol_of records ++ s ∷ [] =
    map-append symbol_of records (next.value ∷ []) ∙ ap (λ (t : Symbol). map symbol_of records ++ t ∷ []) next.symbol in
    let v =
    completed g.0 (records ++ next.value ∷ []) g.3.0 g.1 (all_more records next.value in_order next.in_order)
    (g.3.1 ∙ ap (λ (l : List Symbol). l ++ g.3.0) (sym symbols)) in
    let whole : records_of v.value ≡ records ++ next.value ∷ v.more = v.begins ∙ append_assoc records (next.value ∷ []) v.more in
    let row : row_after records next.value ≡ row_of (numbers_after (map symbol_of records) kind) next.value =
    ap (λ (j : Kind). row_of (numbers_after (map symbol_of records) j) next.value) next.of_kind in
    record {
      value = v.value;
      whole = v.whole;
      within = subst (IsWithin limits) (sym v.outline) g.2;
      front = rows_so_far records;
      next = row_after records next.value;
      rest = rows_after (records ++ next.value ∷ []) v.more;
      split = rows_split v.value records (next.value ∷ v.more) v.whole whole ∙ more_rows records next.value v.more;
      lines = lines;
      cells =
          (ap (λ (r : Row). take (suc m) r.cells) row ∙ next.front, λ h. excess (longer next.value next.of_kind next.in_order h));
    }
  where
    all_more : (rs : List RecordValue) (r : RecordValue) → AllByRecursion IsRecord rs → IsRecord r
        → AllByRecursion IsRecord (rs ++ r ∷ [])
    all_more [] r h k = (k, tt)
    all_more (q ∷ rs) r h k = (h.0, all_more rs r h.1 k)

    longer : (r : RecordValue) → r.kind ≡ kind → IsRecord r → length (row_after records r).cells < suc m
        → length (layout kind) < suc m
    longer r e h k =
        omega (
          arith,
          k,
          wide_length (layout r.kind) (row_after records r).cells
              (wide_only (layout r.kind) (row_after records r).cells (row_fits (numbers_after (map symbol_of records) r.kind) r h)),
          ap
              (λ (j : Kind). length (layout j)) e,
        )

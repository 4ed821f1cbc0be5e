-- The first field that is wrong of a line has the first reason that holds there.
use Rattle.std.proofs.Common.{◌≡◌, ℕ, zero, suc, ◌+◌, ◌≤◌, Bool, true, false, List, [], ◌∷◌, ◌++◌, length, map, take, refl, sym}
use Rattle.std.proofs.Common.{ap, subst, ◌∙◌, arith, true≢false, lit≤}
use Rattle.std.specs.Prelude.{Option, Some, None, IsSomeAnd, slice_get, option_and_then}
use Rattle.std.specs.List.{AllZip, AllByRecursion, IsAmong}
use Rattle.std.proofs.lemmas.Option.{slice_get_past}
use Rattle.std.proofs.lemmas.List.{take_all}
use Rattle.cwr_fields.specs.Format.Cells.{Allows}
use Rattle.cwr_fields.specs.declared.kinds.Kind.{Kind}
use Rattle.cwr_fields.specs.Format.Layouts.{FieldLayout, layout, fields_after_type, field_at}
use Rattle.cwr_lines.specs.Format.Records.{RecordValue, IsRecord}
use Rattle.cwr_lines.specs.Format.Lines.{IsLineOf, line_kind}
use Rattle.cwr_lines.specs.Steps.Held.{HeldLine, IsCutAs, held_kind, held_cell, held_cells, held_excess}
use Rattle.cwr_lines.proofs.lemmas.HeldLaws.{length-held_cells}
use Rattle.cwr_shape.specs.declared.symbols.Symbol.{Symbol}
use Rattle.cwr_shape.specs.declared.limits.LimitKind.TheVariants as limit_kinds
use Rattle.cwr_shape.specs.declared.reasons.Reason.{Reason}
use Rattle.cwr_shape.specs.declared.reasons.Reason.TheVariants as reasons
use Rattle.cwr_shape.specs.declared.tallies.Bar.{Bar}
use Rattle.cwr_shape.specs.declared.tallies.Bar.TheVariants as bars
use Rattle.cwr_shape.specs.Format.Ranges.{LimitValues}
use Rattle.cwr_shape.specs.Format.Outlines.{GroupOutline, Continues, KeepsTo, IsWithin}
use Rattle.cwr_shape.specs.Format.AnyTransmission.{Any}
use Rattle.cwr_shape.specs.Format.Numbers.{IsNumberAt}
use Rattle.cwr_shape.specs.Format.Candidates.{candidates}
use Rattle.cwr_shape.specs.Format.NextSymbols.{ContinuesWith, IsBarred, IsBarredFirst}
use Rattle.cwr_values.specs.Format.Values.{symbol_of}
use Rattle.cwr_values.specs.Format.Begins.{rows_so_far}
use Rattle.cwr_judge.specs.Format.Places.{last_place}
use Rattle.cwr_judge.specs.Format.Reasons.{Applies, IsReason, field_of}
use Rattle.cwr_judge.specs.Steps.Judged as judged
use Rattle.cwr_judge.specs.Steps.Judged.{IsFirstBy, IsFirstFault, IsWrongAt, HasReasonAt, MayComeOf, named_symbol, bar_reason}
use Rattle.cwr_judge.specs.Steps.Judged.{barred, cell, past_last}
use Rattle.cwr_judge.proofs.lemmas.FrontsBeforeFaults.{GoodBelow, symbol_below}
use Rattle.cwr_judge.proofs.lemmas.NoneAtFaults.{there_of, named_holds}
use Rattle.cwr_judge.proofs.lemmas.SymbolsOfLines.{named_by_lines}
use Rattle.cwr_judge.proofs.lemmas.NamedSymbols.{named_among}
use Rattle.cwr_judge.proofs.lemmas.MixedCells.{taken_at}
use Rattle.cwr_judge.proofs.lemmas.FirstReasonOfKind.{FollowsLines, names, kind_of_line, least_of, over_four, reason_of_bar}
use Rattle.cwr_judge.proofs.lemmas.FirstReasonOfKind.{reason_at_type}
use Rattle.cwr_judge.proofs.lemmas.FirstReasonOfCell.{Faces, faces, same_field, no_fault_of, unbarred, reason_unfit, reason_number}

-- ---- a symbol that is named

named_is : (kind : Kind) (i : ℕ) (c : List ℕ) (cells : List (List ℕ)) (s t : Symbol) → slice_get cells i ≡ Some c
    → named_symbol kind (suc i) c ≡ Some s → IsAmong (candidates (Some kind) (take (suc i) cells)) t
    → slice_get (take (suc i) cells) i ≡ Some c → t ≡ s
named_is kind i c cells s t there named_by_lines among inside =
    named_holds kind i c (take (suc i) cells) t (λ (u : Symbol). u ≡ s) inside among
    (subst (λ (o : Option Symbol). IsSomeAnd o (λ u. u ≡ s)) (sym named_by_lines) refl)

-- what bars the symbol bars those that the cells name
named_barred : (limits : LimitValues) (xs cs : List Symbol) (s : Symbol) (bar : Bar) → IsAmong cs s
    → ((t : Symbol) → IsAmong cs t → t ≡ s) → IsBarred limits xs s bar → IsBarredFirst limits (ContinuesWith xs cs) bar
named_barred limits xs cs s bar here only = by bar
  where
    alone : (P : List GroupOutline → Type 0) → ContinuesWith xs cs P → Continues P (xs ++ s ∷ [])
    alone P (t, among, g) = subst (λ (u : Symbol). Continues P (xs ++ u ∷ [])) (only t among) g

    by : (x : Bar) → IsBarred limits xs s x → IsBarredFirst limits (ContinuesWith xs cs) x
    by bars.Misplaced b = λ g. b (alone Any g)
    by (bars.Limit limit_kinds.Records) b = ((s, here, b.0), λ g. b.1 (alone (KeepsTo limit_kinds.Records limits) g))
    by (bars.Limit limit_kinds.Groups) b = ((s, here, b.0), λ g. b.1 (alone (KeepsTo limit_kinds.Groups limits) g))
    by (bars.Limit limit_kinds.Transaction) b =
        ((s, here, b.0), (s, here, b.1), λ g. b.2 (alone (KeepsTo limit_kinds.Transaction limits) g))

reason_named : (limits : LimitValues) (records : List RecordValue) (lines : List (List ℕ)) (h : HeldLine) (line : List ℕ)
    (kind : Kind) (m : ℕ) (bar : Bar) (x : Faces h line kind m) → FollowsLines records lines h line kind
    → x.field.derived ≡ false → Allows x.field.ty x.cell
    → IsSomeAnd (named_symbol kind (suc (suc m)) x.cell) (λ s. IsBarred limits (map symbol_of records) s bar)
    → IsReason limits lines line (suc (suc m)) (bar_reason bar)
reason_named limits records lines h line kind m bar x f carried holds t =
    let s = there_of (named_symbol kind (suc (suc m)) x.cell) (λ s. IsBarred limits (map symbol_of records) s bar) t in
    let cells : List (List ℕ) = held_cells h in
    let inside : slice_get (take (suc (suc m)) cells) (suc m) ≡ Some x.cell =
    taken_at (suc (suc m)) (suc m) cells (omega arith) ∙ x.there in
    reason_of_bar limits records lines h line kind (suc (suc m)) bar f
    (named_barred limits (map symbol_of records) (names kind h (suc (suc m))) s.value bar
    (named_among kind (suc m) cells x.cell s.value x.there s.is)
    (λ u among. named_is kind (suc m) x.cell cells s.value u x.there s.is among inside) s.holds)
    (no_fault_of limits lines h line kind m x holds) none
  where
    none : ContinuesWith (map symbol_of records) (names kind h (suc (suc m))) Any → (n : ℕ)
        → ¬ Applies limits lines line (suc (suc m)) (reasons.Number n)
    none any n (g, at, derived, belongs, other) =
        let same : x.field ≡ g = same_field line (suc (suc m)) x.field g x.field_is at in
        true≢false (sym derived ∙ sym (ap (λ (l : FieldLayout). l.derived) same) ∙ carried)

-- the field that is wrong of a line of a kind
reason_at_cell : (limits : LimitValues) (records : List RecordValue) (lines : List (List ℕ)) (h : HeldLine) (line : List ℕ)
    (kind : Kind) (m : ℕ) (reason : Reason) → FollowsLines records lines h line kind
    → MayComeOf limits (map symbol_of records) kind → GoodBelow limits (map symbol_of records) h kind (suc (suc m))
    → HasReasonAt limits (map symbol_of records) h kind (suc (suc m)) reason
    → IsReason limits lines line (suc (suc m)) reason
unfolding faces
reason_at_cell limits records lines h line kind m reason f may good fault =
    let xs : List Symbol = map symbol_of records in
    let a =
    there_of (field_at kind (suc (suc m)))
    (λ g. IsSomeAnd (held_cell h (suc (suc m))) (λ c. judged.IsFaultBy g.derived limits xs kind (suc (suc m)) g c reason))
    fault in
    let c =
    there_of (held_cell h (suc (suc m))) (λ c. judged.IsFaultBy a.value.derived limits xs kind (suc (suc m)) a.value c reason)
    a.holds in
    by (faces records lines h line kind m a.value c.value f a.is c.is) a.value.derived refl reason c.holds
  where
    number : (x : Faces h line kind m) → x.field.derived ≡ true → (n : ℕ)
        → IsNumberAt (map symbol_of records) kind (suc (suc m)) (Some n) → (r : Reason)
        → judged.IsNumberFault x.field.ty x.cell n r
        → IsReason limits lines line (suc (suc m)) r
    number x d n belongs (reasons.Cell e) w = reason_unfit limits records lines h line kind m e x f may good w
    number x d n belongs (reasons.Number expected) w =
        subst (λ (i : ℕ). IsReason limits lines line (suc (suc m)) (reasons.Number i)) (sym w.0)
        (reason_number limits records lines h line kind m n x f may good d belongs w.1 w.2)
    number x d n belongs r w = absurd w

    text : (x : Faces h line kind m) → x.field.derived ≡ false → (r : Reason)
        → judged.IsTextFault limits (map symbol_of records) kind (suc (suc m)) x.field.ty x.cell r
        → IsReason limits lines line (suc (suc m)) r
    text x d (reasons.Cell e) w = reason_unfit limits records lines h line kind m e x f may good w
    text x d reasons.Misplaced w = reason_named limits records lines h line kind m bars.Misplaced x f d w.0 w.1
    text x d (reasons.Limit l) w = reason_named limits records lines h line kind m (bars.Limit l) x f d w.0 w.1
    text x d r w = absurd w

    by : (x : Faces h line kind m) (b : Bool) → x.field.derived ≡ b → (r : Reason)
        → judged.IsFaultBy b limits (map symbol_of records) kind (suc (suc m)) x.field x.cell r
        → IsReason limits lines line (suc (suc m)) r
    by x true d r w = number x d w.0 w.1 r w.2
    by x false d r w = text x d r w

-- what stands after the last field
reason_after : (limits : LimitValues) (records : List RecordValue) (lines : List (List ℕ)) (h : HeldLine) (line : List ℕ)
    (kind : Kind) (k : ℕ) → k ≡ length (layout kind) + 1 → FollowsLines records lines h line kind
    → MayComeOf limits (map symbol_of records) kind → GoodBelow limits (map symbol_of records) h kind k → held_excess h ≡ true
    → IsReason limits lines line k reasons.Excess
reason_after limits records lines h line kind k last f may good excess =
    let xs : List Symbol = map symbol_of records in
    let m : ℕ = length (fields_after_type kind) in
    let many : length (layout kind) ≡ suc m = omega arith in
    let next : k ≡ suc (suc m) = omega (arith, last, many) in
    let s = symbol_below limits xs h kind m f.known may (subst (λ (i : ℕ). GoodBelow limits xs h kind i) next good) in
    let cells : List (List ℕ) = held_cells h in
    let all : take (suc m) cells ≡ take k cells =
    take_all (suc m) cells (omega (arith, length-held_cells h kind f.known, many))
    ∙ sym (take_all k cells (omega (arith, length-held_cells h kind f.known, many, next))) in
    let within : ContinuesWith xs (names kind h k) (IsWithin limits) =
    (s.symbol, subst (λ (cs : List (List ℕ)). IsAmong (candidates (Some kind) cs) s.symbol) all s.among, s.may_come) in (
      (last ∙ ap last_place (sym (kind_of_line f)), sym f.cut.excess ∙ excess),
      least_of limits lines line k 8 (unbarred limits records lines h line kind k 8 f within
          (λ fault a. absurd (no_field a.0 a.1)) (λ n a. absurd (no_field a.0 a.1)) (lit≤ tt)),
    )
  where
    none : field_at kind k ≡ None
    none =
        ap (field_at kind) (let e : k ≡ suc (length (layout kind)) = omega (arith, last) in e) ∙ slice_get_past (layout kind)
        (length (layout kind)) (let e : length (layout kind) ≤ length (layout kind) = omega arith in e)

    no_field : (g : FieldLayout) → field_of line k ≡ Some g → ⊥
    no_field g at = no (sym none ∙ sym (ap (option_and_then (λ known. field_at known k)) (kind_of_line f)) ∙ at)
      where
        no : None ≡ Some g → ⊥
        no e = cc e

reason_of_kind : (limits : LimitValues) (records : List RecordValue) (lines : List (List ℕ)) (h : HeldLine) (line : List ℕ)
    (kind : Kind) (k : ℕ) (reason : Reason) → FollowsLines records lines h line kind
    → IsWrongAt limits (map symbol_of records) h kind k reason → GoodBelow limits (map symbol_of records) h kind k
    → IsReason limits lines line k reason
reason_of_kind limits records lines h line kind k reason f (barred bar b) good =
    reason_at_type limits records lines h line kind bar f b
reason_of_kind limits records lines h line kind k reason f (cell zero r from may fault) good = absurd (omega (arith, from))
reason_of_kind limits records lines h line kind k reason f (cell (suc zero) r from may fault) good = absurd (omega (arith, from))
reason_of_kind limits records lines h line kind k reason f (cell (suc (suc m)) r from may fault) good =
    reason_at_cell limits records lines h line kind m r f may good fault
reason_of_kind limits records lines h line kind k reason f (past_last may excess) good =
    reason_after limits records lines h line kind (length (layout kind) + 1) refl f may good excess

-- The first field that is wrong of a line after those of records, and why: the reason is the first that holds there.
pub first_reason : (limits : LimitValues) (records : List RecordValue) (lines : List (List ℕ)) (h : HeldLine) (line : List ℕ)
    (field : ℕ) (reason : Reason) → AllByRecursion IsRecord records
    → AllZip IsLineOf (rows_so_far records) lines → IsCutAs h line → IsFirstFault limits (map symbol_of records) h field reason
    → IsReason limits lines line field reason
first_reason limits records lines h line field reason in_order rows cut first = by (held_kind h) refl first
  where
    by : (o : Option Kind) → held_kind h ≡ o → IsFirstBy o limits (map symbol_of records) h field reason
        → IsReason limits lines line field reason
    by None known w =
        let unknown : line_kind line ≡ None = sym cut.kind ∙ known in
        subst (IsReason limits lines line field) (sym w.1) (
          unknown,
          least_of limits lines line field 1 (record {
            unknown = λ a. lit≤ tt;
            misplaced = λ a. lit≤ tt;
            cell = λ fault a. lit≤ tt;
            number = λ m a. lit≤ tt;
            limit = λ l a. omega (arith, over_four l);
            most = lit≤ tt;
          }),
        )
    by (Some kind) known w =
        reason_of_kind limits records lines h line kind field reason
        (record { in_order = in_order; rows = rows; cut = cut; known = known }) w.here w.before

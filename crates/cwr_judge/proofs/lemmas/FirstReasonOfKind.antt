-- Where no record of the line's kind may come, the reason is the first that holds at its first cell.
use Rattle.std.proofs.Common.{◌≡◌, ℕ, ◌≤◌, List, [], ◌∷◌, ◌++◌, length, map, take, sym, ap, ap₂, subst, ◌∙◌, arith, lit≤}
use Rattle.std.specs.Prelude.{Option, Some, None, slice_index_or, option_and_then}
use Rattle.std.specs.List.{AllZip, AllByRecursion}
use Rattle.cwr_fields.specs.declared.cell_types.CellFault.{CellFault}
use Rattle.cwr_fields.specs.declared.kinds.Kind.{Kind}
use Rattle.cwr_fields.specs.Format.Layouts.{FieldLayout, field_at}
use Rattle.cwr_lines.specs.Format.Records.{RecordValue, IsRecord}
use Rattle.cwr_lines.specs.Format.Lines.{IsLineOf, line_kind}
use Rattle.cwr_lines.specs.Steps.Held.{HeldLine, IsCutAs, held_kind, held_cells}
use Rattle.cwr_shape.specs.declared.symbols.Symbol.{Symbol}
use Rattle.cwr_shape.specs.declared.limits.LimitKind.{LimitKind}
use Rattle.cwr_shape.specs.declared.limits.LimitKind.TheVariants as limit_kinds
use Rattle.cwr_shape.specs.declared.reasons.Reason.{Reason}
use Rattle.cwr_shape.specs.declared.reasons.Reason.TheVariants as reasons
use Rattle.cwr_shape.specs.declared.tallies.Bar.{Bar}
use Rattle.cwr_shape.specs.declared.tallies.Bar.TheVariants as bars
use Rattle.cwr_shape.specs.Format.Ranges.{LimitValues}
use Rattle.cwr_shape.specs.Format.Outlines.{KeepsTo}
use Rattle.cwr_shape.specs.Format.AnyTransmission.{Any}
use Rattle.cwr_shape.specs.Format.Numbers.{numbers_of, lengths_of}
use Rattle.cwr_shape.specs.Format.Candidates.{candidates, ContinuesAmong}
use Rattle.cwr_shape.specs.Format.Bars.{Bars}
use Rattle.cwr_shape.specs.Format.NextSymbols.{ContinuesWith, IsBarredAmong, IsBarredFirst}
use Rattle.cwr_values.specs.Format.Values.{symbol_of}
use Rattle.cwr_values.specs.Format.Begins.{rows_so_far}
use Rattle.cwr_judge.specs.Format.Reasons.{Applies, IsReason, field_of, line_candidates, rank}
use Rattle.cwr_judge.specs.Steps.Judged.{bar_reason}
use Rattle.cwr_judge.proofs.lemmas.RecordType.{type_holds, type_has_no_number}
use Rattle.cwr_judge.proofs.lemmas.BarsOfLines.{BarsWith, bars_seen, seen_bars, first_bars, any_with}
use Rattle.cwr_judge.proofs.lemmas.SymbolsOfLines.{named_by_lines, with_among}
use Rattle.cwr_judge.proofs.lemmas.NamedSymbols.{first_names}

-- the lines are those of records in order, and the line after them, which is of a kind, is cut as it was taken
pub record FollowsLines (records : List RecordValue) (lines : List (List ℕ)) (h : HeldLine) (line : List ℕ) (kind : Kind) : Type 0
  where
    pub in_order : AllByRecursion IsRecord records
    pub rows : AllZip IsLineOf (rows_so_far records) lines
    pub cut : IsCutAs h line
    pub known : held_kind h ≡ Some kind

-- the symbols that the line's first cells name
abbrev pub names : Kind → HeldLine → ℕ → List Symbol
names kind h k = candidates (Some kind) (take k (held_cells h))

pub kind_of_line : {records : List RecordValue} {lines : List (List ℕ)} {h : HeldLine} {line : List ℕ} {kind : Kind}
    → FollowsLines records lines h line kind → line_kind line ≡ Some kind
kind_of_line f = sym f.cut.kind ∙ f.known

pub seen_are : (records : List RecordValue) (lines : List (List ℕ)) (h : HeldLine) (line : List ℕ) (kind : Kind) (k : ℕ)
    → FollowsLines records lines h line kind → line_candidates lines line k ≡ named_by_lines lines ++ names kind h k ∷ []
seen_are records lines h line kind k f =
    ap₂ (λ (o : Option Kind) (cs : List (List ℕ)). named_by_lines lines ++ candidates o (take k cs) ∷ [])
    (sym f.cut.kind ∙ f.known) (sym f.cut.cells)

-- ---- bars

applies_bar : (limits : LimitValues) (records : List RecordValue) (lines : List (List ℕ)) (h : HeldLine) (line : List ℕ)
    (kind : Kind) (k : ℕ) (bar : Bar) → FollowsLines records lines h line kind
    → BarsWith limits (map symbol_of records) (names kind h k) bar → Applies limits lines line k (bar_reason bar)
applies_bar limits records lines h line kind k bar f b =
    by bar (subst (λ (sets : List (List Symbol)). Bars limits sets bar) (sym (seen_are records lines h line kind k f))
    (bars_seen limits records lines (names kind h k) bar f.in_order f.rows b))
  where
    by : (x : Bar) → Bars limits (line_candidates lines line k) x → Applies limits lines line k (bar_reason x)
    by bars.Misplaced q = q
    by (bars.Limit limit) q = q

pub bar_applies : (limits : LimitValues) (records : List RecordValue) (lines : List (List ℕ)) (h : HeldLine) (line : List ℕ)
    (kind : Kind) (k : ℕ) (bar : Bar) → FollowsLines records lines h line kind
    → Applies limits lines line k (bar_reason bar) → BarsWith limits (map symbol_of records) (names kind h k) bar
bar_applies limits records lines h line kind k bar f a =
    seen_bars limits records lines (names kind h k) bar f.in_order f.rows
    (subst (λ (sets : List (List Symbol)). Bars limits sets bar) (seen_are records lines h line kind k f) (by bar a))
  where
    by : (x : Bar) → Applies limits lines line k (bar_reason x) → Bars limits (line_candidates lines line k) x
    by bars.Misplaced q = q
    by (bars.Limit limit) q = q

-- ---- the first of the reasons

-- a rank that no reason which holds is below
pub record Least (limits : LimitValues) (lines : List (List ℕ)) (line : List ℕ) (k n : ℕ) : Type 0 where
  pub unknown : Applies limits lines line k reasons.UnknownKind → n ≤ 1
  pub misplaced : Applies limits lines line k reasons.Misplaced → n ≤ 2
  pub cell : (fault : CellFault) → Applies limits lines line k (reasons.Cell fault) → n ≤ 3
  pub number : (m : ℕ) → Applies limits lines line k (reasons.Number m) → n ≤ 4
  pub limit : (l : LimitKind) → Applies limits lines line k (reasons.Limit l) → n ≤ rank (reasons.Limit l)
  pub most : n ≤ 8

pub least_of : (limits : LimitValues) (lines : List (List ℕ)) (line : List ℕ) (k n : ℕ) → Least limits lines line k n
    → (other : Reason) → Applies limits lines line k other → n ≤ rank other
least_of limits lines line k n l reasons.UnknownKind a = l.unknown a
least_of limits lines line k n l reasons.Misplaced a = l.misplaced a
least_of limits lines line k n l (reasons.Cell fault) a = l.cell fault a
least_of limits lines line k n l (reasons.Number m) a = l.number m a
least_of limits lines line k n l (reasons.Limit x) a = l.limit x a
least_of limits lines line k n l reasons.Excess a = l.most

pub over_four : (l : LimitKind) → 4 ≤ rank (reasons.Limit l)
over_four limit_kinds.Records = lit≤ tt
over_four limit_kinds.Groups = lit≤ tt
over_four limit_kinds.Transaction = lit≤ tt

to_eight : (l : LimitKind) → rank (reasons.Limit l) ≤ 8
to_eight limit_kinds.Records = lit≤ tt
to_eight limit_kinds.Groups = lit≤ tt
to_eight limit_kinds.Transaction = lit≤ tt

pub known_kind : (kind : Kind) (o : Option Kind) → o ≡ Some kind → o ≡ None → ⊥
known_kind kind o e n = no (sym n ∙ e)
  where
    no : None ≡ Some kind → ⊥
    no q = cc q

-- ---- no record of the kind may come

-- some transmission begins so, where a limit bars
some_any : (limits : LimitValues) (xs cs : List Symbol) (l : LimitKind)
    → IsBarredFirst limits (ContinuesWith xs cs) (bars.Limit l) → ContinuesWith xs cs Any
some_any limits xs cs limit_kinds.Records b = b.0
some_any limits xs cs limit_kinds.Groups b = any_with (KeepsTo limit_kinds.Records limits) xs cs b.0
some_any limits xs cs limit_kinds.Transaction b = any_with (KeepsTo limit_kinds.Records limits) xs cs b.0

-- no limit before the first one bars
first_limit : (limits : LimitValues) (xs cs : List Symbol) (l other : LimitKind)
    → IsBarredFirst limits (ContinuesWith xs cs) (bars.Limit l) → BarsWith limits xs cs (bars.Limit other)
    → rank (reasons.Limit l) ≤ rank (reasons.Limit other)
first_limit limits xs cs limit_kinds.Records limit_kinds.Records b q = lit≤ tt
first_limit limits xs cs limit_kinds.Records limit_kinds.Groups b q = lit≤ tt
first_limit limits xs cs limit_kinds.Records limit_kinds.Transaction b q = lit≤ tt
first_limit limits xs cs limit_kinds.Groups limit_kinds.Records b q = absurd (q b.0)
first_limit limits xs cs limit_kinds.Groups limit_kinds.Groups b q = lit≤ tt
first_limit limits xs cs limit_kinds.Groups limit_kinds.Transaction b q = lit≤ tt
first_limit limits xs cs limit_kinds.Transaction limit_kinds.Records b q = absurd (q b.0)
first_limit limits xs cs limit_kinds.Transaction limit_kinds.Groups b q = absurd (q b.1)
first_limit limits xs cs limit_kinds.Transaction limit_kinds.Transaction b q = lit≤ tt

-- where the first of some bars holds, and neither a cell's fault nor a number does, its reason is the first
pub reason_of_bar : (limits : LimitValues) (records : List RecordValue) (lines : List (List ℕ)) (h : HeldLine) (line : List ℕ)
    (kind : Kind) (k : ℕ) (bar : Bar) → FollowsLines records lines h line kind
    → IsBarredFirst limits (ContinuesWith (map symbol_of records) (names kind h k)) bar
    → ((fault : CellFault) → ¬ Applies limits lines line k (reasons.Cell fault))
    → (ContinuesWith (map symbol_of records) (names kind h k) Any → (m : ℕ) → ¬ Applies limits lines line k (reasons.Number m))
    → IsReason limits lines line k (bar_reason bar)
reason_of_bar limits records lines h line kind k bar f b no_fault type_has_no_number = (
  applies_bar limits records lines h line kind k bar f (first_bars limits (map symbol_of records) (names kind h k) bar b),
  least_of limits lines line k (rank (bar_reason bar)) (by bar b),
)
  where
    by : (x : Bar) → IsBarredFirst limits (ContinuesWith (map symbol_of records) (names kind h k)) x
        → Least limits lines line k (rank (bar_reason x))
    by bars.Misplaced q = record {
      unknown = λ a. absurd (known_kind kind (line_kind line) (kind_of_line f) a);
      misplaced = λ a. lit≤ tt;
      cell = λ fault a. lit≤ tt;
      number = λ m a. lit≤ tt;
      limit = λ l a. omega (arith, over_four l);
      most = lit≤ tt;
    }
    by (bars.Limit l) q =
        let any = some_any limits (map symbol_of records) (names kind h k) l q in
        record {
          unknown = λ a. absurd (known_kind kind (line_kind line) (kind_of_line f) a);
          misplaced = λ a. absurd (bar_applies limits records lines h line kind k bars.Misplaced f a any);
          cell = λ fault a. absurd (no_fault fault a);
          number = λ m a. absurd (type_has_no_number any m a);
          limit =
              λ other a. first_limit limits (map symbol_of records) (names kind h k) l other q
              (bar_applies limits records lines h line kind k (bars.Limit other) f a);
          most = to_eight l;
        }

-- at the record type
pub reason_at_type : (limits : LimitValues) (records : List RecordValue) (lines : List (List ℕ)) (h : HeldLine) (line : List ℕ)
    (kind : Kind) (bar : Bar) → FollowsLines records lines h line kind
    → IsBarredAmong limits (map symbol_of records) (candidates (Some kind) []) bar → IsReason limits lines line 1 (bar_reason bar)
reason_at_type limits records lines h line kind bar f b =
    reason_of_bar limits records lines h line kind 1 bar f (subst
    (λ (cs : List Symbol). IsBarredFirst limits (ContinuesWith (map symbol_of records) cs) bar)
    (sym (first_names kind (held_cells h))) b) no_fault none
  where
    field_is : (g : FieldLayout) → field_of line 1 ≡ Some g → field_at kind 1 ≡ Some g
    field_is g e = sym (ap (option_and_then (λ known. field_at known 1)) (kind_of_line f)) ∙ e

    no_fault : (fault : CellFault) → ¬ Applies limits lines line 1 (reasons.Cell fault)
    no_fault fault (g, at, has) = has.0 (type_holds kind line g (kind_of_line f) (field_is g at))

    none : ContinuesWith (map symbol_of records) (names kind h 1) Any → (m : ℕ) → ¬ Applies limits lines line 1 (reasons.Number m)
    none any m (g, at, derived, belongs, other) =
        let among =
        subst (λ (sets : List (List Symbol)). ContinuesAmong Any sets) (sym (seen_are records lines h line kind 1 f))
        (with_among Any records lines (names kind h 1) f.in_order f.rows any) in
        no_some m (sym (type_has_no_number kind (slice_index_or (numbers_of (lengths_of among.0)) (length lines) []))
        ∙ belongs among.0 kind among.1 among.3 (kind_of_line f))
      where
        no_some : (n : ℕ) → None ≡ Some n → ⊥
        no_some n e = cc e

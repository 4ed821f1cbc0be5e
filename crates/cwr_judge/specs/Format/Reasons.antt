-- Why nothing continues from a line's first k cells.
use Rattle.std.specs.Prelude.{◌≡◌, ◌≢◌, ℕ, ◌-◌, ◌≤◌, IsTrue, List, [], ◌∷◌, ◌++◌, length, map, take, Option, Some, None}
use Rattle.std.specs.Prelude.{slice_index_or, option_and_then}
use Rattle.cwr_fields.specs.Format.Bytes.{digits}
use Rattle.cwr_fields.specs.Format.Cells.{HasFault}
use Rattle.cwr_fields.specs.declared.kinds.Kind.{Kind}
use Rattle.cwr_fields.specs.Format.Layouts.{FieldLayout, field_at}
use Rattle.cwr_lines.specs.Format.Lines.{line_kind, line_cells, has_bad_excess}
use Rattle.cwr_shape.specs.declared.symbols.Symbol.{Symbol}
use Rattle.cwr_shape.specs.declared.limits.Limits.{Limits}
use Rattle.cwr_shape.specs.declared.limits.LimitKind.TheVariants as limit_kinds
use Rattle.cwr_shape.specs.declared.reasons.Reason.{Reason}
use Rattle.cwr_shape.specs.declared.reasons.Reason.TheVariants.{UnknownKind, Misplaced, Cell, Number, Limit, Excess}
use Rattle.cwr_shape.specs.Format.Outlines.{GroupOutline, IsOutline}
use Rattle.cwr_shape.specs.Format.Numbers.{numbers_of, lengths_of, number_in}
use Rattle.cwr_shape.specs.Format.Candidates.{candidates, BeginsAmong}
use Rattle.cwr_shape.specs.declared.tallies.Bar.TheVariants as bars
use Rattle.cwr_shape.specs.Format.Bars.{Bars}
use Rattle.cwr_judge.specs.Format.Places.{last_place}

-- the symbols that the lines may have, the last one by its first k cells
abbrev pub line_candidates : List (List ℕ) → List ℕ → ℕ → List (List Symbol)
line_candidates before line k =
    map (λ b. candidates (line_kind b) (line_cells b)) before ++ candidates (line_kind line) (take k (line_cells line)) ∷ []

-- field k of the line's kind, where the kind is known and has one
abbrev pub field_of : List ℕ → ℕ → Option FieldLayout
field_of line k = option_and_then (λ kind. field_at kind k) (line_kind line)

-- the cell in field k of the line
abbrev pub cell_of : List ℕ → ℕ → List ℕ
cell_of line k = slice_index_or (line_cells line) (k - 1) []

-- in each transmission that continues so, the number in field k of that line is n
abbrev pub IsNumber : List (List ℕ) → List ℕ → ℕ → ℕ → Type 0
IsNumber before line k n =
    (groups : List GroupOutline) (kind : Kind) → IsOutline groups → BeginsAmong (line_candidates before line k) groups
    → line_kind line ≡ Some kind
    → number_in kind k (slice_index_or (numbers_of (lengths_of groups)) (length before) []) ≡ Some n

-- the reason holds at field k of the line after these lines
abbrev pub Applies : Limits → List (List ℕ) → List ℕ → ℕ → Reason → Type 0
Applies limits before line k UnknownKind = line_kind line ≡ None
Applies limits before line k Misplaced = Bars limits (line_candidates before line k) bars.Misplaced
Applies limits before line k (Cell fault) = (f : FieldLayout) × (field_of line k ≡ Some f) × HasFault f.ty (cell_of line k) fault
Applies limits before line k (Number n) =
    (f : FieldLayout) × (field_of line k ≡ Some f) × IsTrue f.derived × IsNumber before line k n
    × (cell_of line k ≢ digits f.width n)
Applies limits before line k (Limit limit) = Bars limits (line_candidates before line k) (bars.Limit limit)
Applies limits before line k Excess = (k ≡ last_place (line_kind line)) × IsTrue (has_bad_excess line)

-- the order of the reasons
abbrev pub rank : Reason → ℕ
rank UnknownKind = 1
rank Misplaced = 2
rank (Cell fault) = 3
rank (Number n) = 4
rank (Limit limit_kinds.Records) = 5
rank (Limit limit_kinds.Groups) = 6
rank (Limit limit_kinds.Transaction) = 7
rank Excess = 8

-- the first reason that holds
abbrev pub IsReason : Limits → List (List ℕ) → List ℕ → ℕ → Reason → Type 0
IsReason limits before line k reason =
    Applies limits before line k reason × ((other : Reason) → Applies limits before line k other → rank reason ≤ rank other)

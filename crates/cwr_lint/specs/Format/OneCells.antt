-- A text that differs from a good one in one derived cell.
use Rattle.std.specs.Prelude.{◌≡◌, ◌≢◌, ℕ, ◌-◌, ◌≤◌, true, false, IsFalse, List, ◌∷◌, ◌++◌, [], Some, slice_get}
use Rattle.std.specs.List.{AllZip, flat_map, list_any}
use Rattle.cwr_fields.specs.declared.kinds.Kind.{Kind}
use Rattle.cwr_fields.specs.Format.Layouts.{FieldLayout, field_at}
use Rattle.cwr_lines.specs.Format.Lines.{IsLineOf, closed, has_bad_excess, is_lf, line_cells, line_kind}
use Rattle.cwr_shape.specs.declared.limits.Limits.{Limits}
use Rattle.cwr_shape.specs.Format.Ranges.{AreInRange}
use Rattle.cwr_values.specs.Format.Rows.{rows}
use Rattle.cwr_values.specs.Format.Values.{TransmissionValue, IsTransmission, FitsIn}
use Rattle.cwr_judge.specs.Format.Ends.{IsNotAccepted, IsTruncated}

-- The text begins with the lines of a transmission within the limits, but for one line, which has another cell in field k, a number's, and
-- every other cell as it should be.
pub record DiffersInOneCell (limits : Limits) (text : List ℕ) (before : List (List ℕ)) (wrong : List ℕ) (kind : Kind)
    (k : ℕ) : Type 0 where
  pub range : AreInRange limits
  pub value : TransmissionValue
  pub whole : IsTransmission value
  pub within : FitsIn limits value
  pub right : List ℕ
  pub after : List (List ℕ)
  pub rest : List ℕ
  pub lines : AllZip IsLineOf (rows value) (before ++ right ∷ after)
  pub text_is : closed text ≡ flat_map (λ line. line ++ 10 ∷ []) (before ++ wrong ∷ after) ++ rest
  pub no_lf : IsFalse (list_any is_lf wrong)
  pub right_kind : line_kind right ≡ Some kind
  pub wrong_kind : line_kind wrong ≡ Some kind
  pub excess : has_bad_excess wrong ≡ false
  pub field : FieldLayout
  pub from : 2 ≤ k
  pub found : field_at kind k ≡ Some field
  pub derived : field.derived ≡ true
  pub elsewhere : (j : ℕ) → j ≢ k → slice_get (line_cells wrong) (j - 1) ≡ slice_get (line_cells right) (j - 1)
  pub other : slice_get (line_cells wrong) (k - 1) ≢ slice_get (line_cells right) (k - 1)

-- Where a text differs from a good one in one derived cell, it is neither accepted nor truncated.
abbrev pub OneCellIsRefused : Type 0
OneCellIsRefused =
    (limits : Limits) (text : List ℕ) (before : List (List ℕ)) (wrong : List ℕ) (kind : Kind) (k : ℕ)
    → DiffersInOneCell limits text before wrong kind k
    → IsNotAccepted limits text × ((n : ℕ) → ¬ IsTruncated limits text n)

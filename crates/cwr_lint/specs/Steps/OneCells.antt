-- What is told of a text that differs from a good one in one derived cell.
use Rattle.std.specs.Prelude.{◌≡◌, ◌⊎◌, ℕ, ◌+◌, ◌-◌, ◌^◌, ◌<◌, ◌≤◌, Bool, false, List, [], length, Option, Some}
use Rattle.std.specs.Io.KnownBytes.{Consumes, IsAtEnd}
use Rattle.cwr_lint.specs.Format.FaultsOfLines.{Asking}
use Rattle.cwr_fields.specs.declared.kinds.Kind.{Kind}
use Rattle.cwr_shape.specs.declared.limits.Limits.{Limits}
use Rattle.cwr_shape.specs.Steps.Tallies.{TallyValue}
use Rattle.cwr_judge.specs.declared.refusals.Refusal.{Refusal}
use Rattle.cwr_judge.specs.Format.Ends.{IsRefused}
use Rattle.cwr_lint.specs.Format.OneCells.{DiffersInOneCell}
use Rattle.cwr_lint_lines.specs.Steps.Fronts.{state_at}
use Rattle.cwr_lint.specs.Steps.Lints.{AreLinesRead}
use Rattle.cwr_lint.specs.Steps.Walks.{IsTold, begins_at}

-- Where a text shorter than 2^64-1 bytes differs from a good one in one derived cell, it is refused at that cell, and what is told of it tells no
-- other fault.
abbrev pub OneCellIsTold : Type 0
OneCellIsTold =
    (asked : Asking) (limits : Limits) (text : List ℕ) (left : Option (List ℕ)) (refusal : Refusal) (tally : TallyValue)
    (found : ℕ) (advice : List ℕ) (refused : List ℕ) (lines : List (List ℕ)) (last over : Bool) (bytes written : List ℕ)
    → (before : List (List ℕ)) (wrong : List ℕ) (kind : Kind) (k : ℕ) → DiffersInOneCell limits text before wrong kind k
    → length text < 2 ^ 64 - 1 → IsRefused limits text refusal
    → Consumes (Some text) left bytes → AreLinesRead refusal tally last bytes refused lines
    → (last ≡ false → IsAtEnd left ⊎ (2 ^ 64 - 1 ≤ length text))
    → (told : IsTold asked (begins_at (state_at tally.stage tally.counts (refusal.rec - 1)) found advice) refusal refused lines over
    written)
    → (refusal.rec ≡ length before + 1) × (refusal.field ≡ k) × (told.others ≡ []) × (told.later ≡ [])

-- Behind the last field of a record there is no cell.
use Rattle.std.proofs.Common.{◌≡◌, ℕ, suc, ◌+◌, ◌≤◌, false, [], length, ap, ◌∙◌, arith}
use Rattle.std.specs.Prelude.{Option, Some, None, slice_get, unwrap_or, if◌then◌else◌}
use Rattle.std.specs.Option.{option_and_then}
use Rattle.std.proofs.lemmas.Bool.{and_left, and_right}
use Rattle.cwr_fields.specs.Format.Bytes.{is_spaces}
use Rattle.std.proofs.lemmas.Option.{slice_get_past}
use Rattle.cwr_lines.specs.Format.Carried.{carried_at, carried_before}
use Rattle.cwr_fields.specs.Format.Layouts.{FieldLayout, layout}
use Rattle.cwr_lines.specs.Format.Records.{RecordValue}
use Rattle.cwr_advice.specs.Format.Rules.{cell_at, is_share, is_shifted, lacks_society}
use Rattle.cwr_advice.specs.Format.Shifts.{begins_with_letter, ends_with_letter}

none_behind : (r : RecordValue) (j : ℕ) → length (layout r.kind) ≤ j → cell_at r (j + 1) ≡ []
none_behind r j end =
    let next : j + 1 ≡ suc j = omega arith in
    let none : carried_at r.kind (suc j) ≡ None =
    ap (option_and_then (λ (f : FieldLayout). if f.derived then None else Some f)) (slice_get_past (layout r.kind) j end) in
    ap (cell_at r) next ∙ ap (λ (o : Option FieldLayout). unwrap_or
    (option_and_then (λ (_ : FieldLayout). slice_get r.cells (carried_before r.kind (suc j))) o) []) none

-- so the last one goes on nowhere
pub last_ends : (r : RecordValue) (j : ℕ) → length (layout r.kind) ≤ j → is_shifted r j ≡ false
last_ends r j end = and_left _ _ (and_right (ends_with_letter (cell_at r j)) _ (ap begins_with_letter (none_behind r j end)))

-- and no share stands behind it
pub none_owned_behind : (r : RecordValue) (j : ℕ) → length (layout r.kind) ≤ j → lacks_society r j ≡ false
none_owned_behind r j end = and_right (is_spaces (cell_at r j)) _ (ap is_share (none_behind r j end))

-- What a line shows of records that may have come into the transaction or the group before theirs.
use Rattle.std.specs.Prelude.{ℕ, ◌==◌, Bool, false, List, Option, Some, None, option_and_then, slice_index, if◌then◌else◌}
use Rattle.cwr_fields.specs.declared.kinds.Kind.{Kind}
use Rattle.cwr_fields.specs.declared.kinds.Kind.TheVariants.{Grh, Grt, Trl}
use Rattle.cwr_fields.specs.Format.Kinds.{is_in_transaction}
use Rattle.cwr_lines.specs.Steps.Held.{HeldLine, held_cell, held_kind}
use Rattle.cwr_renumber.specs.declared.jumps.Counting.{Counting}
use Rattle.cwr_renumber.specs.Format.Jumps.{closed_jump, is_mixed_by, jump_of, number_in}

-- the number in a cell of the line, where it is one
abbrev pub number_at : HeldLine → ℕ → Option ℕ
number_at h j = option_and_then number_in (held_cell h j)

-- A line of the kind shows it, in which these numbers belong, after GRH with that ID and these sequences: GRT has another ID, or the sequences
-- of a record in mid-transaction don't go on.
abbrev pub mixes_as : Option Kind → Option ℕ → Counting → HeldLine → List ℕ → Bool
mixes_as None opened before h numbers = false
mixes_as (Some Grh) opened before h numbers = false
mixes_as (Some Grt) opened before h numbers = is_mixed_by (closed_jump opened (number_at h 2))
mixes_as (Some Trl) opened before h numbers = false
mixes_as (Some this_kind) opened before h numbers =
    if is_in_transaction this_kind
    then is_mixed_by (jump_of before (slice_index numbers 1 == 0) (number_at h 2) (number_at h 3)) else false

abbrev pub mixes : Option ℕ → Counting → HeldLine → List ℕ → Bool
mixes opened before h numbers = mixes_as (held_kind h) opened before h numbers

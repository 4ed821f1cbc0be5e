-- The first lines that explain a refusal: where, in which work and in which field, what stands there, and what a wrong number points to.
use Rattle.std.specs.Prelude.{ℕ, ◌==◌, ◌&&◌, not, Bool, false, List, [], ◌++◌, Option, None, Some, if◌then◌else◌}
use Rattle.cwr_fields.specs.declared.kinds.Kind.{Kind}
use Rattle.cwr_shape.specs.declared.reasons.Reason.{Reason}
use Rattle.cwr_shape.specs.declared.reasons.Reason.TheVariants as reasons
use Rattle.cwr_causes.specs.declared.sequences.RecordNumbers.{RecordNumbers}
use Rattle.cwr_causes.specs.Format.Handling.{is_separated}
use Rattle.cwr_causes.specs.Format.Misplacements.{numbers_before, numbers_in, numbers_of}
use Rattle.cwr_causes.specs.Format.Refusals.{RefusedLine, field_words, found_words, number_points_words, where_words}
use Rattle.cwr_causes.specs.Format.RefusedWorks.{shown_line}
use Rattle.cwr_causes.specs.Format.Sequences.{sequence_in}
use Rattle.cwr_causes.specs.Format.WrongNumbers.{is_header, is_one_more}

-- by their sequences two lines are of two transactions
abbrev pub are_apart : Option RecordNumbers → Option RecordNumbers → Bool
are_apart (Some before) (Some here) = not (here.transaction == before.transaction)
are_apart before here = false

-- By its sequences a line that isn't in its place is of another transaction than the line before, or its transaction sequence is one more
-- than that of its transaction's header: then it isn't known whose it is. A header names its own work.
abbrev pub is_of_other : RefusedLine → Reason → Option Kind → Bool
is_of_other r reasons.Misplaced (Some this_kind) =
    not (is_header this_kind) && are_apart (numbers_before r.before) (numbers_of (Some this_kind) r.bytes)
is_of_other r (reasons.Number expected) (Some this_kind) =
    not (is_header this_kind) && ((r.refusal.field == 2) && is_one_more (sequence_in 3 r.bytes) expected)
is_of_other r reasons.UnknownKind this_kind = are_apart (numbers_before r.before) (numbers_in r.bytes)
is_of_other r reason this_kind = false

-- the line on its work, where that is known
abbrev pub work_words : RefusedLine → List ℕ
work_words r = if is_of_other r r.refusal.reason r.kind then [] else shown_line r.work

-- what a wrong number points to, where the line's cells stand in their places
abbrev pub numbers_words : RefusedLine → Option (List ℕ) → List ℕ
numbers_words r cell = if is_separated r.bytes then [] else number_points_words r cell

-- where, in which work and in which field the line is refused, what stands there, and what a wrong number points to
unfoldable pub head_words : RefusedLine → Option (List ℕ) → List ℕ
head_words r cell = where_words r ++ work_words r ++ field_words r ++ found_words r cell ++ numbers_words r cell

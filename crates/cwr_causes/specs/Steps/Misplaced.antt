-- What a misplaced line points to, with the records after which it may stand.
use Rattle.std.specs.Prelude.{ℕ, ◌&&◌, ◌++◌, not, List, [], Option, Some, if◌then◌else◌}
use Rattle.cwr_fields.specs.declared.kinds.Kind.{Kind}
use Rattle.cwr_fields.specs.Format.Kinds.{letters}
use Rattle.cwr_shape.specs.declared.reasons.Reason.{Reason}
use Rattle.cwr_shape.specs.declared.reasons.Reason.TheVariants as reasons
use Rattle.cwr_shape.specs.declared.stages.Stage.{Stage}
use Rattle.cwr_causes.specs.declared.misplaced_words.LinePlace.{LinePlace}
use Rattle.cwr_causes.specs.declared.misplacements.Misplacement.{Misplacement}
use Rattle.cwr_causes.specs.Format.MisplacedTexts.{are_roles_asked, misplacement_words, mistyped_words, role_words}
use Rattle.cwr_causes.specs.Format.Misplacements.{belongs, misplacement_of, numbers_before, numbers_in, numbers_of}
use Rattle.cwr_causes.specs.Format.Openings.{is_of_societies}
use Rattle.cwr_causes.specs.Format.Refusals.{RefusedLine}
use Rattle.cwr_causes.specs.Format.Wanted.{another_type_words, is_other_header, stands_twice, twice_words}
use Rattle.cwr_causes.specs.Steps.Coming.{closes_at, letting_at, preceding_at}

-- what a line of the kind in that place shows, where the records before have come to that stage
unfoldable pub misplaced_text : Option Stage → Kind → LinePlace → Misplacement → List ℕ
misplaced_text stage this_kind place shown =
    misplacement_words (letters this_kind) place (letting_at stage this_kind) (preceding_at stage this_kind) shown

-- the same, and which roles a block of an agreement has
abbrev pub misplaced_by : Option Stage → Kind → LinePlace → Misplacement → List ℕ
misplaced_by stage this_kind place shown =
    misplaced_text stage this_kind place shown ++ role_words (are_roles_asked stage shown)

-- what it and the line before it show
abbrev pub shown_by : Option Stage → RefusedLine → Kind → Misplacement
shown_by stage r this_kind =
    misplacement_of stage this_kind (numbers_before r.before) (numbers_of (Some this_kind) r.bytes) (closes_at stage)

-- what a misplaced line of the kind points to
abbrev pub misplaced_words : Option Stage → RefusedLine → Kind → List ℕ
misplaced_words stage r this_kind =
    if stands_twice r.before r.bytes then twice_words
    else (if is_other_header stage this_kind then another_type_words stage (belongs stage (numbers_before r.before) (numbers_in r.bytes)) this_kind
    else misplaced_by stage this_kind (record { offset = r.offset; is_later = r.is_later }) (shown_by stage r this_kind))

-- what a line points to that is misplaced or names no record
abbrev pub order_words : Option Stage → RefusedLine → Reason → Option Kind → List ℕ
order_words stage r reasons.Misplaced (Some this_kind) = misplaced_words stage r this_kind
order_words stage r reasons.UnknownKind this_kind =
    mistyped_words (belongs stage (numbers_before r.before) (numbers_in r.bytes) && not (is_of_societies r.bytes))
order_words stage r reason this_kind = []

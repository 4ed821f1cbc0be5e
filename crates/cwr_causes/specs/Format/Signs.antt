-- What else a refused line shows, in notes.
use Rattle.std.specs.Prelude.{ℕ, ◌+◌, ◌-◌, ◌==◌, Bool, false, if◌then◌else◌, List, [], ◌∷◌, ◌++◌, codes, decimal, length, position, take, Option, None, Some}
use Rattle.std.specs.List.{concat}
use Rattle.cwr_shape.specs.declared.reasons.Reason.{Reason}
use Rattle.cwr_shape.specs.declared.reasons.Reason.TheVariants as reasons
use Rattle.cwr_causes.specs.Format.Texts.{label_words}
use Rattle.cwr_causes.specs.Format.GluedLines.{glued_text, glued_words}
use Rattle.cwr_causes.specs.Format.LongLines.{long_id_words}
use Rattle.cwr_causes.specs.Format.LostBlocks.{lost_block, lost_block_line}
use Rattle.cwr_causes.specs.Format.Misplacements.{numbers_of}
use Rattle.cwr_causes.specs.Format.Openings.{is_packed, moved_by, moved_version_line, opening_of, opening_words, version_words}
use Rattle.cwr_causes.specs.Format.Refusals.{RefusedLine, up_to_largest, without_return}
use Rattle.cwr_causes.specs.Format.Shifts.{is_moved, shift_words}
use Rattle.cwr_causes.specs.Format.TruncatedTexts.{cut_off_words}
use Rattle.cwr_causes.specs.Format.WrappedLines.{broken_words}

-- which byte of a line is a carriage return, from 1
unfoldable pub return_line : ℕ → List ℕ
return_line number =
    concat
    (label_words (codes "note") ∷ codes "byte " ∷ decimal number
    ∷ codes " of the line is a carriage return without a line feed: lines end with LF, or with CR and LF\n" ∷ [])

abbrev pub return_at : Option ℕ → List ℕ
return_at None = []
return_at (Some at) = return_line (at + 1)

-- the first carriage return that isn't the last byte of the line
abbrev pub return_words : List ℕ → List ℕ
return_words line = return_at (position (λ b. b == 13) (take (length line - 1) line))

-- what stands first: what its beginning looks like, which version it names, and that a sender id is too long
unfoldable pub first_signs : RefusedLine → List ℕ
first_signs r =
    opening_words r.refusal.reason r.bytes r.refusal.rec ++ version_words r.kind r.bytes ++ long_id_words r.kind r.bytes

-- that its cells may stand elsewhere, or a mail program broke it, which is said with the first fault of a line
abbrev pub moved_signs : RefusedLine → List ℕ
moved_signs r = shift_words r.kind r.refusal.field r.before (without_return r) ++ broken_words r

-- or that what stood between its front and its rest was lost
abbrev pub signs_or_block : RefusedLine → Option (List ℕ) → List ℕ
signs_or_block r None = moved_signs r
signs_or_block r (Some found) = lost_block_line (up_to_largest (length r.bytes - length found + 2))

-- or that a header's version stands further left
abbrev pub signs_by : RefusedLine → ℕ → List ℕ
signs_by r moved =
    if moved == 0 then signs_or_block r (lost_block (numbers_of r.kind r.bytes) r.bytes) else moved_version_line (60 - moved)

abbrev pub cells_signs : RefusedLine → List ℕ
cells_signs r = if r.is_too_long then [] else signs_by r (moved_by r.kind (without_return r))

abbrev pub whole_line_of : RefusedLine → Option (List ℕ) → List ℕ
whole_line_of r None = cells_signs r
whole_line_of r (Some text) = glued_words r text

-- or, where another line begins in it, that
unfoldable pub whole_line_signs : RefusedLine → List ℕ
whole_line_signs r = whole_line_of r (glued_text r)

-- with a further fault of a line of which the cells may stand elsewhere, that it may come of that
unfoldable pub follows_line : List ℕ
follows_line = label_words (codes "note") ++ codes "this may come of the fault before it in this line: mend that first, and look again\n"

abbrev pub further_signs : RefusedLine → List ℕ
further_signs r = if is_moved r.kind r.before (without_return r) then follows_line else []

abbrev pub shift_signs : RefusedLine → List ℕ
shift_signs r = if r.is_first then whole_line_signs r else further_signs r

-- the line names no record and begins a file that is no text of one byte a character
abbrev pub is_packed_by : Reason → List ℕ → Bool
is_packed_by reasons.UnknownKind line = is_packed (opening_of line)
is_packed_by reason line = false

-- a carriage return within it, and that it may have been cut off
unfoldable pub text_signs : RefusedLine → List ℕ
text_signs r = return_words r.bytes ++ cut_off_words r.bytes r.ended r.kind

-- what stands last, where it is text
abbrev pub end_signs : RefusedLine → List ℕ
end_signs r = if is_packed_by r.refusal.reason r.bytes then [] else text_signs r

-- all notes on the line
unfoldable pub signs_words : RefusedLine → List ℕ
signs_words r = first_signs r ++ shift_signs r ++ end_signs r

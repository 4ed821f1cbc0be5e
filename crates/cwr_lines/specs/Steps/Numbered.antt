-- A line with its numbers put in, part by part.
use Rattle.std.specs.Prelude.{ℕ, ◌+◌, List, [], ◌∷◌, ◌++◌, length, take, drop, slice_index, Bool, true, false, Option, Some, None}
use Rattle.cwr_fields.specs.Format.Bytes.{digits}
use Rattle.cwr_fields.specs.declared.kinds.Kind.{Kind}
use Rattle.cwr_fields.specs.declared.kinds.Kind.TheVariants.{Hdr, Grh, Grt, Trl}
use Rattle.cwr_fields.specs.Format.Layouts.{line_width}
use Rattle.cwr_lines.specs.Steps.Held.{HeldLine, ended_too_long, filled_as, held_body, held_excess, held_kind}

-- what a line of the kind has after its record type, with these numbers in the place of its own
abbrev pub numbered_part : Kind → List ℕ → List ℕ → List ℕ
numbered_part Hdr numbers line = drop 3 line
numbered_part Grh numbers line = take 3 (drop 3 line) ++ (digits 5 (slice_index numbers 0) ++ drop 11 line)
numbered_part Grt numbers line =
    digits 5 (slice_index numbers 0) ++ (digits 8 (slice_index numbers 1) ++ (digits 8 (slice_index numbers 2) ++ drop 24 line))
numbered_part Trl numbers line =
    digits 5 (slice_index numbers 0) ++ (digits 8 (slice_index numbers 1) ++ (digits 8 (slice_index numbers 2) ++ drop 24 line))
numbered_part this_kind numbers line = digits 8 (slice_index numbers 0) ++ (digits 8 (slice_index numbers 1) ++ drop 19 line)

-- the text with the part in the place of as many of its bytes, from byte `start` on
abbrev pub with_part : ℕ → List ℕ → List ℕ → List ℕ
with_part start part text = take start text ++ (part ++ drop (start + length part) text)

-- a line of the kind with these numbers in the place of its own; a line of unknown kind has none
abbrev pub numbered_as : Option Kind → List ℕ → List ℕ → List ℕ
numbered_as None numbers line = line
numbered_as (Some this_kind) numbers line = take 3 line ++ numbered_part this_kind numbers line

-- what is set of a line of the kind: its cells, and where its excess is bad that too
abbrev pub set_as : Option Kind → Bool → List ℕ → List ℕ
set_as None excess line = line
set_as (Some this_kind) true line = line
set_as (Some this_kind) false line = take (line_width this_kind) line

abbrev pub set_text : HeldLine → List ℕ
set_text h = set_as (held_kind h) (held_excess h) (filled_as (held_kind h) (held_body h))

-- the line end; in the place of what a line that is too long has behind the longest line two bytes
abbrev pub line_end : Bool → List ℕ
line_end true = 43 ∷ 43 ∷ []
line_end false = 13 ∷ 10 ∷ []

-- the line with these numbers, and its end
abbrev pub renumbered : List ℕ → HeldLine → List ℕ
renumbered numbers h = numbered_as (held_kind h) numbers (set_text h) ++ line_end (ended_too_long h.ended)

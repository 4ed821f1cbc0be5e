-- A text with its numbers put right, line by line.
use Rattle.std.specs.Prelude.{ℕ, List, [], ◌∷◌, ◌++◌, take, Option, Some, None, option_and_then, unwrap_or, if◌then◌else◌}
use Rattle.cwr_fields.specs.declared.codes.TransactionType.{TransactionType}
use Rattle.cwr_fields.specs.declared.codes.TransactionType.TheVariants.{Acknowledgement}
use Rattle.cwr_fields.specs.declared.kinds.Kind.{Kind}
use Rattle.cwr_fields.specs.declared.kinds.Kind.TheVariants as kinds
use Rattle.cwr_lines.specs.declared.lines.LineEnd.TheVariants.{Line, Over}
use Rattle.cwr_lines.specs.Format.Lines.{is_lf, is_too_long, longest_line}
use Rattle.cwr_lines.specs.Steps.Held.{HeldLine, ended_too_long, held_cell, held_kind}
use Rattle.cwr_lines.specs.Steps.Numbered.{renumbered}
use Rattle.cwr_shape.specs.declared.symbols.Symbol.{Symbol}
use Rattle.cwr_shape.specs.declared.symbols.Symbol.TheVariants.{Plain, Grh}
use Rattle.cwr_shape.specs.Format.Candidates.{type_in}
use Rattle.cwr_shape.specs.Format.ExpectedNumbers.{expected_numbers}
use Rattle.cwr_shape.specs.Steps.Numberings.{NumberingValue, no_records, numbering_with, three_numbers}

-- ---- the lines of a text

-- the byte before the first segment, which it begins or joins
abbrev pub joined_to : ℕ → List (List ℕ) → List (List ℕ)
joined_to b [] = (b ∷ []) ∷ []
joined_to b (s ∷ segments) = (b ∷ s) ∷ segments

-- the lines of the text, each with its line feed; the last may have none
abbrev pub segments : List ℕ → List (List ℕ)
segments [] = []
segments (b ∷ text) = if is_lf b then ((b ∷ []) ∷ segments text) else joined_to b (segments text)

-- without a line feed at the end
abbrev pub without_lf : List ℕ → List ℕ
without_lf [] = []
without_lf (b ∷ segment) = if is_lf b then [] else (b ∷ without_lf segment)

-- the line as it is held
abbrev pub line_held : List ℕ → HeldLine
line_held line =
    if is_too_long line then (record { bytes = take longest_line line; ended = Over }) else
    (record { bytes = line; ended = Line })

-- ---- their numbers

-- the type that a line of GRH names, and that of acknowledgements where it names none
abbrev pub type_named : HeldLine → TransactionType
type_named h = unwrap_or (option_and_then type_in (held_cell h 2)) Acknowledgement

-- what a line of the kind counts as
abbrev pub counted_as : Kind → HeldLine → Symbol
counted_as kinds.Grh h = Grh (type_named h)
counted_as this_kind h = Plain this_kind

abbrev pub numbering_by : Option Kind → NumberingValue → HeldLine → NumberingValue
numbering_by None n h = n
numbering_by (Some this_kind) n h = numbering_with n (counted_as this_kind h)

-- what is counted with the line; one of unknown kind isn't
abbrev pub numbering_after : NumberingValue → HeldLine → NumberingValue
numbering_after n h = numbering_by (held_kind h) n h

abbrev pub numbers_by : Option Kind → NumberingValue → List ℕ
numbers_by None n = 0 ∷ 0 ∷ 0 ∷ []
numbers_by (Some this_kind) n = three_numbers (expected_numbers n.ty n.counts this_kind)

-- the line with the numbers that belong in it
abbrev pub line_by : NumberingValue → HeldLine → List ℕ
line_by n h = renumbered (numbers_by (held_kind h) n) h

-- The lines from here on, each with the numbers that belong in it by those before. After a line that is too long there is none.
abbrev pub renumber_from : NumberingValue → List (List ℕ) → List ℕ
renumber_from n [] = []
renumber_from n (s ∷ later) =
    let h =
    line_held (without_lf s) in line_by n h ++ (if ended_too_long h.ended then [] else renumber_from (numbering_after n h) later)

-- what is left of a source in which so much of a line was taken
abbrev pub text_from : NumberingValue → List ℕ → List ℕ → List ℕ
text_from n held rest = renumber_from n (segments (held ++ rest))

-- the text with its numbers put right
abbrev pub renumbered_text : List ℕ → List ℕ
renumbered_text text = text_from no_records [] text

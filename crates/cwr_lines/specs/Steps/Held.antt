-- A line as far as it was taken, and what it is cut into.
use Rattle.std.specs.Prelude.{◌≡◌, ◌≢◌, ℕ, ◌-◌, ◌<◌, ◌≤◌, Bool, true, false, ◌==◌, IsFalse, List, [], ◌∷◌, ◌++◌, length, take}
use Rattle.std.specs.Prelude.{Option, Some, None, slice_get, slice_index, if◌then◌else◌}
use Rattle.std.specs.List.{list_any}
use Rattle.cwr_fields.specs.Format.Bytes.{filled, is_plain}
use Rattle.cwr_fields.specs.declared.kinds.Kind.{Kind}
use Rattle.cwr_lines.specs.declared.lines.LineEnd.{LineEnd}
use Rattle.cwr_lines.specs.declared.lines.LineEnd.TheVariants.{Open, Line, Over}
use Rattle.cwr_fields.specs.Format.Layouts.{line_width}
use Rattle.cwr_lines.specs.Format.Records.{RecordValue, record_of}
use Rattle.cwr_lines.specs.Format.Lines.{is_lf, longest_line, without_cr, body_kind, cells_as, excess_as, line_kind, line_cells}
use Rattle.cwr_lines.specs.Format.Lines.{has_bad_excess}

-- the bytes of a line before its line feed, and how it ended
pub record HeldLine : Type 0 where
  pub bytes : List ℕ
  pub ended : LineEnd

-- the line of which no byte was taken
abbrev pub empty_line : HeldLine
empty_line = record { bytes = []; ended = Open }

-- the text that was taken for the line: a line that ended by its line feed has that too
abbrev pub text_by : LineEnd → List ℕ → List ℕ
text_by Open bytes = bytes
text_by Line bytes = bytes ++ 10 ∷ []
text_by Over bytes = bytes

abbrev pub held_text : HeldLine → List ℕ
held_text h = text_by h.ended h.bytes

-- the line stopped before a byte too many
abbrev pub ended_too_long : LineEnd → Bool
ended_too_long Open = false
ended_too_long Line = false
ended_too_long Over = true

-- the bytes that are judged: a line that is too long keeps its last byte, and any other loses one carriage return at its end
abbrev pub body_by : LineEnd → List ℕ → List ℕ
body_by Open bytes = without_cr bytes
body_by Line bytes = without_cr bytes
body_by Over bytes = bytes

abbrev pub held_body : HeldLine → List ℕ
held_body h = body_by h.ended h.bytes

-- the kind of the line
abbrev pub held_kind : HeldLine → Option Kind
held_kind h = body_kind (held_body h)

-- the cells that the line is cut into
abbrev pub held_cells : HeldLine → List (List ℕ)
held_cells h = cells_as (held_kind h) (held_body h)

-- the excess of the line is bad
abbrev pub held_excess : HeldLine → Bool
held_excess h = excess_as (held_kind h) (ended_too_long h.ended) (held_body h)

-- cell j, from 1, of a line of the kind; a line of unknown kind has none
abbrev pub cell_as : Option Kind → List (List ℕ) → ℕ → Option (List ℕ)
cell_as None cells j = None
cell_as (Some this_kind) cells j = if j == 0 then None else slice_get cells (j - 1)

-- cell j of the line, from 1
abbrev pub held_cell : HeldLine → ℕ → Option (List ℕ)
held_cell h j = cell_as (held_kind h) (held_cells h) j

-- what the line's cells carry; a line of unknown kind carries nothing
abbrev pub carried_by : Option Kind → List (List ℕ) → Option RecordValue
carried_by None cells = None
carried_by (Some this_kind) cells = Some (record_of (record { kind = this_kind; cells = cells }))

abbrev pub held_record : HeldLine → Option RecordValue
held_record h = carried_by (held_kind h) (held_cells h)

-- a line that is too long was taken up to the longest
abbrev pub FillsLongest : LineEnd → ℕ → Type 0
FillsLongest Open count = Unit {0}
FillsLongest Line count = Unit {0}
FillsLongest Over count = count ≡ longest_line

-- a line has no line feed before its end, and no more bytes than the longest
pub record IsHeld (h : HeldLine) : Type 0 where
  pub no_lf : IsFalse (list_any is_lf h.bytes)
  pub short : length h.bytes ≤ longest_line
  pub full : FillsLongest h.ended (length h.bytes)

-- where taking stops: at the end of the piece, after a line feed, or before a byte too many that is no line feed
abbrev pub Stops : LineEnd → List ℕ → ℕ → Type 0
Stops Open piece used = used ≡ length piece
Stops Line piece used = 0 < used
Stops Over piece used = (used < length piece) × (slice_index piece used ≢ 10)

-- new is old with the first bytes of the piece, as many as were used
pub record Takes (old : HeldLine) (piece : List ℕ) (used : ℕ) (new : HeldLine) : Type 0 where
  pub within : used ≤ length piece
  pub text : held_text new ≡ old.bytes ++ take used piece
  pub stops : Stops new.ended piece used

-- what was taken is the line, or where that is too long its first bytes
abbrev pub HoldsBy : LineEnd → List ℕ → List ℕ → Type 0
HoldsBy Open bytes line = ⊥
HoldsBy Line bytes line = bytes ≡ line
HoldsBy Over bytes line = (longest_line < length line) × (bytes ≡ take longest_line line)

abbrev pub HoldsLine : HeldLine → List ℕ → Type 0
HoldsLine h line = HoldsBy h.ended h.bytes line

-- what was taken is cut as the line is
pub record IsCutAs (h : HeldLine) (line : List ℕ) : Type 0 where
  pub kind : held_kind h ≡ line_kind line
  pub cells : held_cells h ≡ line_cells line
  pub excess : held_excess h ≡ has_bad_excess line

-- ---- how a line is kept

-- the body filled up to its kind's width, so that each cell is a part of it
abbrev pub filled_as : Option Kind → List ℕ → List ℕ
filled_as None body = filled 3 body
filled_as (Some this_kind) body = filled (line_width this_kind) body

-- a carriage return, where there is one
abbrev pub return_if : Bool → List ℕ
return_if true = 13 ∷ []
return_if false = []

-- the line that is kept as the first bytes of a text, and perhaps a carriage return
abbrev pub line_kept : List ℕ → ℕ → Bool → LineEnd → HeldLine
line_kept text count has_return ended = record { bytes = take count text ++ return_if has_return; ended = ended }

-- the kind is the line's, and each cell of the line is a part of the text
pub record IsFilled (text : List ℕ) (kind : Option Kind) (h : HeldLine) : Type 0 where
  pub known : kind ≡ held_kind h
  pub parts : text ≡ filled_as kind (held_body h)

-- an open line is kept as it is, and one that ended is filled up
abbrev pub KeepsBy : LineEnd → List ℕ → ℕ → Bool → Option Kind → HeldLine → Type 0
KeepsBy Open text count has_return this_kind h = (count ≡ length text) × (has_return ≡ false)
KeepsBy Line text count has_return this_kind h = IsFilled text this_kind h
KeepsBy Over text count has_return this_kind h = IsFilled text this_kind h

-- a line buffer keeps a line
pub record IsKept (text : List ℕ) (count : ℕ) (has_return : Bool) (kind : Option Kind) (ended : LineEnd) : Type 0 where
  pub fits : count ≤ length text
  pub held : IsHeld (line_kept text count has_return ended)
  pub keeps : KeepsBy ended text count has_return kind (line_kept text count has_return ended)

-- a line that ended is kept
abbrev pub IsClosed : List ℕ → ℕ → Bool → Option Kind → LineEnd → Type 0
IsClosed text count has_return kind ended = IsKept text count has_return kind ended × (ended ≢ Open)

-- and where it is known to have no control byte, it has none
abbrev pub IsCut : List ℕ → ℕ → Bool → Option Kind → LineEnd → Bool → Type 0
IsCut text count has_return kind ended plain = IsClosed text count has_return kind ended × (plain ≡ true → is_plain text ≡ true)

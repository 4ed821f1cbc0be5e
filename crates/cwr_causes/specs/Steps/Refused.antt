-- A refused line as it is kept.
use Rattle.std.specs.Prelude.{◌≡◌, ℕ, ◌-◌, ◌^◌, ◌<◌, ◌==◌, ◌≤◌, Bool, true, false, List, [], ◌∷◌, ◌++◌, codes, length, IsFalse, IfSome, Option, None, Some, option_map, if◌then◌else◌}
use Rattle.std.specs.List.{concat, list_any}
use Rattle.cwr_lines.specs.Format.Lines.{is_lf, longest_line}
use Rattle.cwr_lines.specs.Format.Records.{RecordValue}
use Rattle.cwr_lines.specs.declared.lines.LineEnd.TheVariants.{Line}
use Rattle.cwr_lines.specs.Steps.Held.{held_cell}
use Rattle.cwr_decode.specs.declared.last_bytes.LastBytes.{LastBytes}
use Rattle.cwr_decode.specs.declared.readings.LastRead.{LastRead}
use Rattle.cwr_decode.specs.Steps.LastReads.{bytes_read}
use Rattle.cwr_judge.specs.declared.refusals.Refusal.{Refusal}
use Rattle.cwr_causes.specs.declared.ahead.Ahead.{Ahead}
use Rattle.cwr_causes.specs.declared.beyond.Beyond.{Beyond}
use Rattle.cwr_causes.specs.declared.beyond.FaultyLine.{FaultyLine}
use Rattle.cwr_causes.specs.declared.beyond.Beyond.TheVariants as beyonds
use Rattle.cwr_causes.specs.declared.lines_at_end.LineAtEnd.{LineAtEnd}
use Rattle.cwr_fields.specs.Format.Layouts.{FieldLayout}
use Rattle.cwr_shape.specs.declared.limits.Limits.{Limits}
use Rattle.cwr_shape.specs.declared.reasons.Reason.{Reason}
use Rattle.cwr_shape.specs.declared.reasons.Reason.TheVariants as reasons
use Rattle.cwr_shape.specs.declared.stages.Stage.{Stage}
use Rattle.cwr_causes.specs.Format.ComingTexts.{coming_words}
use Rattle.cwr_causes.specs.Format.TruncatedTexts.{end_words, last_cut_off_words, rest_words}
use Rattle.cwr_causes.specs.Steps.Coming.{coming_at, words_at}
use Rattle.cwr_causes.specs.Steps.LinesAtEnd.{EndsInLine, EndsWithLine, IsLineAtEnd, NoLineKnown}
use Rattle.cwr_decode.specs.Steps.LastReads.{HoldsLast}
use Rattle.cwr_causes.specs.declared.causes.Refused.{Refused}
use Rattle.cwr_causes.specs.Format.Heads.{head_words}
use Rattle.cwr_causes.specs.Format.Refusals.{RefusedLine, first_kind, refused_field, refused_level_words}
use Rattle.cwr_causes.specs.Format.Handling.{handling_words}
use Rattle.cwr_causes.specs.Format.Openings.{note_line, repeats_before}
use Rattle.cwr_causes.specs.Format.Signs.{signs_words}
use Rattle.cwr_causes.specs.Format.Wanted.{cell_expected_words, end_expected_words, limit_words, number_expected_words}
use Rattle.cwr_causes.specs.Steps.Misplaced.{order_words}
use Rattle.cwr_causes.specs.Steps.Works.{work_refused}

abbrev pub refused_line : Refused → RefusedLine
refused_line r =
    record {
      name = r.name.now;
      refusal = r.refusal.now;
      bytes = r.line.bytes.now;
      ended = r.line.ended;
      offset = r.line.offset;
      before = option_map (λ b. b.now) r.before;
      kind = r.kind;
      is_too_long = r.is_too_long;
      ahead = r.ahead;
      is_first = r.is_first;
      is_later = r.is_later;
      work = r.work.now;
    }

-- a line that isn't too long has that cell in the refused field
abbrev pub HasCell : RefusedLine → Option (List ℕ) → Type 0
HasCell r cell =
    length r.bytes ≤ longest_line → IsFalse (list_any is_lf r.bytes)
    → cell ≡ held_cell (record { bytes = r.bytes; ended = Line }) r.refusal.field

-- what may stand there, by the reason and the field, where the records before have come to that stage
abbrev pub expected_by : Limits → Option Stage → RefusedLine → Option (List ℕ) → Reason → Option (ℕ × FieldLayout) → List ℕ
expected_by limits stage r cell reasons.UnknownKind f = words_at stage
expected_by limits stage r cell reasons.Misplaced f = words_at stage
expected_by limits stage r cell (reasons.Cell fault) (Some f) = cell_expected_words r f.1 fault cell
expected_by limits stage r cell (reasons.Cell fault) None = []
expected_by limits stage r cell (reasons.Number expected) f = number_expected_words r expected
expected_by limits stage r cell (reasons.Limit limit) f = limit_words limits limit
expected_by limits stage r cell reasons.Excess f = end_expected_words r

-- what may stand in the refused field
abbrev pub expected_words : Limits → Option Stage → RefusedLine → Option (List ℕ) → List ℕ
expected_words limits stage r cell = expected_by limits stage r cell r.refusal.reason (refused_field r)

-- what a line points to that is misplaced or names no record, and what may stand there
unfoldable pub wanted_words : Limits → Option Stage → RefusedLine → Option (List ℕ) → List ℕ
wanted_words limits stage r cell = order_words stage r r.refusal.reason r.kind ++ expected_words limits stage r cell

-- What is said in full of the refusal of the line, whose refused field holds that cell, where the records before have come to that stage:
-- where it is and what stands there, what it points to, what may stand there, the level, what was done to the line, and what else it shows.
unfoldable pub whole_words : Limits → Option Stage → RefusedLine → Option (List ℕ) → List ℕ
whole_words limits stage r cell =
    concat (head_words r cell ∷ wanted_words limits stage r cell ∷ refused_level_words r ∷ handling_words r cell ∷ signs_words r ∷ [])

-- The same, or where it names no record and looks as the line before it does, just that.
abbrev pub refusal_words : Limits → Option Stage → RefusedLine → Option (List ℕ) → List ℕ
refusal_words limits stage r cell =
    if repeats_before r.refusal.reason r.before r.bytes then note_line (codes "the same as in the line before it")
    else whole_words limits stage r cell

-- the text goes on with that, for the cell that the line has there
abbrev pub ExplainsLine : Limits → Option Stage → RefusedLine → List ℕ → List ℕ → Type 0
ExplainsLine limits stage r old new =
    (cell : Option (List ℕ)) × HasCell r cell × (new ≡ old ++ refusal_words limits stage r cell)

-- The line before that with which the bytes end that were read is the one before it, where it is told. Where it isn't, no line ends with what
-- is held before that line, whose begin is known.
abbrev pub IsLineBefore : LastBytes → Option (List ℕ) → Type 0
IsLineBefore last before =
    ((read front line : List ℕ) → HoldsLast read last → EndsWithLine read front line → IfSome before (EndsInLine front true))
    × ((read front line shown : List ℕ) → (held : HoldsLast read last) → EndsWithLine read front line → front ≡ held.before ++ shown
    → length read < 2 ^ 64 - 1 → before ≡ None → NoLineKnown shown (length held.before == 0))

-- the line goes on after what is shown
abbrev pub goes_on : Beyond → Bool
goes_on (beyonds.GoesOn more) = more
goes_on beyond = false

-- how the numbers after it go on, where they were looked at
abbrev pub ahead_in : Beyond → Option Ahead
ahead_in (beyonds.Numbers ahead) = Some ahead
ahead_in beyond = None

-- a line that isn't too long has that line on its work, where it is refused for that reason after records with that header of their open
-- transaction
abbrev pub HasWork : Option RecordValue → Reason → List ℕ → List ℕ → Type 0
HasWork header reason bytes work =
    length bytes ≤ longest_line → IsFalse (list_any is_lf bytes)
    → work ≡ work_refused header reason (record { bytes = bytes; ended = Line })

-- the refused line with which the bytes end that were read
abbrev pub last_refused : List ℕ → Refusal → LineAtEnd → Option (List ℕ) → Beyond → List ℕ → RefusedLine
last_refused name refusal line before beyond work =
    record {
      name = name;
      refusal = refusal;
      bytes = line.bytes.now;
      ended = line.ended;
      offset = line.offset;
      before = before;
      kind = first_kind line.bytes.now;
      is_too_long = goes_on beyond;
      ahead = ahead_in beyond;
      is_first = true;
      is_later = false;
      work = work;
    }

-- a line with a fault
abbrev pub fault_line : List ℕ → Refusal → FaultyLine → RefusedLine
fault_line name fault line =
    record {
      name = name;
      refusal = fault;
      bytes = line.line.bytes.now;
      ended = line.line.ended;
      offset = line.line.offset;
      before = option_map (λ b. b.now) line.before;
      kind = first_kind line.line.bytes.now;
      is_too_long = line.is_too_long;
      ahead = line.ahead;
      is_first = line.is_first;
      is_later = line.is_later;
      work = line.work.now;
    }

-- the text goes on with what is said of the refusal of the line with which the bytes end that were read
pub record ExplainsRefusal (limits : Limits) (name : List ℕ) (refusal : Refusal) (last : LastRead) (beyond : Beyond)
    (old new : List ℕ) : Type 0 where
  pub line : LineAtEnd
  pub is_last : IsLineAtEnd last.bytes line
  pub before : Option (List ℕ)
  pub is_before : IsLineBefore last.bytes before
  pub work : List ℕ
  pub is_work : HasWork last.header refusal.reason line.bytes.now work
  pub explains : ExplainsLine limits (Some last.stage) (last_refused name refusal line before beyond work) old new

-- What is said of an input that ends too early, after that line: where it ends, the records that may come, that the line may have
-- been cut off, and that what stood after it is missing.
unfoldable pub truncation_words : List ℕ → ℕ → LastRead → LineAtEnd → List ℕ
truncation_words name records last line =
    concat
    (end_words name (first_kind line.bytes.now) records (bytes_read last.bytes) ∷ coming_words (coming_at last.stage)
    ∷ last_cut_off_words records line.bytes.now line.ended (first_kind line.bytes.now) ∷ rest_words records ∷ [])

-- the text goes on with that, after the last line that was read
pub record ExplainsEnd (name : List ℕ) (records : ℕ) (last : LastRead) (old new : List ℕ) : Type 0 where
  pub line : LineAtEnd
  pub is_last : IsLineAtEnd last.bytes line
  pub said : new ≡ old ++ truncation_words name records last line

-- How the numbers go on after a wrong one, on the lines that follow it.
use Rattle.std.specs.Prelude.{◌≡◌, ◌⊎◌, ℕ, ◌+◌, ◌-◌, ◌^◌, ◌≤◌, ◌==◌, ◌&&◌, ◌||◌, nat_lt, min, Bool, true, false, List, [], ◌∷◌, ◌++◌}
use Rattle.std.specs.Prelude.{◌<◌, ◌↔◌, IsTrue, length, Option, None, Some, IfSome, if◌then◌else◌}
use Rattle.std.specs.List.{list_any}
use Rattle.std.specs.Io.{StartsWith}
use Rattle.std.specs.Io.KnownBytes.{Consumes, IsAtEnd}
use Rattle.cwr_fields.specs.declared.kinds.Kind.{Kind}
use Rattle.cwr_fields.specs.declared.kinds.Kind.TheVariants.{Hdr, Grh, Grt, Trl}
use Rattle.cwr_lines.specs.Format.Lines.{raw_lines}
use Rattle.cwr_judge.specs.declared.refusals.Refusal.{Refusal}
use Rattle.cwr_causes.specs.declared.ahead.Ahead.{Ahead}
use Rattle.cwr_causes.specs.declared.ahead.Sequence.{Sequence}
use Rattle.cwr_causes.specs.declared.ahead.Sequence.TheVariants.{Records, Transactions}
use Rattle.cwr_causes.specs.declared.beyond.Beyond.{Beyond}
use Rattle.cwr_causes.specs.declared.beyond.Beyond.TheVariants as beyonds
use Rattle.cwr_causes.specs.declared.lines_at_end.LineAtEnd.{LineAtEnd}
use Rattle.cwr_causes.specs.Format.Lookings.{number_at}
use Rattle.cwr_causes.specs.Format.Refusals.{first_kind}
use Rattle.cwr_causes.specs.Format.Sequences.{sequence_in}
use Rattle.cwr_causes.specs.Format.WrongNumbers.{is_number}

-- the numbers that go on after that of a field: those of the transactions of a group, or those of the records of a transaction
abbrev pub followed_at : ℕ → Sequence
followed_at field = if field == 2 then Transactions else Records

-- ---- a line

-- a line of that kind, or of none, stands in no transaction
abbrev pub is_outside : Option Kind → Bool
is_outside None = true
is_outside (Some Hdr) = true
is_outside (Some Grh) = true
is_outside (Some Grt) = true
is_outside (Some Trl) = true
is_outside (Some this_kind) = false

-- with that sequence of a record the records of another transaction begin
abbrev pub begins_other : Sequence → Option ℕ → Bool
begins_other Transactions number = false
begins_other Records number = is_number number 0

-- On that line the numbers have ended: the line ends before its sequences do, or it stands in no transaction, or, where they are
-- those of records, it begins another transaction.
abbrev pub ends_numbers : Sequence → List ℕ → Bool
ends_numbers which line =
    nat_lt (length line) 19 || (is_outside (first_kind line) || begins_other which (sequence_in 11 line))

-- the number that the line has of them: of transactions the header has one, which is record 0
abbrev pub numbers_of_line : Sequence → List ℕ → List (Option ℕ)
numbers_of_line Transactions line = if is_number (sequence_in 11 line) 0 then sequence_in 3 line ∷ [] else []
numbers_of_line Records line = sequence_in 11 line ∷ []

-- ---- lines

-- the numbers on the lines, up to that on which they have ended; where no number stands in its place, none is there
abbrev pub numbers_on : Sequence → List (List ℕ) → List (Option ℕ)
numbers_on which [] = []
numbers_on which (line ∷ lines) =
    if ends_numbers which line then [] else numbers_of_line which line ++ numbers_on which lines

-- on one of the lines they have ended
abbrev pub have_ended : Sequence → List (List ℕ) → Bool
have_ended which lines = list_any (ends_numbers which) lines

-- ---- what is told of numbers

-- the first of them
abbrev pub first_number : List (Option ℕ) → Option ℕ
first_number [] = None
first_number (m ∷ ms) = m

-- they are that number, then the one after it, and so on
abbrev pub go_on : ℕ → List (Option ℕ) → Bool
go_on n [] = true
go_on n (m ∷ ms) = is_number m n && go_on (n + 1) ms

-- how many numbers there are after that one, which the first is, and whether each is one more than the one before
pub record TellsNumbers (n : ℕ) (numbers : List (Option ℕ)) (ahead : Ahead) : Type 0 where
  pub count : ahead.count ≡ min (length numbers) (2 ^ 64 - 1)
  pub first : ahead.first ≡ first_number numbers
  pub goes_on : ahead.goes_on ≡ go_on (n + 1) numbers

-- That is told of the lines that were read of what the reader had left. They are read up to that on which the numbers have ended or
-- to the reader's end, or they and what was read of the next one are 64 bytes and more.
pub record IsAhead (which : Sequence) (n : ℕ) (left after : Option (List ℕ)) (ahead : Ahead) : Type 0 where
  pub more : List ℕ
  pub consumed : Consumes left after more
  pub tells : TellsNumbers n (numbers_on which (raw_lines more)) ahead
  pub all : have_ended which (raw_lines more) ≡ false → IfSome left (λ bytes. IsAtEnd after) ⊎ (64 ≤ length more)

-- That is told of the lines that were seen of what the reader has left: some of it where there is any.
pub record IsSeenAhead (which : Sequence) (n : ℕ) (left : Option (List ℕ)) (ahead : Ahead) : Type 0 where
  pub seen : List ℕ
  pub front : IfSome left (λ bytes. StartsWith bytes seen)
  pub some : IfSome left (λ bytes. length seen ≡ 0 → bytes ≡ [])
  pub tells : TellsNumbers n (numbers_on which (raw_lines seen)) ahead

-- ---- what is found after a refused line

-- What the reader has there, where it had that left before and has this after it: of a line without its line feed whether a byte
-- follows, and after a wrong number how the numbers go on. Where nothing is looked at, nothing is taken.
abbrev pub FindsAfterLine : Refusal → LineAtEnd → Option (List ℕ) → Option (List ℕ) → Beyond → Type 0
FindsAfterLine refusal line left after (beyonds.GoesOn more) = IfSome left (λ bytes. IsTrue more ↔ 0 < length bytes)
FindsAfterLine refusal line left after (beyonds.Numbers ahead) =
    IfSome (number_at (first_kind line.bytes.now) refusal.field line.bytes.now)
    (λ n. IsAhead (followed_at refusal.field) n left after ahead)
FindsAfterLine refusal line left after (beyonds.Trailing found) = Unit {0}
FindsAfterLine refusal line left after beyonds.Unasked = after ≡ left

-- how the numbers go on after the wrong one of the line, where nothing is taken
abbrev pub SeesNumbers : Refusal → LineAtEnd → Option (List ℕ) → Ahead → Type 0
SeesNumbers refusal line left ahead =
    IfSome (number_at (first_kind line.bytes.now) refusal.field line.bytes.now)
    (λ n. IsSeenAhead (followed_at refusal.field) n left ahead)

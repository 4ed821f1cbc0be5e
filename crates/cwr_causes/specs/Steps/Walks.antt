-- What is kept of the lines after a wrong number, byte by byte.
use Rattle.std.specs.Prelude.{◌≡◌, ℕ, ◌+◌, ◌-◌, ◌^◌, ◌<◌, ◌≤◌, ◌==◌, ◌&&◌, nat_lt, min, Bool, true, false, IsFalse, IfSome, List, [], ◌∷◌, ◌++◌}
use Rattle.std.specs.Prelude.{length, take, slice_set, Option, if◌then◌else◌}
use Rattle.std.specs.List.{AllByRecursion, list_any}
use Rattle.std.specs.Io.KnownBytes.{Consumes, IsAtEnd}
use Rattle.cwr_lines.specs.Format.Lines.{is_lf}
use Rattle.cwr_decode.specs.Steps.Represents.{text_of}
use Rattle.cwr_causes.specs.declared.ahead.Ahead.{Ahead}
use Rattle.cwr_causes.specs.declared.ahead.Sequence.{Sequence}
use Rattle.cwr_causes.specs.declared.ahead.Walk.{Walk}
use Rattle.cwr_causes.specs.Format.NumbersAfter.{TellsNumbers, ends_numbers, have_ended, numbers_of_line, numbers_on}
use Rattle.cwr_causes.specs.Format.WrongNumbers.{is_number}

-- ---- the steps

-- one number more, where that one goes on
abbrev pub ahead_with : Ahead → Option ℕ → ℕ → Ahead
ahead_with ahead number next =
    record {
      count = min (ahead.count + 1) (2 ^ 64 - 1);
      first = if ahead.count == 0 then number else ahead.first;
      goes_on = ahead.goes_on && is_number number next;
    }

abbrev pub with_number : Walk → Option ℕ → Walk
with_number walk number =
    record walk { next = min (walk.next + 1) (2 ^ 64 - 1); ahead = ahead_with walk.ahead number walk.next }

abbrev pub with_numbers : Walk → List (Option ℕ) → Walk
with_numbers walk [] = walk
with_numbers walk (number ∷ numbers) = with_numbers (with_number walk number) numbers

-- the line that was read to its end, of which that is the front
abbrev pub with_line : Walk → List ℕ → Walk
with_line walk line =
    if ends_numbers walk.sequence line then record walk { ended = true }
    else with_numbers walk (numbers_of_line walk.sequence line)

abbrev pub with_end : Walk → Walk
with_end walk = record (with_line walk (take walk.filled walk.front)) { filled = 0 }

-- a byte of a line
abbrev pub with_front : Walk → ℕ → Walk
with_front walk byte =
    if nat_lt walk.filled 19
    then record walk { front = slice_set walk.front walk.filled byte; filled = walk.filled + 1 } else walk

-- a byte more
abbrev pub with_byte : Walk → ℕ → Walk
with_byte walk byte = if byte == 10 then with_end walk else with_front walk byte

-- ---- what is kept

-- The numbers haven't ended on these lines, and of the next one those bytes were read.
pub record WalksOn (n : ℕ) (read : List ℕ) (walk : Walk) : Type 0 where
  pub lines : List (List ℕ)
  pub rest : List ℕ
  pub split : read ≡ text_of lines ++ rest
  pub no_lf : AllByRecursion (λ line. IsFalse (list_any is_lf line)) lines
  pub rest_no_lf : IsFalse (list_any is_lf rest)
  pub going : have_ended walk.sequence lines ≡ false
  pub tells : TellsNumbers n (numbers_on walk.sequence lines) walk.ahead
  pub next : walk.next ≡ min (n + 1 + length (numbers_on walk.sequence lines)) (2 ^ 64 - 1)
  pub room : length walk.front ≡ 19
  pub filled : walk.filled ≡ min (length rest) 19
  pub front : take walk.filled walk.front ≡ take 19 rest

-- They have, on these lines, whatever was read after them.
pub record WalksNoMore (n : ℕ) (read : List ℕ) (walk : Walk) : Type 0 where
  pub lines : List (List ℕ)
  pub rest : List ℕ
  pub split : read ≡ text_of lines ++ rest
  pub no_lf : AllByRecursion (λ line. IsFalse (list_any is_lf line)) lines
  pub ended : have_ended walk.sequence lines ≡ true
  pub tells : TellsNumbers n (numbers_on walk.sequence lines) walk.ahead

-- so the bytes after that number were read
abbrev pub WalksAs : Bool → ℕ → List ℕ → Walk → Type 0
WalksAs true n read walk = WalksNoMore n read walk
WalksAs false n read walk = WalksOn n read walk

abbrev pub Walks : ℕ → List ℕ → Walk → Type 0
Walks n read walk = WalksAs walk.ended n read walk

-- so it is with these more, if it was so without them
abbrev pub WalksOver : List ℕ → Walk → Walk → Type 0
WalksOver piece old new =
    (new.sequence ≡ old.sequence) × (new.filled ≤ 19)
    × ((n : ℕ) (read : List ℕ) → Walks n read old → Walks n (read ++ piece) new)

-- a piece more was taken and read, or the end was reached
pub record WalksPiece (left after : Option (List ℕ)) (old new : Walk) (at_end : Bool) : Type 0 where
  pub piece : List ℕ
  pub consumed : Consumes left after piece
  pub walks : WalksOver piece old new
  pub over : at_end ≡ true → IfSome left (λ bytes. IsAtEnd after)
  pub some : at_end ≡ false → 0 < length piece

-- so many pieces were taken and read, none of them empty, and neither the end was reached nor have the numbers ended
pub record HasWalked (which : Sequence) (n : ℕ) (left after : Option (List ℕ)) (pieces : ℕ) (walk : Walk) : Type 0 where
  pub more : List ℕ
  pub consumed : Consumes left after more
  pub walks : Walks n more walk
  pub going : walk.ended ≡ false
  pub same : walk.sequence ≡ which
  pub within : walk.filled ≤ 19
  pub each : pieces ≤ length more

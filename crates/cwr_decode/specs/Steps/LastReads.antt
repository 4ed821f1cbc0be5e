-- The bytes that were read last, and how far the records have come.
use Rattle.std.specs.Prelude.{◌≡◌, ◌⊎◌, ℕ, ◌-◌, ◌^◌, ◌≤◌, min, List, [], ◌++◌, length, Option, IsSomeAnd, slice_get}
use Rattle.std.specs.Io.KnownBytes.{Consumes}
use Rattle.cwr_lines.specs.Format.Records.{RecordValue}
use Rattle.cwr_shape.specs.declared.stages.Stage.{Stage}
use Rattle.cwr_shape.specs.declared.tallies.Counts.{Counts}
use Rattle.cwr_decode.specs.declared.last_bytes.LastBytes.{LastBytes}
use Rattle.cwr_decode.specs.declared.readings.LastRead.{LastRead}
use Rattle.cwr_decode.specs.Steps.Machines.{Standing, held_list}

-- the bytes that are held
abbrev pub last_held : LastBytes → List ℕ
last_held last = last.held.items

-- how many bytes were read
abbrev pub bytes_read : LastBytes → ℕ
bytes_read last = last.read

-- These bytes were read. Their last ones are held, all of them or at least as many as a line and its line feed take at most, and
-- they are counted.
pub record HoldsLast (read : List ℕ) (last : LastBytes) : Type 0 where
  pub before : List ℕ
  pub split : read ≡ before ++ last_held last
  pub enough : (before ≡ []) ⊎ (1025 ≤ length (last_held last))
  pub counted : bytes_read last ≡ min (length read) (2 ^ 64 - 1)

-- the last bytes are held, and these were read
abbrev pub AreHeld : List ℕ → Option LastBytes → Type 0
AreHeld read last = IsSomeAnd last (HoldsLast read)

-- just the bytes that the reader lost were read after those before
pub record ReadsLast (left after : Option (List ℕ)) (old new : Option LastBytes) : Type 0 where
  pub bytes : List ℕ
  pub consumed : Consumes left after bytes
  pub held : (read : List ℕ) → AreHeld read old → AreHeld (read ++ bytes) new

-- how far the accepted records have come
abbrev pub stage_of_records : Standing → Stage
stage_of_records d = d.tally.stage

-- the header of the open transaction, where one is open
abbrev pub header_of_records : Standing → Option RecordValue
header_of_records d = slice_get (held_list d.held) 0

-- what was counted of them
abbrev pub counts_of_records : Standing → Counts
counts_of_records d = d.tally.counts

-- all this is so of what was read last
abbrev pub IsFrontOf : LastRead → Standing → Type 0
IsFrontOf last d =
    (last.stage ≡ stage_of_records d) × (last.counts ≡ counts_of_records d) × (last.header ≡ header_of_records d)

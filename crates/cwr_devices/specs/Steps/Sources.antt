-- What a `ReadAhead` and an `InMemory` show of themselves.
use Rattle.std.specs.Prelude.{ℕ, List, slice_range}
use Rattle.cwr_devices.specs.declared.sources.InMemory.{InMemory}
use Rattle.cwr_devices.specs.declared.sources.ReadAhead.{ReadAhead}

-- the reader in it
abbrev pub inner_of : {R : Type 0} → ReadAhead R → R
inner_of reader = reader.inner

-- the bytes that were read ahead: taken from the reader, and not consumed
abbrev pub ahead_of : {R : Type 0} → ReadAhead R → List ℕ
ahead_of reader = slice_range reader.ahead reader.start reader.end

-- of the bytes that the last `fill` showed, how many weren't consumed since
abbrev pub shown_of : {R : Type 0} → ReadAhead R → ℕ
shown_of reader = reader.shown

-- how many calls failed
abbrev pub failures_of : {R : Type 0} → ReadAhead R → ℕ
failures_of reader = reader.failures

-- the bytes of a text in memory that weren't consumed
abbrev pub left_of : InMemory → List ℕ
left_of text = text.left.now

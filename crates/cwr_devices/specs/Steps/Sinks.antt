-- What a sink shows of itself, and what it has written.
use Rattle.std.specs.Prelude.{◌≡◌, ℕ, ◌+◌, ◌-◌, ◌≤◌, ◌^◌, min, Bool, true, false, List, [], ◌++◌, length, take, Option, Result, Ok, Err}
use Rattle.std.specs.Prelude.{IfErr, OnOk, is_err}
use Rattle.std.specs.Io.KnownBytes.{Appends}
use Rattle.cwr_devices.specs.Format.Failures.{one_more_failure}
use Rattle.cwr_devices.specs.declared.sinks.Sink.{Sink}
use Rattle.cwr_devices.specs.declared.sinks.SinkFault.{SinkFault}

-- the writer to which it writes
abbrev pub writer_of : {W : Type 0} → Sink W → W
writer_of sink = sink.writer

-- how many bytes it counts
abbrev pub written_of : {W : Type 0} → Sink W → ℕ
written_of sink = sink.written

-- its writer failed
abbrev pub has_failed : {W : Type 0} → Sink W → Bool
has_failed sink = sink.failed

-- so many more; at the highest number the count stays
abbrev pub counted_up : ℕ → ℕ → ℕ
counted_up count more = min (count + more) (2 ^ 64 - 1)

-- only a call that fails raises the count of failures
abbrev pub CountsOn : {A E : Type 0} → Result A E → ℕ → ℕ → Type 0
CountsOn (Ok x) old new = new ≡ old
CountsOn (Err e) old new = new ≡ one_more_failure old

-- After what its writer had at the start the sink has written the text, or, once its writer failed, the first bytes of
-- the text. Its count is that of these bytes.
pub record HasWritten {W : Type 0} (contents : W → Option (List ℕ)) (start : Option (List ℕ)) (text : List ℕ)
    (sink : Sink W) : Type 0 where
  pub bytes : List ℕ
  pub rest : List ℕ
  pub split : text ≡ bytes ++ rest
  pub appended : Appends start (contents (writer_of sink)) bytes
  pub counted : written_of sink ≡ min (length bytes) (2 ^ 64 - 1)
  pub whole : has_failed sink ≡ false → rest ≡ []

-- The text was appended to what the writer had, or, where the writer failed, its first bytes were; the count has grown by as
-- many.
pub record GrowsBy {W E : Type 0} (contents : W → Option (List ℕ)) (text : List ℕ) (result : Result (Unit {0}) E)
    (old new : Sink W) : Type 0 where
  pub taken : ℕ
  pub within : taken ≤ length text
  pub whole : OnOk result (taken ≡ length text)
  pub appended : Appends (contents (writer_of old)) (contents (writer_of new)) (take taken text)
  pub counted : written_of new ≡ counted_up (written_of old) taken

-- What a call does that puts a text. Whatever text was put before, that text followed by this one is now put: it is written
-- whole, or after a fault its first bytes are. The fault is that of the writer in this call.
pub record Puts {W E : Type 0} (contents : W → Option (List ℕ)) (failures : W → ℕ) (text : List ℕ) (result : Result (Unit {0}) E)
    (old new : Sink W) : Type 0 where
  pub written : (start : Option (List ℕ)) (before : List ℕ) → HasWritten contents start before old
      → HasWritten contents start (before ++ text) new
  pub failed : has_failed new ≡ is_err result
  pub counts : CountsOn result (failures (writer_of old)) (failures (writer_of new))

-- What a call does that puts a text. Whatever text was put before, that text followed by this one is now put: it is written whole, or
-- after a fault its first bytes are. The fault says how many bytes are written; it comes only where the writer failed in this call or
-- before, and after one nothing is written any more.
pub record PutsText {W : Type 0} (contents : W → Option (List ℕ)) (failures : W → ℕ) (text : List ℕ)
    (result : Result (Unit {0}) SinkFault) (old new : Sink W) : Type 0 where
  pub written : (start : Option (List ℕ)) (before : List ℕ) → HasWritten contents start before old
      → HasWritten contents start (before ++ text) new
  pub fault : IfErr result (λ f. f.written ≡ written_of new)
  pub failed : has_failed new ≡ is_err result
  pub failures_counted : has_failed old ≡ false → CountsOn result (failures (writer_of old)) (failures (writer_of new))
  pub again : has_failed old ≡ true → new ≡ old

-- What a pen holds, and what was added to it.
use Rattle.std.specs.Prelude.{◌≡◌, ℕ, Bool, true, false, List, ◌++◌, Option, Result, IfErr, is_err}
use Rattle.cwr_devices.specs.Format.Failures.{one_more_failure}
use Rattle.cwr_devices.specs.declared.pens.Pen.{Pen}
use Rattle.cwr_devices.specs.declared.sinks.Sink.{Sink}
use Rattle.cwr_devices.specs.declared.sinks.SinkFault.{SinkFault}
use Rattle.cwr_devices.specs.Steps.Sinks.{CountsOn, HasWritten, has_failed, writer_of, written_of}

-- the sink to which it puts
abbrev pub sink_of : {W : Type 0} → Pen W → Sink W
sink_of pen = pen.sink.now

-- the bytes that were added and not put yet
abbrev pub held_of : {W : Type 0} → Pen W → List ℕ
held_of pen = pen.held.items

-- the writer's failures, where it failed once more or where it didn't
abbrev pub failures_after : Bool → ℕ → ℕ
failures_after false failures = failures
failures_after true failures = one_more_failure failures

-- After what its writer had at the start the sink has put the first bytes of the text, and as long as the writer doesn't fail the
-- others are held.
pub record HasTaken {W : Type 0} (contents : W → Option (List ℕ)) (start : Option (List ℕ)) (text : List ℕ) (sink : Sink W)
    (held : List ℕ) : Type 0 where
  pub put : List ℕ
  pub left : List ℕ
  pub split : text ≡ put ++ left
  pub written : HasWritten contents start put sink
  pub holds : has_failed sink ≡ false → left ≡ held

-- What a call does that adds a text. Whatever text was added before, that text followed by this one is now added. A writer that failed
-- before isn't asked again; it fails once at most.
pub record Adds {W : Type 0} (contents : W → Option (List ℕ)) (failures : W → ℕ) (text : List ℕ) (old new : Pen W) : Type 0 where
  pub taken : (start : Option (List ℕ)) (before : List ℕ) → HasTaken contents start before (sink_of old) (held_of old)
      → HasTaken contents start (before ++ text) (sink_of new) (held_of new)
  pub again : has_failed (sink_of old) ≡ true → sink_of new ≡ sink_of old
  pub counts : has_failed (sink_of old) ≡ false
      → failures (writer_of (sink_of new)) ≡ failures_after (has_failed (sink_of new)) (failures (writer_of (sink_of old)))
  pub same_sink : new.sink.ghost_name ≡ old.sink.ghost_name

-- What is held is put, and the text that was added is all that was put.
pub record PutsHeld {W : Type 0} (contents : W → Option (List ℕ)) (failures : W → ℕ) (result : Result (Unit {0}) SinkFault)
    (old : Sink W) (held : List ℕ) (new : Sink W) : Type 0 where
  pub written : (start : Option (List ℕ)) (text : List ℕ) → HasTaken contents start text old held → HasWritten contents start text new
  pub fault : IfErr result (λ f. f.written ≡ written_of new)
  pub failed : has_failed new ≡ is_err result
  pub counts : has_failed old ≡ false → CountsOn result (failures (writer_of old)) (failures (writer_of new))
  pub again : has_failed old ≡ true → new ≡ old

-- What the steps of a lint put to a sink and take from a reader.
use Rattle.std.specs.Prelude.{◌≡◌, ℕ, false, true, List, ◌++◌, Option, Result, Ok, Err, IfOk, OnOk}
use Rattle.std.specs.Io.KnownBytes.{Appends}
use Rattle.cwr_devices.specs.Format.Failures.{one_more_failure}
use Rattle.cwr_devices.specs.declared.sinks.Sink.{Sink}
use Rattle.cwr_devices.specs.declared.sinks.SinkFault.{SinkFault}
use Rattle.cwr_devices.specs.declared.pens.Pen.{Pen}
use Rattle.cwr_devices.specs.Steps.Pens.{Adds}
use Rattle.cwr_devices.specs.Steps.Sinks.{HasWritten, has_failed, writer_of}
use Rattle.cwr_causes.specs.Format.Trailing.{TakesMore}
use Rattle.cwr_tools.specs.declared.verdicts.ToolFault.{ToolFault}
use Rattle.cwr_tools.specs.declared.verdicts.ToolFault.TheVariants.{Reader, Writer, Memory}

-- a writer's failures count one more where its fault is answered, and else they stay; but for memory no other fault is answered
abbrev pub CountsPut : {A : Type 0} → Result A ToolFault → ℕ → ℕ → Type 0
CountsPut (Ok x) old new = new ≡ old
CountsPut (Err (Writer written)) old new = new ≡ one_more_failure old
CountsPut (Err Memory) old new = new ≡ old
CountsPut (Err fault) old new = ⊥

-- Whatever text was put so far, that text followed by this one is now put: it is written whole, or after a fault its first bytes are.
-- The fault is that of this call, unless the writer failed before; then the sink stays as it is.
pub record PutsAfter {W A : Type 0} (contents : W → Option (List ℕ)) (failures : W → ℕ) (text : List ℕ)
    (result : Result A ToolFault) (old new : Sink W) : Type 0 where
  pub written : (start : Option (List ℕ)) (before : List ℕ) → HasWritten contents start before old
      → HasWritten contents start (before ++ text) new
  pub unfailed : has_failed old ≡ false → OnOk result (has_failed new ≡ false)
  pub counts : has_failed old ≡ false → CountsPut result (failures (writer_of old)) (failures (writer_of new))
  pub again : has_failed old ≡ true → new ≡ old

-- some text is put
abbrev pub PutsSome : {W A : Type 0} → (W → Option (List ℕ)) → (W → ℕ) → Result A ToolFault → Sink W → Sink W → Type 0
PutsSome contents failures result old new = (text : List ℕ) × PutsAfter contents failures text result old new

-- such a text is put
abbrev pub PutsSuch : {W A : Type 0} → (List ℕ → Type 0) → (W → Option (List ℕ)) → (W → ℕ) → Result A ToolFault → Sink W → Sink W
    → Type 0
PutsSuch P contents failures result old new =
    (text : List ℕ) × PutsAfter contents failures text result old new × OnOk result (P text)

-- a text is put that goes with what is answered
abbrev pub PutsWith : {W A : Type 0} → (A → List ℕ → Type 0) → (W → Option (List ℕ)) → (W → ℕ) → Result A ToolFault → Sink W
    → Sink W → Type 0
PutsWith P contents failures result old new =
    (text : List ℕ) × PutsAfter contents failures text result old new × IfOk result (λ x. P x text)

-- such a text is added
abbrev pub AddsSuch : {W : Type 0} → (List ℕ → Type 0) → (W → Option (List ℕ)) → (W → ℕ) → Pen W → Pen W → Type 0
AddsSuch P contents failures old new = (text : List ℕ) × Adds contents failures text old new × P text

-- what is answered where a text was put, and memory for the rest of it was refused or not
abbrev pub told_so : {E : Type 0} → Result (Unit {0}) SinkFault → Result (Unit {0}) E → Result (Unit {0}) ToolFault
told_so (Ok u) (Ok v) = Ok v
told_so (Ok u) (Err fault) = Err Memory
told_so (Err fault) told = Err (Writer fault.written)

-- the failures of a reader and of a writer: only that of the one whose fault is answered counts one more
abbrev pub CountsBoth : {A : Type 0} → Result A ToolFault → ℕ → ℕ → ℕ → ℕ → Type 0
CountsBoth (Ok x) reader read writer wrote = (read ≡ reader) × (wrote ≡ writer)
CountsBoth (Err Reader) reader read writer wrote = (read ≡ one_more_failure reader) × (wrote ≡ writer)
CountsBoth (Err (Writer written)) reader read writer wrote = (read ≡ reader) × (wrote ≡ one_more_failure writer)
CountsBoth (Err Memory) reader read writer wrote = (read ≡ reader) × (wrote ≡ writer)
CountsBoth (Err fault) reader read writer wrote = ⊥

-- a text is put after those before, and bytes are taken from a reader
pub record ReadsAndPuts {W A : Type 0} (left after : Option (List ℕ)) (reader read : ℕ) (contents : W → Option (List ℕ))
    (failures : W → ℕ) (text : List ℕ) (result : Result A ToolFault) (old new : Sink W) : Type 0 where
  pub taken : TakesMore left after
  pub written : (start : Option (List ℕ)) (before : List ℕ) → HasWritten contents start before old
      → HasWritten contents start (before ++ text) new
  pub unfailed : has_failed old ≡ false → OnOk result (has_failed new ≡ false)
  pub counts : has_failed old ≡ false → CountsBoth result reader read (failures (writer_of old)) (failures (writer_of new))
  pub again : has_failed old ≡ true → new ≡ old

-- such a text goes with what is answered
abbrev pub ReadsAndPutsWith : {W A : Type 0} → (A → List ℕ → Type 0) → Option (List ℕ) → Option (List ℕ) → ℕ → ℕ
    → (W → Option (List ℕ)) → (W → ℕ) → Result A ToolFault → Sink W → Sink W → Type 0
ReadsAndPutsWith P left after reader read contents failures result old new =
    (text : List ℕ) × ReadsAndPuts left after reader read contents failures text result old new × IfOk result (λ x. P x text)

-- so it is over a reader, where what is said of the text speaks of what the reader had left and of what it then has
abbrev pub TellsWith : {R W A : Type 0} → (R → Option (List ℕ)) → (R → ℕ) → R → R → (W → Option (List ℕ)) → (W → ℕ)
    → (Option (List ℕ) → Option (List ℕ) → A → List ℕ → Type 0) → Result A ToolFault → Sink W → Sink W → Type 0
TellsWith remaining read_failures reader read contents failures P result old new =
    ReadsAndPutsWith (P (remaining reader) (remaining read)) (remaining reader) (remaining read) (read_failures reader)
    (read_failures read) contents failures result old new

-- and of no answer
abbrev pub TellsRead : {R W A : Type 0} → (R → Option (List ℕ)) → (R → ℕ) → R → R → (W → Option (List ℕ)) → (W → ℕ)
    → (Option (List ℕ) → Option (List ℕ) → List ℕ → Type 0) → Result A ToolFault → Sink W → Sink W → Type 0
TellsRead remaining read_failures reader read contents failures P result old new =
    TellsWith remaining read_failures reader read contents failures (λ left after _. P left after) result old new

-- such a text was written after what the writer had
abbrev pub AppendsSuch : {W : Type 0} → (W → Option (List ℕ)) → W → W → (List ℕ → Type 0) → Type 0
AppendsSuch contents old new P = (text : List ℕ) × P text × Appends (contents old) (contents new) text

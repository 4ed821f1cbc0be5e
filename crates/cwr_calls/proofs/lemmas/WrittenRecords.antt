-- What is written goes on, record by record, and ends.
use Rattle.std.proofs.Common.{◌≡◌, ℕ, false, List, [], ◌++◌, Option, Some, sym, ap, subst, ◌∙◌, append_assoc, append-nil}
use Rattle.std.specs.Prelude.{Result, Ok, Err, IfOk}
use Rattle.std.specs.Io.KnownBytes.{Appends}
use Rattle.cwr_lines.specs.Format.Records.{RecordValue}
use Rattle.cwr_shape.specs.Format.Ranges.{LimitValues}
use Rattle.cwr_values.specs.Format.Values.{FitsIn}
use Rattle.cwr_values.specs.Format.Rows.{canonical_text}
use Rattle.cwr_encode.specs.declared.encoders.Encoder.{Encoder}
use Rattle.cwr_encode.specs.declared.encoders.EncodeFault.{EncodeFault}
use Rattle.cwr_encode.specs.Steps.Encoders.{AddsRecords, encoder_limits, is_stopped}
use Rattle.cwr_encode.specs.Steps.Finishing.{FinishesWriting}
use Rattle.cwr_calls.specs.Format.LineRecords.{CarryRecords}
use Rattle.cwr_calls.specs.Format.WrittenTexts.{IsCanonicalOf}
use Rattle.cwr_calls.specs.Steps.Writings.{EndsWriting, GoesOn, HasCanonical, IsWriting, WritesLines, WritesOn}

-- a call of the encoder that adds records, and was answered so
pub added : {W : Type 0} (contents : W → Option (List ℕ)) (failures : W → ℕ) (more : List RecordValue)
    (result : Result (Unit {0}) EncodeFault) (old new : Encoder W)
    → (is_stopped old ≡ false → AddsRecords contents failures more result old new) → encoder_limits new ≡ encoder_limits old
    → result ≡ Ok tt → GoesOn contents more old new
added contents failures more result old new adds same ok = λ start limits records h.
    let a : AddsRecords contents failures more (Ok tt) old new =
    subst (λ (r : Result (Unit {0}) EncodeFault). AddsRecords contents failures more r old new) ok (adds h.unfailed) in
    record { encodes = a.0 start records h.encodes; limits_are = same ∙ h.limits_are; unfailed = a.1 }

-- nothing is written
pub goes_nowhere : {W : Type 0} (contents : W → Option (List ℕ)) (e : Encoder W) → GoesOn contents [] e e
goes_nowhere contents e =
    λ start limits records h. subst (λ (rs : List RecordValue). IsWriting contents start limits rs e) (sym (append-nil records)) h

-- one after the other
pub goes_then : {W : Type 0} (contents : W → Option (List ℕ)) (first second : List RecordValue) (old mid new : Encoder W)
    → GoesOn contents first old mid → GoesOn contents second mid new → GoesOn contents (first ++ second) old new
goes_then contents first second old mid new f g = λ start limits records h.
    subst (λ (rs : List RecordValue). IsWriting contents start limits rs new) (append_assoc records first second)
    (g start limits (records ++ first) (f start limits records h))

-- ---- with a transaction that is held

-- what was held is written, and then the record
pub ends_and_puts : {W : Type 0} (contents : W → Option (List ℕ)) (came held : List RecordValue) (old mid new : Encoder W)
    → GoesOn contents held old mid → GoesOn contents came mid new → WritesOn contents came held [] old new
ends_and_puts contents came held old mid new f g =
    record { more = held ++ came; goes_on = goes_then contents held came old mid new f g; same = append-nil (held ++ came) }

-- what was held is written, and the record is held
pub ends_and_holds : {W : Type 0} (contents : W → Option (List ℕ)) (came held left : List RecordValue) (old new : Encoder W)
    → GoesOn contents held old new → left ≡ came → WritesOn contents came held left old new
ends_and_holds contents came held left old new f e =
    record { more = held; goes_on = f; same = ap (λ (l : List RecordValue). held ++ l) e }

pub begins_after : {W E : Type 0} (contents : W → Option (List ℕ)) (came held : List RecordValue) (old new : Encoder W)
    (result : Result (List RecordValue) E) → GoesOn contents held old new → IfOk result (λ left. left ≡ came)
    → IfOk result (λ left. WritesOn contents came held left old new)
begins_after contents came held old new (Ok left) f e = ends_and_holds contents came held left old new f e
begins_after contents came held old new (Err fault) f e = tt

-- the record is held with what was held
pub holds_more : {W : Type 0} (contents : W → Option (List ℕ)) (came held left : List RecordValue) (e : Encoder W)
    → left ≡ held ++ came → WritesOn contents came held left e e
holds_more contents came held left e same = record { more = []; goes_on = goes_nowhere contents e; same = same }

-- ---- the end

pub finished : {W : Type 0} (contents : W → Option (List ℕ)) (failures : W → ℕ) (start : Option (List ℕ)) (limits : LimitValues)
    (records : List RecordValue) (e : Encoder W) (writer : W) (result : Result ℕ EncodeFault) (n : ℕ) → result ≡ Ok n
    → (is_stopped e ≡ false → FinishesWriting contents failures e writer result) → IsWriting contents start limits records e
    → HasCanonical contents start limits records writer
finished contents failures start limits records e writer result n ok finishes h =
    let f : FinishesWriting contents failures e writer (Ok n) =
    subst (λ (r : Result ℕ EncodeFault). FinishesWriting contents failures e writer r) ok (finishes h.unfailed) in
    let d = f.1 start records h.encodes in
    record {
      value = d.0;
      whole = d.1.whole;
      within = subst (λ (l : LimitValues). FitsIn l d.0) h.limits_are d.1.within;
      records_are = d.1.records_are;
      appended = d.2.appended;
    }

-- what was written of the lines is ended
pub ended_writing : {W : Type 0} (contents : W → Option (List ℕ)) (start : Option (List ℕ)) (limits : LimitValues)
    (lines : List ℕ) (old new : Encoder W) (writer : W)
    → IsWriting contents start limits [] old → WritesLines contents lines old new → EndsWriting contents new writer
    → (records : List RecordValue) × CarryRecords lines records × HasCanonical contents start limits records writer
ended_writing contents start limits lines old new writer begun w ends =
    (w.0, w.1, ends start limits w.0 (w.2 start limits [] begun))

pub canonical_whole : {W : Type 0} (contents : W → Option (List ℕ)) (start : Option (List ℕ)) (limits : LimitValues)
    (lines text : List ℕ) (records : List RecordValue) (writer : W) → start ≡ Some [] → contents writer ≡ Some text
    → CarryRecords lines records → HasCanonical contents start limits records writer → IsCanonicalOf limits lines text
canonical_whole contents start limits lines text records writer none has carry h =
    let a : Appends (Some []) (contents writer) (canonical_text h.value) =
    subst (λ (s : Option (List ℕ)). Appends s (contents writer) (canonical_text h.value)) none h.appended in
    record {
      canonical =
          record {
            value = h.value;
            whole = h.whole;
            within = h.within;
            text_is = subst (λ (o : Option (List ℕ)). Appends (Some []) o (canonical_text h.value)) has a;
          };
      records = records;
      carry = carry;
      records_are = h.records_are;
    }

-- The fault of an output's writer tells how many bytes that writer has.
use Rattle.std.proofs.Common.{◌≡◌, ℕ, ◌-◌, ◌^◌, List, [], ◌++◌, length, Option, Some, None, refl, sym, ap, subst, ◌∙◌}
use Rattle.std.specs.Prelude.{Result, Ok, Err, IfSome, min}
use Rattle.std.specs.Result.{IsErrAnd}
use Rattle.std.specs.Io.KnownBytes.{Appends}
use Rattle.cwr_lines.specs.Format.Records.{RecordValue}
use Rattle.cwr_shape.specs.declared.limits.Limits.{Limits}
use Rattle.cwr_values.specs.declared.items.Item.{Item}
use Rattle.cwr_encode.specs.declared.encoders.Encoder.{Encoder}
use Rattle.cwr_encode.specs.declared.encoders.EncodeFault.{EncodeFault}
use Rattle.cwr_encode.specs.declared.encoders.EncodeFault.TheVariants as encode_faults
use Rattle.cwr_encode.specs.Steps.Encoders.{AddsRecords, Encodes, RepresentsMore, bytes_written, target_of}
use Rattle.cwr_encode.specs.Steps.Finishing.{FinishesWriting}
use Rattle.cwr_decode.specs.declared.readings.ReadFault.{ReadFault}
use Rattle.cwr_decode.specs.declared.readings.ReadFault.TheVariants as read_faults
use Rattle.cwr_parts.specs.declared.split_output.SplitOutput.{SplitOutput}
use Rattle.cwr_tools.specs.declared.verdicts.ToolFault.{ToolFault}
use Rattle.cwr_tools.specs.declared.verdicts.ToolFault.TheVariants as tool_faults
use Rattle.cwr_devices.specs.Format.Outputs.{AddsTexts, HasBytes}
use Rattle.cwr_parts.specs.Format.Splitting.{HasFullRuns, TellsBytes, TellsWritten}
use Rattle.cwr_parts.specs.Steps.Joined.{is_fault_of, reading_fault}
use Rattle.cwr_parts.specs.Steps.SplitWriters.{BeganEmpty, BeganOpen, CountsBytes, CountsOpen, TellsCount, TellsOpen, had_after}
use Rattle.cwr_parts.specs.Steps.Splitting.{Splits}
use Rattle.cwr_tools.proofs.lemmas.ReportsOn.{same_fault}

-- ---- an encoder

began_more : {W : Type 0} (contents : W → Option (List ℕ)) (added : List RecordValue) (old new : Encoder W)
    → RepresentsMore contents added old new → BeganEmpty contents old → BeganEmpty contents new
began_more contents added old new more began = (began.0 ++ added, more (Some []) began.0 began.1)

-- records were written
pub bytes_put : {W : Type 0} (contents : W → Option (List ℕ)) (failures : W → ℕ) (added : List RecordValue) (old new : Encoder W)
    (u : Unit {0}) → AddsRecords contents failures added (Ok u) old new → CountsBytes contents (Ok u) old new
bytes_put contents failures added old new u adds = λ began. (began_more contents added old new adds.0 began, tt)

-- or the writer failed
pub bytes_failed : {W : Type 0} (contents : W → Option (List ℕ)) (failures : W → ℕ) (added : List RecordValue)
    (old new : Encoder W) (other : EncodeFault) (fault : ToolFault) → AddsRecords contents failures added (Err other) old new
    → is_fault_of other fault
    → CountsBytes contents (Err fault) old new
bytes_failed contents failures added old new (encode_faults.Writer n) fault adds e =
    subst (λ (f : ToolFault). CountsBytes contents (Err f) old new) (sym e)
    (λ began. (began_more contents added old new adds.0 began, adds.2))
bytes_failed contents failures added old new (encode_faults.Limit limit) fault adds e =
    subst (λ (f : ToolFault). CountsBytes contents (Err f) old new) (sym e)
    (λ began. (subst (BeganEmpty contents) (sym adds) began, tt))
bytes_failed contents failures added old new encode_faults.OutOfOrder fault adds e = absurd e
bytes_failed contents failures added old new encode_faults.WrongKind fault adds e = absurd e
bytes_failed contents failures added old new encode_faults.Incomplete fault adds e = absurd e

-- calls one after another
pub bytes_then : {W : Type 0} (contents : W → Option (List ℕ)) (u : Unit {0}) (result : Result (Unit {0}) ToolFault)
    (old mid new : Encoder W) → CountsBytes contents (Ok u) old mid → CountsBytes contents result mid new → CountsBytes contents
    result old new
bytes_then contents u result old mid new h k = λ began. k (h began).0

-- ---- bytes that are known

has_bytes : (after : Option (List ℕ)) (bytes : List ℕ) (n : ℕ) → Appends (Some []) after bytes
    → n ≡ min (length bytes) (2 ^ 64 - 1) → HasBytes after n
has_bytes None bytes n h e = absurd h
has_bytes (Some all) bytes n h e = e ∙ ap (λ (l : List ℕ). min (length l) (2 ^ 64 - 1)) (sym h)

-- what the writer of an encoder has
bytes_of : {W : Type 0} (contents : W → Option (List ℕ)) (e : Encoder W) → BeganEmpty contents e
    → HasBytes (contents (target_of e)) (bytes_written e)
bytes_of contents e began =
    let written =
    began.1.written in has_bytes (contents (target_of e)) written.bytes (bytes_written e) written.appended written.counted

-- what a writer had that failed at the end
bytes_at_end : {W : Type 0} (contents : W → Option (List ℕ)) (failures : W → ℕ) (e : Encoder W) (writer : W) (other : EncodeFault)
    (fault : ToolFault) (had : Option (List ℕ)) → FinishesWriting contents failures e writer (Err other)
    → is_fault_of other fault → had ≡ contents writer → BeganEmpty contents e → TellsBytes fault had
bytes_at_end contents failures e writer (encode_faults.Writer n) fault had finishes is same began =
    let front = (finishes.1 (Some []) began.0 began.1).2 in
    let has : HasBytes (contents writer) n = has_bytes (contents writer) front.bytes n front.has.appended front.has.counted in
    subst (λ (f : ToolFault). TellsBytes f had) (sym is) (subst (λ (h : Option (List ℕ)). HasBytes h n) (sym same) has)
bytes_at_end contents failures e writer (encode_faults.Limit limit) fault had finishes is same began =
    subst (λ (f : ToolFault). TellsBytes f had) (sym is) tt
bytes_at_end contents failures e writer encode_faults.OutOfOrder fault had finishes is same began = absurd is
bytes_at_end contents failures e writer encode_faults.WrongKind fault had finishes is same began = absurd is
bytes_at_end contents failures e writer encode_faults.Incomplete fault had finishes is same began = absurd is

pub given_back : {W : Type 0} (contents : W → Option (List ℕ)) (failures : W → ℕ) (e : Encoder W) (writer : W)
    (other : EncodeFault) (fault : ToolFault) (texts : Option (List (List ℕ))) (had : Option (List ℕ)) → FinishesWriting contents
    failures e writer (Err other)
    → is_fault_of other fault → IfSome texts (λ _. had ≡ contents writer)
    → IfSome texts (λ _. BeganEmpty contents e → TellsWritten {A = Unit {0}} (Err fault) had)
given_back contents failures e writer other fault None had finishes is same = tt
given_back contents failures e writer other fault (Some texts) had finishes is same =
    bytes_at_end contents failures e writer other fault had finishes is same

-- ---- texts that are known

pub known_is : {X P : Type 0} (o : Option X) (x : X) → o ≡ Some x → IfSome o (λ _. P) → P
known_is {X = X} {P = P} o x e h = subst (λ (t : Option X). IfSome t (λ _. P)) e h

pub known_so : {X P : Type 0} (o : Option X) → ((x : X) → o ≡ Some x → P) → IfSome o (λ _. P)
known_so None f = tt
known_so (Some x) f = f x refl

-- they stay so
pub known_still : (old new : Option (List (List ℕ))) (added known : List (List ℕ)) → old ≡ Some known → AddsTexts old new added
    → (now : List (List ℕ)) × (new ≡ Some now)
known_still None new added known e h = absurd (cc)
known_still (Some old) None added known e h = absurd h
known_still (Some old) (Some new) added known e h = (new, refl)

known_runs : (limits : Limits) (n : ℕ) (given : List Item) (old new : Option (List (List ℕ))) (known : List (List ℕ))
    → old ≡ Some known → HasFullRuns limits n given old new → (now : List (List ℕ)) × (new ≡ Some now)
known_runs limits n given old new known e h =
    let first = h.begun in known_still old new _ known e (h.texts first.value first.rest first.whole first.within first.split)

-- also where a split stopped
pub known_stopped : (limits : Limits) (n : ℕ) (before after : Option (List ℕ)) (old new : Option (List (List ℕ)))
    (known : List (List ℕ)) (fault : ToolFault) → old ≡ Some known → Splits limits n before after old new (Err fault)
    → (now : List (List ℕ)) × (new ≡ Some now)
known_stopped limits n before after old new known tool_faults.Reader e h = known_runs limits n h.0 old new known e h.2
known_stopped limits n before after old new known tool_faults.Memory e h = known_runs limits n h.0 old new known e h.2
known_stopped limits n before after old new known (tool_faults.Refused r) e h = known_runs limits n h.0 old new known e h.2
known_stopped limits n before after old new known (tool_faults.Truncated r) e h = known_runs limits n h.0 old new known e h.2
known_stopped limits n before after old new known (tool_faults.Writer w) e h = known_runs limits n h.0 old new known e h.3
known_stopped limits n before after old new known tool_faults.Output e h = known_runs limits n h.0 old new known e h.3
known_stopped limits n before after old new known (tool_faults.Limit l) e h = absurd h

-- ---- the open output

-- it is opened
pub began_open : {W : Type 0} (contents : W → Option (List ℕ)) (writer : W) (out : SplitOutput W) (texts : Option (List (List ℕ)))
    (known : List (List ℕ)) → texts ≡ Some known → IfSome texts (λ _. contents writer ≡ Some [])
    → Encodes contents (contents writer) [] out.encoder → BeganOpen contents (Some out)
began_open contents writer out texts known e empty encodes =
    ([], subst (λ (s : Option (List ℕ)). Encodes contents s [] out.encoder) (known_is texts known e empty) encodes)

-- steps one after another
pub open_then : {W : Type 0} (contents : W → Option (List ℕ)) (u : Unit {0}) (result : Result (Unit {0}) ToolFault)
    (old mid new : Option (SplitOutput W)) (had later : Option (List ℕ)) → CountsOpen contents (Ok u) old mid had → CountsOpen
    contents result mid new later
    → CountsOpen contents result old new later
open_then contents u result old mid new had later h k = λ began. k (h began).0

-- it is handed over
pub open_handed_over : {W : Type 0} (contents : W → Option (List ℕ)) (u : Unit {0}) (result : Result (Unit {0}) ToolFault)
    (old mid left : Option (SplitOutput W)) (out : SplitOutput W) (had later : Option (List ℕ)) → CountsOpen contents (Ok u) old
    mid had → mid ≡ Some out
    → left ≡ None → (BeganEmpty contents out.encoder → TellsWritten result later) → CountsOpen contents result old left later
open_handed_over {W = W} contents u result old mid left out had later h e gone k =
    subst (λ (o : Option (SplitOutput W)). CountsOpen contents result old o later) (sym gone)
    (λ began. (tt, k (subst (BeganOpen contents) e (h began).0)))

-- a fault is passed on
pub open_failed : {W : Type 0} (contents : W → Option (List ℕ)) (old new : Option (SplitOutput W)) (had : Option (List ℕ))
    (fault : ToolFault) (result : Result (Unit {0}) ToolFault) → IsErrAnd result (λ e. e ≡ fault) → CountsOpen contents
    (Err fault) old new had
    → CountsOpen contents result old new had
open_failed contents old new had fault result is h =
    subst (λ (r : Result (Unit {0}) ToolFault). CountsOpen contents r old new had) (sym (same_fault result fault is)) h

-- no fault tells nothing
pub ok_tells : {W : Type 0} (u : Unit {0}) (out : Option (SplitOutput W)) (had : Option (List ℕ)) → TellsOpen (Ok u) out had
ok_tells u None had = tt
ok_tells u (Some out) had = tt

-- a fault of the input is none of a writer
pub reading_tells : {W : Type 0} (fault : ReadFault) (out : Option (SplitOutput W)) (had : Option (List ℕ))
    → TellsOpen (Err (reading_fault fault)) out had
reading_tells read_faults.Reader None had = tt
reading_tells read_faults.Reader (Some out) had = tt
reading_tells (read_faults.Refused r) None had = tt
reading_tells (read_faults.Refused r) (Some out) had = tt
reading_tells (read_faults.Truncated r) None had = tt
reading_tells (read_faults.Truncated r) (Some out) had = tt
reading_tells read_faults.Memory None had = tt
reading_tells read_faults.Memory (Some out) had = tt

-- ---- the end of a split

told_open : {W : Type 0} (contents : W → Option (List ℕ)) (e : Encoder W) (fault : ToolFault) → BeganEmpty contents e
    → TellsCount (Err fault) e → TellsBytes fault (contents (target_of e))
told_open contents e (tool_faults.Writer n) began h =
    subst (HasBytes (contents (target_of e))) (sym h) (bytes_of contents e began)
told_open contents e tool_faults.Reader began h = tt
told_open contents e tool_faults.Memory began h = tt
told_open contents e (tool_faults.Refused r) began h = tt
told_open contents e (tool_faults.Truncated r) began h = tt
told_open contents e tool_faults.Output began h = tt
told_open contents e (tool_faults.Limit l) began h = tt

-- what is left is given up
pub told_at_end : {W : Type 0} (contents : W → Option (List ℕ)) (fault : ToolFault) (out : Option (SplitOutput W))
    (had later : Option (List ℕ)) → BeganOpen contents out → TellsOpen (Err fault) out had → later ≡ had_after contents out had
    → TellsBytes fault later
told_at_end contents fault None had later began h e = subst (TellsBytes fault) (sym e) h
told_at_end contents fault (Some out) had later began h e =
    subst (TellsBytes fault) (sym e) (told_open contents out.encoder fault began h)

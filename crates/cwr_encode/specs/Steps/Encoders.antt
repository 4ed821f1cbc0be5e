-- What an encoder keeps and represents, and what its calls do to that.
use Rattle.std.specs.Prelude.{◌≡◌, ℕ, ◌+◌, Bool, true, false, List, [], ◌∷◌, ◌++◌, map, Option, Some, None, unwrap_or, Result, Ok}
use Rattle.std.specs.Prelude.{Err, nat_lt, if◌then◌else◌}
use Rattle.std.specs.List.{AllByRecursion}
use Rattle.cwr_devices.specs.Format.Failures.{one_more_failure}
use Rattle.cwr_fields.specs.declared.codes.TransactionType.{TransactionType}
use Rattle.cwr_fields.specs.declared.kinds.Kind.{Kind}
use Rattle.cwr_lines.specs.Format.Records.{RecordValue, IsRecord}
use Rattle.cwr_shape.specs.declared.symbols.Symbol.{Symbol}
use Rattle.cwr_shape.specs.declared.stages.Stage.{Stage}
use Rattle.cwr_shape.specs.declared.stages.Stage.TheVariants as stages
use Rattle.cwr_shape.specs.declared.stages.TransactionStep.TheVariants as steps
use Rattle.cwr_shape.specs.declared.tallies.Bar.{Bar}
use Rattle.cwr_shape.specs.declared.tallies.Bar.TheVariants as bars
use Rattle.cwr_shape.specs.Format.Numbers.{symbol_kind, number_in}
use Rattle.cwr_shape.specs.declared.limits.LimitKind.{LimitKind}
use Rattle.cwr_shape.specs.declared.limits.LimitKind.TheVariants.{Records, Transaction}
use Rattle.cwr_shape.specs.Format.Ranges.{LimitValues}
use Rattle.cwr_shape.specs.Format.Outlines.{Continues}
use Rattle.cwr_shape.specs.Format.AnyTransmission.{Any}
use Rattle.cwr_shape.specs.Steps.Tallies as tallies
use Rattle.cwr_shape.specs.Format.NextSymbols.{open_type}
use Rattle.cwr_shape.specs.Steps.Tallies.{TallyValue}
use Rattle.cwr_values.specs.Format.Values.{symbol_of}
use Rattle.cwr_values.specs.Format.Begins.{numbers_after}
use Rattle.cwr_encode.specs.declared.encoders.Encoder.{Encoder}
use Rattle.cwr_encode.specs.declared.encoders.Reached.{Reached}
use Rattle.cwr_encode.specs.declared.encoders.Reached.TheVariants as reached_to
use Rattle.cwr_encode.specs.declared.encoders.EncodeFault.{EncodeFault}
use Rattle.cwr_encode.specs.declared.encoders.EncodeFault.TheVariants.{OutOfOrder, Incomplete, Limit, Writer}
use Rattle.cwr_devices.specs.Steps.Sinks.{HasWritten, has_failed, written_of, writer_of}
use Rattle.cwr_encode.specs.Format.Encoders.{part_of, reached, IsBetween, IsInGroup}

-- at a stage
abbrev pub reached_at : Stage → Reached
reached_at stages.Start = reached_to.Nothing
reached_at stages.Opened = reached_to.Opening
reached_at (stages.Within ty steps.InGroup) = reached_to.GroupHead
reached_at (stages.Within ty step) = reached_to.Inside
reached_at stages.Closed = reached_to.GroupFoot
reached_at stages.Ended = reached_to.End

-- ---- what an encoder represents

-- its writer failed
abbrev pub is_stopped : {W : Type 0} → Encoder W → Bool
is_stopped e = has_failed e.sink

-- how many bytes it has written
abbrev pub bytes_written : {W : Type 0} → Encoder W → ℕ
bytes_written e = written_of e.sink

-- its writer
abbrev pub target_of : {W : Type 0} → Encoder W → W
target_of e = writer_of e.sink

-- the limits that it was given
abbrev pub encoder_limits : {W : Type 0} → Encoder W → LimitValues
encoder_limits e = e.tally.limits

-- The encoder accepted these records, which begin a transmission within its limits, the last transaction whole. After what
-- its writer had at the start it has written their part, or, once its writer failed, the first bytes of that.
pub record Encodes {W : Type 0} (contents : W → Option (List ℕ)) (start : Option (List ℕ)) (records : List RecordValue)
    (e : Encoder W) : Type 0 where
  pub counted : tallies.IsTallyOf e.tally (map symbol_of records)
  pub in_order : AllByRecursion IsRecord records
  pub between : IsBetween (map symbol_of records)
  pub written : HasWritten contents start (part_of records) e.sink

-- whatever records the encoder represented, it represents these records more
abbrev pub RepresentsMore : {W : Type 0} → (W → Option (List ℕ)) → List RecordValue → Encoder W → Encoder W → Type 0
RepresentsMore contents added old new =
    (start : Option (List ℕ)) (records : List RecordValue) → Encodes contents start records old
    → Encodes contents start (records ++ added) new

-- What a call does that adds these records, where the writer hasn't failed before: where it is refused nothing is changed
-- and nothing written. Else the records are accepted, and the writer failed exactly where that is the answer.
abbrev pub AddsRecords : {W : Type 0} → (W → Option (List ℕ)) → (W → ℕ) → List RecordValue → Result (Unit {0}) EncodeFault
    → Encoder W → Encoder W → Type 0
AddsRecords contents failures added (Ok x) old new =
    RepresentsMore contents added old new × (is_stopped new ≡ false) × (failures (target_of new) ≡ failures (target_of old))
AddsRecords contents failures added (Err (Writer written)) old new =
    RepresentsMore contents added old new × (is_stopped new ≡ true) × (written ≡ bytes_written new)
    × (failures (target_of new) ≡ one_more_failure (failures (target_of old)))
AddsRecords contents failures added (Err fault) old new = new ≡ old

-- after a fault of the writer each call answers the same, and changes nothing
abbrev pub AnswersAgain : {W A : Type 0} → Result A EncodeFault → Encoder W → Encoder W → Type 0
AnswersAgain result old new = (result ≡ Err (Writer (bytes_written old))) × (new ≡ old)

-- ---- steps of the calls

-- the number that belongs in field j of the next record, if that is of the kind, and 0 where that field has none
abbrev pub IsNextNumber : TallyValue → Kind → ℕ → ℕ → Type 0
IsNextNumber t kind j n =
    (xs : List Symbol) (s : Symbol) → tallies.IsTallyOf t xs → symbol_kind s ≡ kind → Continues Any (xs ++ s ∷ [])
    → n ≡ unwrap_or (number_in kind j (numbers_after xs kind)) 0

-- the fault that a bar is
abbrev pub fault_of_bar : Bar → EncodeFault
fault_of_bar bars.Misplaced = OutOfOrder
fault_of_bar (bars.Limit limit) = Limit limit

-- a group of the type is open, in which each transaction is whole
pub record TakesTransactions (ty : TransactionType) (xs : List Symbol) : Type 0 where
  pub same_type : open_type xs ≡ ty
  pub inside : IsInGroup (reached xs)
  pub between : IsBetween xs

-- where each transaction is whole, no group is open
abbrev pub TakesNoTransactions : List Symbol → Type 0
TakesNoTransactions xs = IsBetween xs → ¬ IsInGroup (reached xs)

-- the first limit that is passed with a transaction of so many records more, and GRT and TRL
abbrev pub passed_with : TallyValue → ℕ → Option LimitKind
passed_with t n = if nat_lt t.limits.records (t.counts.records + 2 + n) then Some Records
    else (if nat_lt t.limits.transaction n then Some Transaction else None)

-- why a transmission may not end: after HDR it has no group, and else the call is out of order
abbrev pub end_fault : Reached → EncodeFault
end_fault reached_to.Opening = Incomplete
end_fault r = OutOfOrder

-- that is so of whatever records the encoder represents
abbrev pub OfEncoded : {W : Type 0} → (W → Option (List ℕ)) → Encoder W → (List RecordValue → Type 0) → Type 0
OfEncoded contents e P = (start : Option (List ℕ)) (records : List RecordValue) → Encodes contents start records e → P records

-- that is so of the records that the encoder has taken, where its writer hasn't failed
abbrev pub OfTaken : {W : Type 0} → (W → Option (List ℕ)) → Encoder W → (List RecordValue → Type 0) → Type 0
OfTaken contents e P = is_stopped e ≡ false → OfEncoded contents e P

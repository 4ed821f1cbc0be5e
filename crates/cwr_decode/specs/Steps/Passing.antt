-- Whole transactions that are passed over: their lines are judged where they stand, and a keeper keeps of them what it must.
use Rattle.std.specs.Prelude.{◌≡◌, ◌≢◌, ◌⊎◌, ℕ, ◌+◌, ◌<◌, ◌≤◌, Bool, false, List, [], ◌∷◌, ◌++◌, length, map, take, drop, sum_by, Option, Some}
use Rattle.std.specs.Prelude.{None, IfSome, Result, Err}
use Rattle.std.specs.List.{AllByRecursion}
use Rattle.std.specs.Io.KnownBytes.{Consumes}
use Rattle.cwr_devices.specs.Format.Failures.{one_more_failure}
use Rattle.cwr_lines.specs.Format.Records.{RecordValue}
use Rattle.cwr_lines.specs.Steps.Held.{HeldLine, empty_line, held_record}
use Rattle.cwr_shape.specs.Steps.Tallies.{TallyValue}
use Rattle.cwr_values.specs.declared.items.Item.{Item}
use Rattle.cwr_values.specs.declared.items.Item.TheVariants as items
use Rattle.cwr_decode.specs.declared.outcomes.Outcome.TheVariants as outcomes
use Rattle.cwr_decode.specs.declared.machine.Found.{Found}
use Rattle.cwr_decode.specs.declared.machine.Found.TheVariants.{Added, Ends, Nothing}
use Rattle.cwr_decode.specs.declared.machine.Passed.{Passed}
use Rattle.cwr_decode.specs.declared.machine.State.TheVariants.{Reading, Pending}
use Rattle.cwr_decode.specs.declared.readings.ReadFault.{ReadFault}
use Rattle.cwr_decode.specs.declared.readings.ReadFault.TheVariants.{Reader}
use Rattle.cwr_decode.specs.Steps.Calls.{Fed, IsLive, OfRepresented}
use Rattle.cwr_decode.specs.Steps.Machines.{EntersHeld, FindsCut, IsReady, JudgesFront, Standing, WaitsOutside, again}
use Rattle.cwr_decode.specs.Steps.Readings.{IsSpent, Reads, answer_of}
use Rattle.cwr_decode.specs.Steps.Represents.{Represents}

-- what a decoder would be at the start of a line, had it held the records of the open transaction
abbrev pub at_line : Bool → TallyValue → List RecordValue → Standing
at_line finished tally so_far =
    record { line = empty_line; tally = tally; held = Some so_far; state = Reading; finished = finished }

-- a record waits, and nothing is held of a transaction
abbrev pub waiting : Bool → TallyValue → HeldLine → Standing
waiting finished tally line = record { line = line; tally = tally; held = None; state = Pending; finished = finished }

-- that is so of whatever records of the open transaction the keeper stands for
abbrev pub OfKept : {K : Type 0} → (K → List RecordValue → Type 0) → K → (List RecordValue → Type 0) → Type 0
OfKept stands_for kept P = (so_far : List RecordValue) → stands_for kept so_far → P so_far

-- what a line was found to be, where a keeper stands for the records of the open transaction: these, and then one more
abbrev pub KeepsCut : {K : Type 0} → (K → List RecordValue → Type 0) → Found → HeldLine → List RecordValue → TallyValue
    → TallyValue → K → Type 0
KeepsCut stands_for Added line so_far tally counted kept =
    (next : RecordValue) × stands_for kept (so_far ++ next ∷ [])
    × FindsCut Added line tally (Some so_far) counted (Some (so_far ++ next ∷ []))
KeepsCut stands_for Ends line so_far tally counted kept =
    stands_for kept so_far × FindsCut Ends line tally (Some so_far) counted (Some so_far)
KeepsCut stands_for Nothing line so_far tally counted kept = Unit {0}

-- the same, where one that ends a transaction that is as it should be is held
abbrev pub KeepsLine : {K : Type 0} → (K → List RecordValue → Type 0) → (List RecordValue → Type 0) → Found → HeldLine
    → List RecordValue → TallyValue → TallyValue → K → HeldLine → Type 0
KeepsLine stands_for are_clean Ends line so_far tally counted kept held =
    are_clean so_far × FindsCut Ends line tally (Some so_far) counted (Some so_far) × (held ≡ line)
KeepsLine stands_for are_clean found line so_far tally counted kept held =
    KeepsCut stands_for found line so_far tally counted kept

-- what the line at the front of a piece was found to be: its record is one more of the open transaction; or it ends that, which is
-- as it should be, and waits
abbrev pub KeepsFront : {K : Type 0} → (K → List RecordValue → Type 0) → (List RecordValue → Type 0) → Found → Bool
    → List RecordValue → List ℕ → ℕ → TallyValue → TallyValue → K → HeldLine → Type 0
KeepsFront stands_for are_clean Added finished so_far piece used tally counted kept line =
    (next : RecordValue) × stands_for kept (so_far ++ next ∷ [])
    × JudgesFront (at_line finished tally so_far) piece used None (at_line finished counted (so_far ++ next ∷ []))
KeepsFront stands_for are_clean Ends finished so_far piece used tally counted kept line =
    are_clean so_far × JudgesFront (at_line finished tally so_far) piece used (Some (outcomes.Item (items.Transaction so_far)))
    (waiting finished counted line)
KeepsFront stands_for are_clean Nothing finished so_far piece used tally counted kept line = Unit {0}

-- the keeper stands for the header of the open transaction, of which nothing else was read
pub record BeginsHeld {K : Type 0} (stands_for : K → List RecordValue → Type 0) (d : Standing) (kept : K) : Type 0 where
  pub header : RecordValue
  pub stands : stands_for kept (header ∷ [])
  pub same : d ≡ at_line d.finished d.tally (header ∷ [])

-- the keeper stands for the header of a transaction that waits, and would be entered
pub record BeginsWaiting {K : Type 0} (stands_for : K → List RecordValue → Type 0) (d : Standing) (kept : K) : Type 0 where
  pub header : RecordValue
  pub stands : stands_for kept (header ∷ [])
  pub enters : EntersHeld (held_record d.line) d None (at_line d.finished d.tally (header ∷ []))

-- no accepted record is forgotten, and the state changes only with one more
pub record GrowsWith (old new : Standing) : Type 0 where
  pub kept : old.tally.counts.records ≤ new.tally.counts.records
  pub more : new.state ≢ old.state → old.tally.counts.records < new.tally.counts.records

-- Whole transactions were passed over, each of which is as it should be: so many bytes of the piece are theirs.
pub record Passes (are_clean : List RecordValue → Type 0) (old : Standing) (piece : List ℕ) (passed : Passed)
    (new : Standing) : Type 0 where
  pub within : passed.used ≤ length piece
  pub wholes : List (List RecordValue)
  pub clean : AllByRecursion are_clean wholes
  pub transactions : passed.transactions ≡ length wholes
  pub records : passed.records ≡ sum_by length wholes
  pub stands : (input : List ℕ) (given : List Item) → Represents old input given
      → Represents new (input ++ take passed.used piece) (given ++ map items.Transaction wholes)
  pub ready : IsReady new.state new.finished new.line
  pub live : IsLive old.state → IsLive new.state
  pub finished : new.finished ≡ old.finished
  pub limits : new.tally.limits ≡ old.tally.limits
  pub grows : OfRepresented old (λ input given. GrowsWith old new)

-- how far a pass has come: whole transactions were passed over, and then lines of the open one were judged
pub record IsPassing {K : Type 0} (stands_for : K → List RecordValue → Type 0) (are_clean : List RecordValue → Type 0)
    (old self : Standing) (piece : List ℕ) (passed : Passed) (fed records : ℕ) (tally : TallyValue) (kept : K) : Type 0 where
  pub passes : Passes are_clean old piece passed self
  pub so_far : List RecordValue
  pub stands : stands_for kept so_far
  pub counted : records ≡ length so_far
  pub fed_on : Fed self (drop passed.used piece) fed (at_line self.finished tally so_far)
  pub few : passed.records + records ≤ passed.used + fed + 1
  pub fewer : passed.transactions ≤ passed.used

-- ---- from a reader

-- Whole transactions of a reader were passed over: just the bytes that it lost are theirs. Where nothing was answered for good, that
-- is still so, and else nothing is passed over.
pub record PassesOver (are_clean : List RecordValue → Type 0) (old : Standing) (left : Option (List ℕ)) (passed : Passed)
    (new : Standing) (after : Option (List ℕ)) : Type 0 where
  pub bytes : List ℕ
  pub consumed : Consumes left after bytes
  pub wholes : List (List RecordValue)
  pub clean : AllByRecursion are_clean wholes
  pub transactions : passed.transactions ≡ length wholes
  pub records : passed.records ≡ sum_by length wholes
  pub stands : (input : List ℕ) (given : List Item) → Represents old input given
      → Represents new (input ++ bytes) (given ++ map items.Transaction wholes)
  pub live : IsLive new.state ⊎ ((new.state ≡ old.state) × (bytes ≡ []) × (wholes ≡ []))
  pub spent : IsSpent old left → IfSome left (λ _. IsSpent new after)
  pub limits : new.tally.limits ≡ old.tally.limits

-- Whole transactions were passed over, and then something was read.
pub record ReadsPassing (are_clean : List RecordValue → Type 0) (old : Standing) (left : Option (List ℕ)) (passed : Passed)
    (answer : Result (Option Item) ReadFault) (new : Standing) (after : Option (List ℕ)) : Type 0 where
  pub between : Standing
  pub left_between : Option (List ℕ)
  pub passes : PassesOver are_clean old left passed between left_between
  pub reads : Reads between left_between answer new after
  pub again : IfSome (again between.state)
      (λ outcome. (Some answer ≡ answer_of outcome) × (new ≡ between) × (after ≡ left_between))

-- the reader failed, or transactions of it were passed over
abbrev pub PassesOrFails : (List RecordValue → Type 0) → Standing → Option (List ℕ) → Option Passed → Standing → Option (List ℕ)
    → Type 0
PassesOrFails are_clean old left None new after = Reads old left (Err Reader) new after × IsLive old.state
PassesOrFails are_clean old left (Some passed) new after = PassesOver are_clean old left passed new after

-- The decoder reads, or read on with an accepted record more: nothing was answered for good, the input hasn't ended, and no record
-- waited that is an item of its own.
pub record PassesOn (old new : Standing) : Type 0 where
  pub live : IsLive old.state
  pub fresh : old.finished ≡ false
  pub inside : ¬ WaitsOutside old
  pub kept : old.tally.counts.records ≤ new.tally.counts.records
  pub more : new.state ≢ Reading → old.tally.counts.records < new.tally.counts.records

-- nothing changed, or the decoder read on
abbrev pub StaysOrPasses : {R : Type 0} → Standing → R → Standing → R → Type 0
StaysOrPasses old before new after = ((new ≡ old) × (after ≡ before)) ⊎ PassesOn old new

-- a reader's failures count one more where it failed, and else they stay
abbrev pub CountsPassing : Option Passed → ℕ → ℕ → Type 0
CountsPassing None old new = new ≡ one_more_failure old
CountsPassing (Some passed) old new = new ≡ old

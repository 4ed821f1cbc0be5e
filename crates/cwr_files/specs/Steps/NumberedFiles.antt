-- What is kept of the files of a split, and what lies under names while they are made.
use Rattle.std.specs.Prelude.{◌≡◌, ℕ, zero, suc, ◌+◌, ◌≤◌, ◌<◌, Bool, true, false, List, [], ◌∷◌, length, Option, Some, None, IsSome}
use Rattle.std.specs.Coded.{Coded-set, Unit-prop, coded_list, coded_option, coded_ℕ, le_prop, Π_prop, ×_prop, →_prop}
use mathlib.Core.HLevel.{×₃_prop}
use mathlib.Core.Logic.{∥∥₁_prop}
use Rattle.cwr_devices.specs.Format.Failures.{most_failures}
use Rattle.cwr_files.specs.Format.Faults.{IsFaultOfPart}
use Rattle.cwr_files.specs.Format.Files.{HasCounted, Same, Texts}
use Rattle.cwr_files.specs.Format.NewFiles.{IsNoPart}
use Rattle.cwr_files.specs.Format.Parts.{created_parts, part_name, put_parts}
use Rattle.cwr_files.specs.Steps.NewFiles.{HasKeptCount, IsBegun, final_name}
use Rattle.cwr_files.specs.declared.faults.Fault.{Fault}
use Rattle.cwr_files.specs.declared.faults.Fault.TheVariants as faults
use Rattle.cwr_files.specs.declared.faults.Name.{Name}
use Rattle.cwr_files.specs.declared.faults.Told.{Told}
use Rattle.cwr_files.specs.declared.faults.Name.TheVariants.{Part}
use Rattle.cwr_files.specs.declared.numberings.Numbering.{Numbering}
use Rattle.cwr_files.specs.declared.new_files.NewFile.{NewFile}
use Rattle.cwr_files.specs.declared.outputs.Output.{Output}
use Rattle.cwr_files.specs.declared.stamps.Stamped.{Stamped}
use Rattle.cwr_files.specs.Format.Written.{text_of_stamped}
use Rattle.cwr_files.specs.Steps.Gathering.{written_to}
use Rattle.cwr_devices.specs.declared.counted.Counted.{Counted}
use Rattle.std.specs.declared.io.buffered.BufWriter.{BufWriter}
use Rattle.cwr_moments.specs.declared.moments.Moment.{Moment}

-- how many calls failed
abbrev pub failed_calls_of : Numbering → ℕ
failed_calls_of numbering = numbering.failed_calls

-- how many were asked for
abbrev pub asked_of : Numbering → ℕ
asked_of numbering = numbering.asked

-- no part may replace a file
abbrev pub replaces_none : Numbering → Bool
replaces_none numbering = numbering.only_new

-- when the first one is created, if not when the transmission was
abbrev pub created_of : Numbering → Option Moment
created_of numbering = numbering.created

-- how many failed writers were given up
abbrev pub given_up_of : Numbering → ℕ
given_up_of numbering = numbering.given_up

-- one file is being written, or none
abbrev pub written_at : Option NewFile → ℕ
written_at None = 0
written_at (Some file) = 1

abbrev pub lent_of : Numbering → ℕ
lent_of numbering = written_at numbering.open_file

-- the one that is being written
abbrev pub made_in : Numbering → Option NewFile
made_in numbering = numbering.open_file

-- no part is asked for any more: one couldn't be made or finished, or was given up
abbrev pub has_stopped : Numbering → Bool
has_stopped numbering = numbering.stopped

-- why a part couldn't be made, finished or written, where that is so
abbrev pub fault_of : Numbering → Option Fault
fault_of numbering = numbering.fault

-- what the names of the parts begin with
abbrev pub prefix_of : Numbering → List ℕ
prefix_of numbering = numbering.prefix.now

-- what the part in hand is called
abbrev pub name_of : Numbering → Name
name_of numbering = Part numbering.prefix numbering.asked

-- The part couldn't be made: it is the input, or it is there where none may be replaced, or the day ends before it is created, or the
-- system couldn't make it, or there was no memory.
abbrev pub IsPartUnmade : Numbering → Fault → Type 0
IsPartUnmade numbering (faults.IsInput of) = of ≡ name_of numbering
IsPartUnmade numbering (faults.IsThere of) = (of ≡ name_of numbering) × (numbering.only_new ≡ true)
IsPartUnmade numbering (faults.Output of reason) = of ≡ name_of numbering
IsPartUnmade numbering (faults.IsLate of) = (of ≡ name_of numbering) × IsSome numbering.created
IsPartUnmade numbering faults.Memory = Unit {0}
IsPartUnmade numbering fault = ⊥

-- ---- what lies under names

-- Of the part of that name: it is being written, or, where there is none, nothing changed.
abbrev pub IsBegunAs : Option NewFile → List ℕ → Option (List ℕ) → Texts → Texts → Type 0
IsBegunAs None name making texts new = Same texts new × (making ≡ None)
IsBegunAs (Some made) name making texts new = (final_name made ≡ name) × IsBegun made making texts new

-- Under each name lies what lay there, but that something may be left under a name of what isn't whole, if calls failed since then.
abbrev pub LeavesBut : List ℕ → ℕ → ℕ → Texts → Texts → Type 0
LeavesBut name old failures texts new =
    ((n : List ℕ) → IsNoPart name n → new n ≡ texts n) × (failures ≤ old → failures < most_failures → Same texts new)

-- the part of that number is being written, and under each other name lies what lay there
abbrev pub IsWriting : List ℕ → ℕ → NewFile → Option (List ℕ) → Texts → Texts → Type 0
IsWriting prefix number made making texts new = (final_name made ≡ part_name prefix number) × ∥ IsBegun made making texts new ∥₁

-- nothing is being written, and under each name lies what lay there
abbrev pub IsResting : Option (List ℕ) → Option Texts → ℕ → Texts → ℕ → Type 0
IsResting making None failures texts old = ⊥
IsResting making (Some new) failures texts old = Same texts new × (making ≡ None) × HasKeptCount old failures

-- So many parts are finished, and the texts were these then, where so many failures had been counted at first. No part is asked for any
-- more; one may be in hand.
abbrev pub HasEnded : List ℕ → Option NewFile → Option (List ℕ) → Option Texts → ℕ → Texts → ℕ → ℕ → Type 0
HasEnded prefix made making None failures texts count old = ⊥
HasEnded prefix None making (Some new) failures texts count old = LeavesBut (part_name prefix (count + 1)) old failures texts new
HasEnded prefix (Some made) making (Some new) failures texts count old =
    IsWriting prefix (count + 1) made making texts new × HasKeptCount old failures

-- none is in hand: no part is asked for any more, or the next one may be
abbrev pub RestsAt : Bool → List ℕ → ℕ → Option (List ℕ) → Option Texts → ℕ → Texts → ℕ → ℕ → Type 0
RestsAt true prefix asked making held failures texts count old = HasEnded prefix None making held failures texts count old
RestsAt false prefix asked making held failures texts count old = IsResting making held failures texts old × (asked ≡ count)

-- so it is, or the one that was asked for last is in hand
abbrev pub StandsAt : Bool → List ℕ → ℕ → Option NewFile → Option (List ℕ) → Option Texts → ℕ → Texts → ℕ → ℕ → Type 0
StandsAt stopped prefix asked None making held failures texts count old = RestsAt stopped prefix asked making held failures texts count old
StandsAt stopped prefix asked (Some made) making held failures texts count old =
    HasEnded prefix (Some made) making held failures texts count old × (asked ≡ count + 1)

abbrev pub Stands : Numbering → Option (List ℕ) → Option Texts → ℕ → Texts → ℕ → ℕ → Type 0
Stands numbering making held failures texts count old =
    StandsAt (has_stopped numbering) (prefix_of numbering) numbering.asked numbering.open_file making held failures texts count old

-- the first
abbrev pub StandsStill : Numbering → Option (List ℕ) → Option Texts → ℕ → Texts → ℕ → ℕ → Type 0
StandsStill numbering making held failures texts count old =
    HasEnded (prefix_of numbering) numbering.open_file making held failures texts count old

-- ---- each has one proof at most

pub Same-prop : (texts new : Texts) → IsProp (Same texts new)
Same-prop texts new = Π_prop (λ n. Coded-set (coded_option (coded_list coded_ℕ)) (new n) (texts n))

HasKeptCount-prop : (old failures : ℕ) → IsProp (HasKeptCount old failures)
HasKeptCount-prop old failures = →_prop le_prop

pub LeavesBut-prop : (name : List ℕ) (old failures : ℕ) (texts new : Texts) → IsProp (LeavesBut name old failures texts new)
LeavesBut-prop name old failures texts new =
    ×_prop (Π_prop (λ n. →_prop (Coded-set (coded_option (coded_list coded_ℕ)) (new n) (texts n))))
    (→_prop (→_prop (Same-prop texts new)))

IsResting-prop : (making : Option (List ℕ)) (held : Option Texts) (failures : ℕ) (texts : Texts) (old : ℕ)
    → IsProp (IsResting making held failures texts old)
IsResting-prop making None failures texts old = λ x y. absurd x
IsResting-prop making (Some new) failures texts old =
    ×₃_prop (Same-prop texts new) (Coded-set (coded_option (coded_list coded_ℕ)) making None) (HasKeptCount-prop old failures)

HasEnded-prop : (prefix : List ℕ) (made : Option NewFile) (making : Option (List ℕ)) (held : Option Texts) (failures : ℕ) (texts : Texts)
    (count old : ℕ) → IsProp (HasEnded prefix made making held failures texts count old)
HasEnded-prop prefix None making None failures texts count old = λ x y. absurd x
HasEnded-prop prefix (Some made) making None failures texts count old = λ x y. absurd x
HasEnded-prop prefix None making (Some new) failures texts count old = LeavesBut-prop (part_name prefix (count + 1)) old failures texts new
HasEnded-prop prefix (Some made) making (Some new) failures texts count old =
    ×_prop (×_prop (Coded-set (coded_list coded_ℕ) (final_name made) (part_name prefix (count + 1))) ∥∥₁_prop)
    (HasKeptCount-prop old failures)

pub StandsAt-prop : (stopped : Bool) (prefix : List ℕ) (asked : ℕ) (made : Option NewFile) (making : Option (List ℕ)) (held : Option Texts)
    (failures : ℕ) (texts : Texts) (count old : ℕ) → IsProp (StandsAt stopped prefix asked made making held failures texts count old)
StandsAt-prop true prefix asked None making held failures texts count old =
    HasEnded-prop prefix None making held failures texts count old
StandsAt-prop false prefix asked None making held failures texts count old =
    ×_prop (IsResting-prop making held failures texts old) (Coded-set coded_ℕ asked count)
StandsAt-prop stopped prefix asked (Some made) making held failures texts count old =
    ×_prop (HasEnded-prop prefix (Some made) making held failures texts count old) (Coded-set coded_ℕ asked (count + 1))

-- the fault is one that a part of a split may have
abbrev pub FaultIsOfPart : ℕ → ℕ → Option Fault → Type 0
FaultIsOfPart old failures None = Unit {0}
FaultIsOfPart old failures (Some fault) = IsFaultOfPart old failures fault

HasCounted-prop : (old failures : ℕ) → IsProp (HasCounted old failures)
HasCounted-prop old failures = →_prop le_prop

IsFaultOfPart-prop : (old failures : ℕ) (fault : Fault) → IsProp (IsFaultOfPart old failures fault)
IsFaultOfPart-prop old failures (faults.Open of reason) = λ x y. absurd x
IsFaultOfPart-prop old failures (faults.Read told) = λ x y. absurd x
IsFaultOfPart-prop old failures (faults.Write told) = HasCounted-prop old failures
IsFaultOfPart-prop old failures (faults.Output of None) = Unit-prop
IsFaultOfPart-prop old failures (faults.Output of (Some reason)) = →_prop (HasCounted-prop old failures)
IsFaultOfPart-prop old failures (faults.IsInput of) = Unit-prop
IsFaultOfPart-prop old failures (faults.IsThere of) = Unit-prop
IsFaultOfPart-prop old failures (faults.IsTwice of) = λ x y. absurd x
IsFaultOfPart-prop old failures (faults.IsOther of) = λ x y. absurd x
IsFaultOfPart-prop old failures (faults.IsLate of) = Unit-prop
IsFaultOfPart-prop old failures faults.Memory = Unit-prop

pub FaultIsOfPart-prop : (old failures : ℕ) (fault : Option Fault) → IsProp (FaultIsOfPart old failures fault)
FaultIsOfPart-prop old failures None = Unit-prop
FaultIsOfPart-prop old failures (Some fault) = IsFaultOfPart-prop old failures fault

-- the fault once the writer of the part in hand was given up, if there is one, which failed so often
abbrev pub fault_after : ℕ → Option NewFile → Told → Option Fault → Option Fault
fault_after zero made told fault = fault
fault_after (suc times) None told fault = fault
fault_after (suc times) (Some made) told fault = Some (faults.Write told)

-- a fault of a part that was known stays one, or another one takes its place
abbrev pub KeepsFault : ℕ → ℕ → Option Fault → Option Fault → Type 0
KeepsFault failures after was now =
    (first : ℕ) → HasKeptCount first failures → FaultIsOfPart first failures was → FaultIsOfPart first after now

-- ---- what is told of those that are finished

-- the text before these, where all are known
abbrev pub with_first : Option (List ℕ) → Option (List (List ℕ)) → Option (List (List ℕ))
with_first None rest = None
with_first (Some text) None = None
with_first (Some text) (Some rest) = Some (text ∷ rest)

-- the texts of writers, where all are known
abbrev pub known_texts : {W : Type 0} → (W → Option (List ℕ)) → List W → Option (List (List ℕ))
known_texts contents [] = Some []
known_texts contents (w ∷ ws) = with_first (contents w) (known_texts contents ws)

-- the texts of parts, by what their files show
abbrev pub texts_of_parts : {F A : Type 0} → (F → Option (List ℕ)) → List (Counted (BufWriter (Output (Stamped F)) A))
    → Option (List (List ℕ))
texts_of_parts contents writers = known_texts (written_to (text_of_stamped contents)) writers

-- What is told of the parts' texts, where what lay under names at first is known. Before them stands by which name the store is borrowed,
-- so that it stays known which store it is.
abbrev pub told_texts : Option Texts → ℕ → Option (List (List ℕ)) → Option (List (List ℕ))
told_texts None borrow parts = None
told_texts (Some texts) borrow None = None
told_texts (Some texts) borrow (Some parts) = Some ((borrow ∷ []) ∷ parts)

-- where both are known, it is so of them
abbrev pub WhereTold : Option Texts → Option (List (List ℕ)) → (Texts → List (List ℕ) → Type 0) → Type 0
WhereTold None parts is = Unit {0}
WhereTold (Some texts) None is = Unit {0}
WhereTold (Some texts) (Some parts) is = is texts parts

-- what lies under names is that with the parts, each with its own moment
abbrev pub IsTied : List ℕ → ℕ → Numbering → Option (List ℕ) → Option Texts → ℕ → Texts → List (List ℕ) → Type 0
IsTied prefix old numbering making held failures texts parts =
    Stands numbering making held failures (put_parts prefix 1 (created_parts (created_of numbering) parts) texts) (length parts) old

pub IsTied-prop : (before : Option Texts) (known : Option (List (List ℕ))) (prefix : List ℕ) (old : ℕ) (numbering : Numbering)
    (making : Option (List ℕ)) (held : Option Texts) (failures : ℕ)
    → IsProp (WhereTold before known (IsTied prefix old numbering making held failures))
IsTied-prop None known prefix old numbering making held failures = Unit-prop
IsTied-prop (Some texts) None prefix old numbering making held failures = Unit-prop
IsTied-prop (Some texts) (Some parts) prefix old numbering making held failures =
    StandsAt-prop (has_stopped numbering) (prefix_of numbering) numbering.asked numbering.open_file making held failures
    (put_parts prefix 1 (created_parts (created_of numbering) parts) texts) (length parts) old

-- So many calls had failed at first. Where it is known what lay under names then, nothing was being written, and the parts are called and
-- created so.
abbrev pub StartsAs : Option Texts → List ℕ → Option Moment → ℕ → Option (List ℕ) → Option Texts → ℕ → List ℕ → Option Moment → Type 0
StartsAs None prefix created old making held failures given dated = failures ≡ old
StartsAs (Some texts) prefix created old making held failures given dated =
    (making ≡ None) × (held ≡ Some texts) × (failures ≡ old) × (given ≡ prefix) × (dated ≡ created)

-- none was asked for
abbrev pub AreUnasked : Numbering → List ℕ → Option Moment → Option (List (List ℕ)) → Type 0
AreUnasked numbering prefix created known =
    (prefix_of numbering ≡ prefix) × (numbering.created ≡ created) × (numbering.stopped ≡ false) × (numbering.open_file ≡ None)
    × (numbering.asked ≡ 0) × (known ≡ Some []) × (numbering.fault ≡ None)

-- What a decoder holds, and what each of its steps does.
use Rattle.std.specs.Prelude.{◌≡◌, ◌≢◌, ◌⊎◌, ℕ, ◌+◌, ◌≤◌, Bool, true, false, List, [], ◌∷◌, ◌++◌, length, map, Option, Some, None}
use Rattle.std.specs.Prelude.{IfSome, IsSomeAnd, Result, Ok, Err, MatchOption, MatchResult}
use Rattle.std.specs.List.{AllByRecursion}
use Rattle.std.specs.declared.alloc.AllocError.{AllocError}
use Rattle.cwr_fields.specs.declared.kinds.Kind.{Kind}
use Rattle.cwr_fields.specs.declared.kinds.Kind.TheVariants.{Hdr, Grh, Grt, Trl}
use Rattle.cwr_lines.specs.declared.lines.LineEnd.TheVariants as line_ends
use Rattle.cwr_lines.specs.Format.Growth.{AsksMemory}
use Rattle.cwr_lines.specs.Format.Records.{RecordValue, IsRecord}
use Rattle.cwr_lines.specs.Steps.Held.{HeldLine, IsHeld, Takes, held_excess, held_kind, held_record, empty_line}
use Rattle.cwr_shape.specs.declared.symbols.Symbol.{Symbol}
use Rattle.cwr_shape.specs.declared.stages.Stage.{Stage}
use Rattle.cwr_shape.specs.Format.Levels.{level_of}
use Rattle.cwr_shape.specs.Format.Ranges.{AreInRange, LimitValues}
use Rattle.cwr_shape.specs.Format.NextSymbols.{scope_after}
use Rattle.cwr_shape.specs.Steps.Left.{StandsInside}
use Rattle.cwr_shape.specs.Steps.Tallies.{TallyValue, IsTallyOf}
use Rattle.cwr_values.specs.declared.items.Item.{Item}
use Rattle.cwr_values.specs.declared.items.Item.TheVariants as items
use Rattle.cwr_judge.specs.declared.judging.LineFault.{LineFault}
use Rattle.cwr_decode.specs.declared.outcomes.Outcome.{Outcome}
use Rattle.cwr_decode.specs.declared.outcomes.Outcome.TheVariants as outcomes
use Rattle.cwr_decode.specs.declared.machine.State.{State}
use Rattle.cwr_decode.specs.declared.machine.Found.{Found}
use Rattle.cwr_decode.specs.declared.machine.Found.TheVariants.{Added, Ends, Nothing}
use Rattle.cwr_decode.specs.declared.machine.State.TheVariants.{Reading, Pending, Ended, Refused, Truncated, Memory}
use Rattle.cwr_judge.specs.declared.refusals.Refusal.{Refusal}
use Rattle.cwr_judge.specs.Steps.Judged.{IsNext, IsOfNone, IsFirstFault}
use Rattle.cwr_fields.specs.Format.Kinds.{is_in_transaction}
use Rattle.cwr_values.specs.Format.Values.{symbol_of}
use Rattle.cwr_judge.specs.Steps.Open.{continues_open, open_of}

-- what a decoder holds: the line that is read or waits, what is counted of the records, and the records of the open
-- transaction; what it does next, and whether the input has ended
pub record Standing : Type 0 where
  pub line : HeldLine
  pub tally : TallyValue
  pub held : Option (List RecordValue)
  pub state : State
  pub finished : Bool

-- the line ended, and a record is in its cells
pub record HasRecord (line : HeldLine) : Type 0 where
  pub ended : line.ended ≢ line_ends.Open
  pub carries : IsSomeAnd (held_record line) IsRecord

-- while it reads, the line is open, and empty once the input has ended; while a record waits, the line has it
abbrev pub IsReady : State → Bool → HeldLine → Type 0
IsReady Reading finished line = (line.ended ≡ line_ends.Open) × (finished ≡ true → length line.bytes ≡ 0)
IsReady Pending finished line = HasRecord line
IsReady Ended finished line = Unit {0}
IsReady (Refused refusal) finished line = Unit {0}
IsReady (Truncated records) finished line = Unit {0}
IsReady Memory finished line = Unit {0}

-- a record waits that is an item of its own
abbrev pub WaitsOutside : Standing → Type 0
WaitsOutside d = (d.state ≡ Pending) × IsSomeAnd (held_record d.line) (λ r. is_in_transaction r.kind ≡ false)

-- what is answered for good, once it was answered
abbrev pub again : State → Option Outcome
again Reading = None
again Pending = None
again Ended = Some outcomes.Done
again (Refused refusal) = Some (outcomes.Refused refusal)
again (Truncated records) = Some (outcomes.Truncated records)
again Memory = Some outcomes.Memory

-- the state after an item: after a transaction the record waits that ended it, and after any other but the end a line
-- is read
abbrev pub state_after : Item → State
state_after (items.Opened r) = Reading
state_after (items.GroupOpened r) = Reading
state_after (items.Transaction records) = Pending
state_after (items.GroupClosed r) = Reading
state_after items.Ended = Ended

-- the state after an answer
abbrev pub Leaves : Outcome → State → Type 0
Leaves outcomes.More state = state ≡ Reading
Leaves (outcomes.Item item) state = state ≡ state_after item
Leaves (outcomes.Refused refusal) state = state ≡ Refused refusal
Leaves (outcomes.Truncated records) state = state ≡ Truncated records
Leaves outcomes.Memory state = state ≡ Memory
Leaves outcomes.Done state = state ≡ Ended

-- after a transaction its records aren't held, and after any other item neither those nor bytes of a line
abbrev pub Empties : Outcome → Standing → Type 0
Empties (outcomes.Item (items.Transaction records)) d = d.held ≡ None
Empties (outcomes.Item item) d = (d.line.bytes ≡ []) × (d.held ≡ None)
Empties outcome d = Unit {0}

-- the item is a transaction within the limit
abbrev pub IsWithinLimit : LimitValues → Option Item → Type 0
IsWithinLimit limits (Some (items.Transaction records)) = length records ≤ limits.transaction
IsWithinLimit limits item = ⊥

-- the next transaction has the room of the item's: no transaction is open, and more is read
abbrev pub TakesRoom : Standing → Option Item → Type 0
TakesRoom d spent = (again d.state ≡ None) × (d.held ≡ None) × IsWithinLimit d.tally.limits spent

-- ---- one step

-- nothing was read within the limits
abbrev pub at_start : TallyValue → Standing
at_start tally = record { line = empty_line; tally = tally; held = None; state = Reading; finished = false }

-- stopped for good
abbrev pub stopped : Standing → State → Standing
stopped old state = record { line = empty_line; tally = old.tally; held = None; state = state; finished = old.finished }

-- a line was refused: the open transaction is held as it was
abbrev pub with_refusal : Standing → Refusal → Standing
with_refusal old refusal = record {
  line = empty_line;
  tally = old.tally;
  held = old.held;
  state = Refused refusal;
  finished = old.finished;
}

-- at the start of a line
abbrev pub reading : Standing → Option (List RecordValue) → Standing
reading old held = record { line = empty_line; tally = old.tally; held = held; state = Reading; finished = old.finished }

-- the records that are held, if any are
abbrev pub held_list : Option (List RecordValue) → List RecordValue
held_list None = []
held_list (Some records) = records

-- the records of the open transaction as they are held
abbrev pub held_of : List RecordValue → Option (List RecordValue)
held_of [] = None
held_of (r ∷ records) = Some (r ∷ records)

-- the tally is that of some records, and those of their open transaction are held
pub record AreHeld (tally : TallyValue) (kept : Option (List RecordValue)) : Type 0 where
  pub in_range : AreInRange tally.limits
  pub records : List RecordValue
  pub in_order : AllByRecursion IsRecord records
  pub counted : IsTallyOf tally (map symbol_of records)
  pub held : kept ≡ held_of (open_of records)

abbrev pub HoldsOpen : Standing → Type 0
HoldsOpen d = AreHeld d.tally d.held

-- the record continues a transaction's records, or begins one where none are, and comes to that stage
abbrev pub ComesTo : Stage → List RecordValue → RecordValue → Type 0
ComesTo stage records r = StandsInside stage (map symbol_of records ++ symbol_of r ∷ [])

-- a record that stands inside transactions continues the one that is held, or begins one where none is, and comes to that stage
abbrev pub FitsHeld : Stage → RecordValue → Option (List RecordValue) → Type 0
FitsHeld stage r held = is_in_transaction r.kind ≡ true → ComesTo stage (held_list held) r

-- so does the record that waits, if one does
abbrev pub FitsWaiting : Standing → Type 0
FitsWaiting d = d.state ≡ Pending → IfSome (held_record d.line) (λ r. FitsHeld d.tally.stage r d.held)

-- the open transaction is taken out, unless the next record continues it
abbrev pub HandsOut : Bool → Option (List RecordValue) → Option (List RecordValue) → Option (List RecordValue) → Type 0
HandsOut true old result new = (result ≡ None) × (new ≡ old)
HandsOut false old result new = (result ≡ old) × (new ≡ None)

-- an accepted record of the kind is added to those that are held, unless their list asks for memory and finds none; or it is
-- an item of its own
abbrev pub Adds : Kind → RecordValue → Option (List RecordValue) → Result (Option Item) AllocError → Option (List RecordValue)
    → Type 0
Adds Hdr r old result new = (result ≡ Ok (Some (items.Opened r))) × (new ≡ old)
Adds Grh r old result new = (result ≡ Ok (Some (items.GroupOpened r))) × (new ≡ old)
Adds Grt r old result new = (result ≡ Ok (Some (items.GroupClosed r))) × (new ≡ old)
Adds Trl r old result new = (result ≡ Ok (Some items.Ended)) × (new ≡ old)
Adds this_kind r old result new =
    MatchResult result (λ item. (item ≡ None) × (new ≡ Some (held_list old ++ r ∷ []))) (λ fault. AsksMemory (held_list old) r)

-- after an accepted record a new line begins, unless that was the last one or found no memory
abbrev pub FinishesRecord : Result (Option Item) AllocError → Standing → Option Outcome → Standing → Type 0
FinishesRecord (Err fault) old result new = (result ≡ Some outcomes.Memory) × (new ≡ stopped old Memory)
FinishesRecord (Ok None) old result new = (result ≡ None) × (new ≡ reading old old.held)
FinishesRecord (Ok (Some items.Ended)) old result new = (result ≡ Some (outcomes.Item items.Ended)) × (new ≡ stopped old Ended)
FinishesRecord (Ok (Some item)) old result new = (result ≡ Some (outcomes.Item item)) × (new ≡ reading old old.held)

-- a record is added to those that are held, or finds no memory where their list asks for some
abbrev pub EntersTransaction : RecordValue → Standing → Option Outcome → Standing → Type 0
EntersTransaction r old result new = MatchOption result (new ≡ reading old (Some (held_list old.held ++ r ∷ [])))
    (λ o. (o ≡ outcomes.Memory) × (new ≡ stopped old Memory) × AsksMemory (held_list old.held) r)

-- an accepted record of the kind is entered
abbrev pub Enters : Kind → RecordValue → Standing → Option Outcome → Standing → Type 0
Enters Hdr r old result new = (result ≡ Some (outcomes.Item (items.Opened r))) × (new ≡ reading old old.held)
Enters Grh r old result new = (result ≡ Some (outcomes.Item (items.GroupOpened r))) × (new ≡ reading old old.held)
Enters Grt r old result new = (result ≡ Some (outcomes.Item (items.GroupClosed r))) × (new ≡ reading old old.held)
Enters Trl r old result new = (result ≡ Some (outcomes.Item items.Ended)) × (new ≡ stopped old Ended)
Enters this_kind r old result new = EntersTransaction r old result new

-- the same with that tally
abbrev pub with_tally : Standing → TallyValue → Standing
with_tally old tally = record { line = old.line; tally = tally; held = old.held; state = old.state; finished = old.finished }

-- the same with that line
abbrev pub with_line : Standing → HeldLine → Standing
with_line old line = record { line = line; tally = old.tally; held = old.held; state = old.state; finished = old.finished }

-- the record of the line waits
abbrev pub pending : Standing → Standing
pending old = record { line = old.line; tally = old.tally; held = None; state = Pending; finished = old.finished }

-- a record is entered at once where it continues the open transaction or none is open; else that is handed out first
abbrev pub Follows : Bool → Option (List RecordValue) → RecordValue → Standing → Option Outcome → Standing → Type 0
Follows true held r old result new = Enters r.kind r old result new
Follows false None r old result new = Enters r.kind r old result new
Follows false (Some whole) r old result new = (result ≡ Some (outcomes.Item (items.Transaction whole))) × (new ≡ pending old)

-- the line is accepted as that of a record
pub record Accepts (old : Standing) (result : Option Outcome) (new : Standing) : Type 0 where
  pub symbol : Symbol
  pub accepted : RecordValue
  pub carried : held_record old.line ≡ Some accepted
  pub in_order : IsRecord accepted
  pub excess : held_excess old.line ≡ false
  pub next : (xs : List Symbol) → IsTallyOf old.tally xs → IsNext old.tally.limits xs old.line symbol accepted
  pub tally : TallyValue
  pub limits : tally.limits ≡ old.tally.limits
  pub stands : (xs : List Symbol) → IsTallyOf old.tally xs → IsTallyOf tally (xs ++ symbol ∷ [])
  pub continues : Bool
  pub same : (xs : List Symbol) → IsTallyOf old.tally xs → continues ≡ continues_open xs symbol
  pub follows : Follows continues old.held accepted (with_tally old tally) result new

-- the fault of a line of the kind is reported, and the open transaction is held as it was
pub record ReportsFault (old : Standing) (kind : Option Kind) (fault : LineFault) (outcome : Outcome) (new : Standing) : Type 0
  where
    pub refusal : Refusal
    pub number : refusal.rec ≡ old.tally.counts.records + 1
    pub field : refusal.field ≡ fault.field
    pub reason : refusal.reason ≡ fault.reason
    pub level : (xs : List Symbol) → IsTallyOf old.tally xs
        → refusal.level ≡ level_of kind fault.field fault.reason (scope_after xs)
    pub reported : outcome ≡ outcomes.Refused refusal
    pub stops : new ≡ with_refusal old refusal

-- the line is refused
pub record Refuses (old : Standing) (result : Option Outcome) (new : Standing) : Type 0 where
  pub fault : LineFault
  pub none : (xs : List Symbol) → IsTallyOf old.tally xs → IsOfNone old.tally.limits xs old.line
  pub first : (xs : List Symbol) → IsTallyOf old.tally xs → IsFirstFault old.tally.limits xs old.line fault.field fault.reason
  pub reports : IsSomeAnd result (λ outcome. ReportsFault old (held_kind old.line) fault outcome new)

-- the line is accepted or refused
abbrev pub Judges : Standing → Option Outcome → Standing → Type 0
Judges old result new = Accepts old result new ⊎ Refuses old result new

-- the same without the open transaction, which is handed out
abbrev pub emptied : Standing → Standing
emptied old = record { line = old.line; tally = old.tally; held = None; state = old.state; finished = old.finished }

-- what the line that ended was found to be by quick tests; a transaction that it ends is held until it is handed out
abbrev pub FindsLine : Found → Standing → Standing → Type 0
FindsLine Added old new = Judges old None new
FindsLine Ends old new = IsSomeAnd new.held (λ whole. Judges old (Some (outcomes.Item (items.Transaction whole))) (emptied new))
FindsLine Nothing old new = new ≡ old

-- what a cut line was found to be, whatever is done next
abbrev pub FindsCut : Found → HeldLine → TallyValue → Option (List RecordValue) → TallyValue → Option (List RecordValue) → Type 0
FindsCut Added line tally held counted more =
    (state : State) (finished : Bool)
    → FindsLine Added (record { line = line; tally = tally; held = held; state = state; finished = finished })
    (record { line = empty_line; tally = counted; held = more; state = Reading; finished = finished })
FindsCut Ends line tally held counted more =
    (state : State) (finished : Bool)
    → FindsLine Ends (record { line = line; tally = tally; held = held; state = state; finished = finished })
    (record { line = line; tally = counted; held = more; state = Pending; finished = finished })
FindsCut Nothing line tally held counted more = (counted ≡ tally) × (more ≡ held)

-- so many bytes of the piece are the rest of a line that is judged
pub record JudgesFront (old : Standing) (piece : List ℕ) (used : ℕ) (out : Option Outcome) (new : Standing) : Type 0 where
  pub line : HeldLine
  pub takes : Takes old.line piece used line
  pub held : IsHeld line
  pub ended : line.ended ≢ line_ends.Open
  pub judges : Judges (with_line old line) out new

-- what the line at the front of the piece was found to be
abbrev pub FindsFront : Found → Standing → List ℕ → ℕ → Standing → Type 0
FindsFront Added old piece used new = JudgesFront old piece used None new
FindsFront Ends old piece used new =
    IsSomeAnd new.held (λ whole. JudgesFront old piece used (Some (outcomes.Item (items.Transaction whole))) (emptied new))
FindsFront Nothing old piece used new = new ≡ old

-- the record that waits is entered
abbrev pub EntersHeld : Option RecordValue → Standing → Option Outcome → Standing → Type 0
EntersHeld None old result new = ⊥
EntersHeld (Some r) old result new = Enters r.kind r old result new

-- what is answered without a further byte
abbrev pub Settles : State → Standing → Option Outcome → Standing → Type 0
Settles Reading old result new = (result ≡ None) × (new ≡ old)
Settles Pending old result new = EntersHeld (held_record old.line) old result new
Settles Ended old result new = (result ≡ Some outcomes.Done) × (new ≡ old)
Settles (Refused refusal) old result new = (result ≡ Some (outcomes.Refused refusal)) × (new ≡ old)
Settles (Truncated records) old result new = (result ≡ Some (outcomes.Truncated records)) × (new ≡ old)
Settles Memory old result new = (result ≡ Some outcomes.Memory) × (new ≡ old)

-- the input has ended
abbrev pub end_input : Standing → Standing
end_input old = record { line = old.line; tally = old.tally; held = old.held; state = old.state; finished = true }

-- the input has ended, and a last line is there that had no line feed, or not
abbrev pub ClosesLine : Bool → Standing → Standing → Type 0
ClosesLine true old new = (old.state ≡ Reading) × (0 ≢ length old.line.bytes)
    × (new ≡ record {
      line = record { bytes = old.line.bytes; ended = line_ends.Line };
      tally = old.tally;
      held = old.held;
      state = old.state;
      finished = true;
    })
ClosesLine false old new = (new ≡ end_input old) × (old.state ≡ Reading → length old.line.bytes ≡ 0)

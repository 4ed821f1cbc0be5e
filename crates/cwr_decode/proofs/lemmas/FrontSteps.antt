-- A line that is judged where it stands, at the front of a piece, is one that was taken from there.
use Rattle.std.proofs.Common.{◌≡◌, ◌≢◌, ℕ, Bool, List, length, Option, Some, None, refl, sym, subst}
use Rattle.std.specs.Prelude.{IsSome, IsSomeAnd}
use Rattle.cwr_lines.specs.declared.lines.LineEnd.TheVariants.{Open}
use Rattle.cwr_lines.specs.Format.Records.{RecordValue}
use Rattle.cwr_lines.specs.Steps.Held.{HeldLine, IsHeld, Takes, empty_line}
use Rattle.cwr_shape.specs.Steps.Tallies.{TallyValue}
use Rattle.cwr_values.specs.declared.items.Item.TheVariants as items
use Rattle.cwr_decode.specs.declared.outcomes.Outcome.TheVariants as outcomes
use Rattle.cwr_decode.specs.declared.machine.Found.{Found}
use Rattle.cwr_decode.specs.declared.machine.Found.TheVariants.{Added, Ends}
use Rattle.cwr_decode.specs.declared.machine.State.TheVariants as states
use Rattle.cwr_decode.specs.Steps.Machines.{FindsCut, FindsFront, Judges, JudgesFront, Standing, with_line}
use Rattle.cwr_decode.proofs.lemmas.AfterInputEnd.{no_bytes}

pub empty_open : (h : HeldLine) → h.ended ≡ Open → length h.bytes ≡ 0 → h ≡ empty_line
empty_open h e none = λ i. record { bytes = no_bytes h.bytes none i; ended = e i }

-- the record of the line is added
pub front_added : (d : Standing) (piece : List ℕ) (used : ℕ) (line : HeldLine) (counted : TallyValue)
    (more : Option (List RecordValue)) → d.state ≡ states.Reading → d.line.ended ≡ Open → length d.line.bytes ≡ 0
    → Takes empty_line piece used line → IsHeld line → line.ended ≢ Open → FindsCut Added line d.tally d.held counted more
    → JudgesFront d piece used None
    (record { line = d.line; tally = counted; held = more; state = d.state; finished = d.finished })
front_added d piece used line counted more s unended none takes held ended finds =
    let empty : d.line ≡ empty_line = empty_open d.line unended none in
    let new : Standing =
    record { line = empty_line; tally = counted; held = more; state = states.Reading; finished = d.finished } in
    let now : new ≡ record { line = d.line; tally = counted; held = more; state = d.state; finished = d.finished } =
    λ i. record { line = sym empty i; tally = counted; held = more; state = sym s i; finished = d.finished } in
    record {
      line = line;
      takes = subst (λ (h : HeldLine). Takes h piece used line) (sym empty) takes;
      held = held;
      ended = ended;
      judges = subst (Judges (with_line d line) None) now (finds d.state d.finished);
    }

-- the line waits, and nothing is held of a transaction
abbrev pub waiting : TallyValue → Bool → HeldLine → Standing
waiting counted finished line = record { line = line; tally = counted; held = None; state = states.Pending; finished = finished }

-- the line ends the open transaction, and waits
pub front_ends : (d : Standing) (piece : List ℕ) (used : ℕ) (line kept : HeldLine) (counted : TallyValue)
    (more : Option (List RecordValue)) → d.line.ended ≡ Open → length d.line.bytes ≡ 0
    → Takes empty_line piece used line → IsHeld line → line.ended ≢ Open → FindsCut Ends line d.tally d.held counted more
    → kept ≡ line
    → IsSomeAnd more
    (λ whole. JudgesFront d piece used (Some (outcomes.Item (items.Transaction whole))) (waiting counted d.finished kept))
front_ends d piece used line kept counted more unended none takes held ended finds same = by more (finds d.state d.finished)
  where
    empty : d.line ≡ empty_line
    empty = empty_open d.line unended none

    by : (held : Option (List RecordValue)) → IsSomeAnd held
        (λ whole. Judges (with_line d line) (Some (outcomes.Item (items.Transaction whole))) (waiting counted d.finished line))
        → IsSomeAnd held
        (λ whole. JudgesFront d piece used (Some (outcomes.Item (items.Transaction whole))) (waiting counted d.finished kept))
    by None h = absurd h
    by (Some whole) h = record {
      line = line;
      takes = subst (λ (l : HeldLine). Takes l piece used line) (sym empty) takes;
      held = held;
      ended = ended;
      judges =
          subst (λ (l : HeldLine). Judges (with_line d line) (Some (outcomes.Item (items.Transaction whole)))
          (waiting counted d.finished l)) (sym same) h;
    }

-- a transaction that ends is held
pub held_some : (P : List RecordValue → Type 0) (held : Option (List RecordValue)) → IsSomeAnd held P → IsSome held
held_some P None h = absurd h
held_some P (Some whole) h = refl

-- what is said of it holds of the one that is handed out
pub of_whole : (P : List RecordValue → Type 0) (held : Option (List RecordValue)) (whole : List RecordValue) → held ≡ Some whole
    → IsSomeAnd held P → P whole
of_whole P held whole e h = subst (λ (q : Option (List RecordValue)). IsSomeAnd q P) e h

-- what was found, by its name
pub found_as : (f g : Found) (old new : Standing) (piece : List ℕ) (used : ℕ) → f ≡ g → FindsFront f old piece used new
    → FindsFront g old piece used new
found_as f g old new piece used e h = subst (λ (x : Found). FindsFront x old piece used new) e h

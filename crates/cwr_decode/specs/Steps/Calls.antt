-- What a call of a decoder does to what the decoder represents, and what its answer says of the input.
use Rattle.std.specs.Prelude.{◌≡◌, ◌≢◌, ℕ, ◌<◌, ◌≤◌, Bool, true, false, List, ◌++◌, length, take, Option, Some, None, IfSome}
use Rattle.std.specs.Prelude.{IfNone}
use Rattle.cwr_lines.specs.declared.lines.LineEnd.TheVariants as line_ends
use Rattle.cwr_values.specs.declared.items.Item.{Item}
use Rattle.cwr_decode.specs.declared.outcomes.Outcome.{Outcome}
use Rattle.cwr_decode.specs.declared.outcomes.Outcome.TheVariants.{More, Memory}
use Rattle.cwr_decode.specs.declared.outcomes.Outcome.TheVariants as outcomes
use Rattle.cwr_decode.specs.declared.machine.State.{State}
use Rattle.cwr_decode.specs.declared.machine.State.TheVariants.{Reading, Pending}
use Rattle.cwr_decode.specs.Steps.Machines.{Standing, IsReady, Leaves, Empties, WaitsOutside, again, end_input}
use Rattle.cwr_decode.specs.Steps.Represents.{Represents, IsStopped, IsRight, items_out}

-- nothing was answered for good
abbrev pub IsLive : State → Type 0
IsLive state = again state ≡ None

-- no accepted record is forgotten, and out of memory and an item each come with one more
pub record Grows (old : ℕ) (out : Option Outcome) (new : ℕ) : Type 0 where
  pub kept : old ≤ new
  pub memory : out ≡ Some Memory → old < new
  pub item : (it : Item) → out ≡ Some (outcomes.Item it) → old < new

-- Out of memory comes only with a record that was being added: where none was accepted, it was the one that waited, and no
-- byte was used.
abbrev pub RunsOutOfMemory : Standing → ℕ → Standing → Type 0
RunsOutOfMemory old used new = new.tally.counts.records ≤ old.tally.counts.records → (old.state ≡ Pending) × (used ≡ 0)

-- what the end of the input refuses is the last line, which ended there and isn't too long
abbrev pub RefusesLast : Outcome → Standing → List ℕ → List Item → Type 0
RefusesLast (outcomes.Refused refusal) d input given = (s : IsStopped d input given refusal) × (s.line.ended ≡ line_ends.Line)
RefusesLast outcome d input given = Unit {0}

-- ---- what each call carries over

-- that is so of each input, and its items, that the decoder represents
abbrev pub OfRepresented : Standing → (List ℕ → List Item → Type 0) → Type 0
OfRepresented d P = (input : List ℕ) (given : List Item) → Represents d input given → P input given

-- the items with that of an answer, if there is one
abbrev pub items_with : List Item → Option Outcome → List Item
items_with given None = given
items_with given (Some outcome) = given ++ items_out outcome

-- What stays in each call, and in each part of one: the decoder is ready, has the same limits, and represents the input with the
-- bytes that were used, and the items with the one that is answered. After an answer it stands where that leaves it.
pub record CarriesOver (old : Standing) (with_used : List ℕ → List ℕ) (out : Option Outcome) (ended : Bool)
    (new : Standing) : Type 0 where
  pub stands : OfRepresented old (λ input given. Represents new (with_used input) (items_with given out))
  pub ready : IsReady new.state new.finished new.line
  pub leaves : IfSome out (λ outcome. Leaves outcome new.state)
  pub empties : OfRepresented old (λ input given. IfSome out (λ outcome. Empties outcome new))
  pub finished : new.finished ≡ ended
  pub limits : new.tally.limits ≡ old.tally.limits

-- so it does where no byte is used
abbrev pub CarriesAlone : Standing → Option Outcome → Bool → Standing → Type 0
CarriesAlone old out ended new = CarriesOver old (λ input. input) out ended new

-- or so many of a piece are
abbrev pub CarriesOn : Standing → List ℕ → ℕ → Option Outcome → Bool → Standing → Type 0
CarriesOn old piece used out ended new = CarriesOver old (λ input. input ++ take used piece) out ended new

-- ---- the calls and their parts

-- a step without a further byte
pub record Moves (old : Standing) (out : Option Outcome) (new : Standing) : Type 0 where
  pub carries : CarriesAlone old out old.finished new
  pub none : IfNone out (IsLive old.state → new.state ≡ Reading)
  pub counts : new.tally.counts.records ≡ old.tally.counts.records

-- the bytes that the decoder has seen of the input: all that it was given, and once the input has ended no more
abbrev pub seen_input : Bool → List ℕ → List ℕ → List ℕ
seen_input false input piece = input ++ piece
seen_input true input piece = input

-- the end of the input is taken, and with it a last line that had no line feed
pub record TakesEnd (old : Standing) (out : Option Outcome) (new : Standing) : Type 0 where
  pub carries : CarriesAlone old out true new
  pub right : OfRepresented old (λ input given. IfSome out
      (λ outcome. IsRight old.tally.limits outcome true input input (given ++ items_out outcome)))
  pub last : OfRepresented old (λ input given. IfSome out (λ outcome. RefusesLast outcome new input (given ++ items_out outcome)))
  pub more : out ≡ Some More → ⊥
  pub none : IfNone out (IsLive old.state → IsLive new.state)
  pub waits : IfNone out (new.state ≡ Pending → old.state ≡ Pending)
  pub grows : OfRepresented old (λ input given. Grows old.tally.counts.records out new.tally.counts.records)
  pub stays : IfSome (again old.state) (λ o. (out ≡ None) × (new ≡ end_input old))

-- bytes of a piece are used, up to an answer or the end of a line
pub record Advances (old : Standing) (piece : List ℕ) (used : ℕ) (out : Option Outcome) (new : Standing) : Type 0 where
  pub carries : CarriesOn old piece used out old.finished new
  pub within : used ≤ length piece
  pub some : IfNone out (0 < used)
  pub right : OfRepresented old (λ input given. IfSome out (λ outcome. IsRight old.tally.limits outcome false
      (input ++ take used piece) (input ++ piece) (given ++ items_out outcome)))
  pub more : out ≡ Some More → used ≡ length piece
  pub none : IfNone out (new.state ≡ Reading)
  pub grows : OfRepresented old (λ input given. Grows old.tally.counts.records out new.tally.counts.records)

-- so many bytes of the piece were used, and nothing was answered
pub record Fed (old : Standing) (piece : List ℕ) (used : ℕ) (d : Standing) : Type 0 where
  pub carries : CarriesOn old piece used None false d
  pub within : used ≤ length piece
  pub reading : d.state ≡ Reading
  pub was_fresh : old.finished ≡ false
  pub live : IsLive old.state
  pub inside : ¬ WaitsOutside old
  pub grows : OfRepresented old (λ input given. old.tally.counts.records ≤ d.tally.counts.records)

-- a piece is fed
pub record Feeds (old : Standing) (piece : List ℕ) (used : ℕ) (outcome : Outcome) (new : Standing) : Type 0 where
  pub carries : CarriesOn old piece used (Some outcome) old.finished new
  pub within : used ≤ length piece
  pub right : IsLive old.state → OfRepresented old (λ input given. IsRight old.tally.limits outcome old.finished
      (input ++ take used piece) (seen_input old.finished input piece) (given ++ items_out outcome))
  pub again : IfSome (again old.state) (λ o. (outcome ≡ o) × (used ≡ 0) × (new ≡ old))
  pub more : outcome ≡ More → (used ≡ length piece) × (old.finished ≡ false)
  pub unused : old.finished ≡ true → used ≡ 0
  pub alone : WaitsOutside old → (used ≡ 0) × (outcome ≢ More)
  pub memory : outcome ≡ Memory → IsLive old.state → OfRepresented old (λ input given. RunsOutOfMemory old used new)
  pub kept : OfRepresented old (λ input given. old.tally.counts.records ≤ new.tally.counts.records)

-- the input has ended
pub record Finishes (old : Standing) (outcome : Outcome) (new : Standing) : Type 0 where
  pub carries : CarriesAlone old (Some outcome) true new
  pub right : IsLive old.state → OfRepresented old (λ input given. IsRight old.tally.limits outcome true input input
      (given ++ items_out outcome))
  pub last : IsLive old.state → OfRepresented old (λ input given. RefusesLast outcome new input (given ++ items_out outcome))
  pub again : IfSome (again old.state) (λ o. (outcome ≡ o) × (new ≡ end_input old))
  pub more : outcome ≡ More → ⊥
  pub memory : outcome ≡ Memory → IsLive old.state → OfRepresented old (λ input given. RunsOutOfMemory old 0 new)
  pub kept : OfRepresented old (λ input given. old.tally.counts.records ≤ new.tally.counts.records)

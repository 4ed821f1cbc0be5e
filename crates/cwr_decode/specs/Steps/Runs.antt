-- What a decoder and its reader are at while items are read, and where a run stops.
use Rattle.std.specs.Prelude.{◌≡◌, ◌⊎◌, ℕ, ◌+◌, false, List, [], ◌∷◌, ◌++◌, length, Option, Some, IfSome, Err}
use Rattle.std.specs.Io.KnownBytes.{Consumes}
use Rattle.cwr_fields.specs.Format.Growth.{Outgrows}
use Rattle.cwr_shape.specs.Format.Ranges.{LimitValues}
use Rattle.cwr_values.specs.declared.items.Item.{Item}
use Rattle.cwr_decode.specs.declared.machine.State.{State}
use Rattle.cwr_decode.specs.declared.machine.State.TheVariants.{Ended}
use Rattle.cwr_decode.specs.declared.readings.ReadFault.{ReadFault}
use Rattle.cwr_decode.specs.declared.readings.ReadFault.TheVariants.{Reader, Memory}
use Rattle.cwr_decode.specs.declared.endings.End.TheVariants as ends
use Rattle.cwr_decode.specs.Format.Headline.{EndsSo}
use Rattle.cwr_decode.specs.Steps.Machines.{Standing}
use Rattle.cwr_decode.specs.Steps.Represents.{Represents}
use Rattle.cwr_decode.specs.Steps.Calls.{IsLive}
use Rattle.cwr_decode.specs.Steps.Readings.{IsRightOf, IsSpent, LeavesRead}

-- these items were read so far: the decoder represents them and the bytes that the reader lost
pub record HasRead (limits : LimitValues) (d : Standing) (before now : Option (List ℕ)) (given : List Item) : Type 0 where
  pub input : List ℕ
  pub stands : Represents d input given
  pub consumed : Consumes before now input
  pub spent : IfSome before (λ _. IsSpent d now)
  pub limits_are : d.tally.limits ≡ limits

-- the end was read, where so many bytes of the text are a transmission with these items
abbrev pub EndsWhole : LimitValues → State → Option (List ℕ) → ℕ → List Item → Type 0
EndsWhole limits state before n given = (state ≡ Ended) × IfSome before (λ text. EndsSo limits text given (ends.Accepted n))

-- all items were read
pub record HasReadAll (limits : LimitValues) (before now : Option (List ℕ)) (given : List Item) : Type 0 where
  pub decoder : Standing
  pub read : HasRead limits decoder before now given
  pub ends : EndsWhole limits decoder.state before (length read.input) given

-- more items may come, or all were read
pub record IsReadingOn (limits : LimitValues) (d : Standing) (before now : Option (List ℕ)) (given : List Item) : Type 0 where
  pub read : HasRead limits d before now given
  pub here : IsLive d.state ⊎ EndsWhole limits d.state before (length read.input) given

-- These items were read before the fault, and the decoder stopped for what is reported. Out of memory it stops with a record
-- that was accepted within a transaction, and where the reader failed the input hasn't ended.
pub record StopsRun (limits : LimitValues) (fault : ReadFault) (before after : Option (List ℕ)) : Type 0 where
  pub decoder : Standing
  pub given : List Item
  pub read : HasRead limits decoder before after given
  pub leaves : LeavesRead (Err fault) decoder.state
  pub fresh : fault ≡ Reader → decoder.finished ≡ false
  pub right : IfSome before (λ text. IsRightOf limits (Err fault) read.input text given)

-- memory was refused for a list or a value of the items that were read, of which there is one at least
pub record LacksRoom (limits : LimitValues) (before after : Option (List ℕ)) : Type 0 where
  pub decoder : Standing
  pub first : Item
  pub others : List Item
  pub read : HasRead limits decoder before after (first ∷ others)

-- the decoder stopped for what is reported, or memory was refused for what is made of the items
abbrev pub StopsReading : LimitValues → ReadFault → Option (List ℕ) → Option (List ℕ) → Type 0
StopsReading limits fault before after = StopsRun limits fault before after ⊎ ((fault ≡ Memory) × LacksRoom limits before after)

-- memory was refused for the list of all items: the last one that was read passes a size of that list
pub record OutgrowsItems (limits : LimitValues) (before after : Option (List ℕ)) : Type 0 where
  pub decoder : Standing
  pub given : List Item
  pub item : Item
  pub read : HasRead limits decoder before after (given ++ item ∷ [])
  pub outgrows : Outgrows 16 (length given) (length given + 1)

-- all items were read, and memory was refused for what is made of them
pub record LacksWhole (limits : LimitValues) (before after : Option (List ℕ)) : Type 0 where
  pub given : List Item
  pub all : HasReadAll limits before after given

-- the decoder stopped for what is reported, or memory was refused: for the list of all items, or for what is made of them
abbrev pub StopsWhole : LimitValues → ReadFault → Option (List ℕ) → Option (List ℕ) → Type 0
StopsWhole limits fault before after =
    StopsRun limits fault before after
    ⊎ ((fault ≡ Memory) × (OutgrowsItems limits before after ⊎ LacksWhole limits before after))

-- so it is of a text, of which something may be left
abbrev pub StopsText : LimitValues → ReadFault → List ℕ → Type 0
StopsText limits fault text = (after : Option (List ℕ)) × StopsWhole limits fault (Some text) after

-- Which transactions a transmission has, and which numbers and places of lists none of them has; and when it was created.
use Rattle.std.specs.Prelude.{ℕ, ◌==◌, ◌&&◌, ◌||◌, Bool, false, not, map, filter, List, [], Option, Some, None, unwrap_or}
use Rattle.std.specs.List.{enumerate_from, flat_map, list_any}
use Rattle.std.specs.Str.{bytes_eq}
use Rattle.cwr_lines.specs.Format.Carried.{record_cell}
use Rattle.cwr_lines.specs.Format.Records.{RecordValue}
use Rattle.cwr_moments.specs.declared.moments.Moment.{Moment}
use Rattle.cwr_values.specs.declared.items.Item.{Item}
use Rattle.cwr_values.specs.declared.items.Item.TheVariants.{Transaction}
use Rattle.cwr_values.specs.Format.Values.{GroupValue, TransmissionValue}
use Rattle.cwr_select.specs.Format.Created.{day_cell, time_cell}
use Rattle.cwr_select.specs.Format.Criteria.{number_cell}
use Rattle.cwr_select.specs.Format.Selections.{Choice}

-- a transaction, with the place of its group, from 1, and its own in that, from 0
pub record Placed : Type 0 where
  pub group : ℕ
  pub place : ℕ
  pub records : List RecordValue

-- those of a group, which has that place
abbrev pub placed_in : ℕ × GroupValue → List Placed
placed_in g = map (λ t. record { group = g.0; place = t.0; records = t.1 }) (enumerate_from 0 g.1.transactions)

-- those of a transmission
abbrev pub placed : TransmissionValue → List Placed
placed v = flat_map placed_in (enumerate_from 1 v.groups)

-- ---- what is missing

-- the number of each, and the place of each
abbrev pub numbers_of : List Placed → List (List ℕ)
numbers_of ps = map (λ p. number_cell p.records) ps

abbrev pub places_of : List Placed → List (ℕ × ℕ)
places_of ps = map (λ p. (p.group, p.place)) ps

-- both places are one
abbrev pub same_place : ℕ × ℕ → ℕ × ℕ → Bool
same_place one other = one.0 == other.0 && one.1 == other.1

-- a value of the list is none of these, where there is a list
abbrev pub lacks_one : {A : Type 0} → (A → A → Bool) → Option (List A) → List A → Bool
lacks_one same None found = false
lacks_one same (Some listed) found = list_any (λ value. not (list_any (same value) found)) listed

-- no transaction of the transmission has a number of the one list, or a place of the other
abbrev pub is_missing : Option (List (List ℕ)) → Option (List (ℕ × ℕ)) → TransmissionValue → Bool
is_missing numbers places v = lacks_one bytes_eq numbers (numbers_of (placed v)) || lacks_one same_place places (places_of (placed v))

-- ---- what is chosen

-- the transactions among these that are chosen, as items
abbrev pub chosen_of : Choice → List Placed → List Item
chosen_of choice ps = map (λ p. Transaction p.records) (filter (λ p. choice p.group p.place p.records) ps)

-- ---- when a transmission was created

-- HDR's creation date and time, its fields 6 and 7, are that moment
abbrev pub is_created_at : Option Moment → RecordValue → Bool
is_created_at None opening = false
is_created_at (Some m) opening =
    bytes_eq (unwrap_or (record_cell opening 6) []) (day_cell m) && bytes_eq (unwrap_or (record_cell opening 7) []) (time_cell m)

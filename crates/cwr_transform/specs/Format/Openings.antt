-- The headers of transmissions among their items.
use Rattle.std.specs.Prelude.{List, [], ◌∷◌}
use Rattle.std.specs.List.{flat_map}
use Rattle.cwr_lines.specs.Format.Records.{RecordValue}
use Rattle.cwr_values.specs.declared.items.Item.{Item}
use Rattle.cwr_values.specs.declared.items.Item.TheVariants.{Opened}

-- the HDR record that an item is, if it is one
abbrev pub opening_of : Item → List RecordValue
opening_of (Opened r) = r ∷ []
opening_of item = []

-- those of items, in order
abbrev pub openings_in : List Item → List RecordValue
openings_in items = flat_map opening_of items

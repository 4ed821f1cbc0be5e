-- What is known of the findings that were told: the worst level of one.
use Rattle.std.specs.Prelude.{◌≡◌, ◌||◌, List, Option}
use Rattle.cwr_shape.specs.declared.reasons.Level.{Level}
use Rattle.cwr_values.specs.declared.items.Item.{Item}
use Rattle.cwr_tools.specs.Format.Watching.{any_from, is_reached}

-- with the findings in these items
abbrev pub Sees : Option Level → Option Level → List Item → Type 0
Sees old new items = (asked : Option Level) → is_reached asked new ≡ (is_reached asked old || any_from asked items)

-- it is the worst of the findings in these items
abbrev pub IsWorst : Option Level → List Item → Type 0
IsWorst worst items = (asked : Option Level) → is_reached asked worst ≡ any_from asked items

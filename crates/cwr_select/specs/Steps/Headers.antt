-- Records whose cells are set one by one, and the items of a transmission that is created at a moment.
use Rattle.std.specs.Prelude.{◌≡◌, ℕ, length, IsSomeAnd, List, Option, Some}
use Rattle.cwr_fields.specs.Format.Cells.{Allows}
use Rattle.cwr_fields.specs.declared.kinds.Kind.{Kind}
use Rattle.cwr_lines.specs.Format.Carried.{carried_at}
use Rattle.cwr_moments.specs.declared.moments.Moment.{Moment}
use Rattle.cwr_values.specs.declared.items.Item.{Item}
use Rattle.cwr_values.specs.declared.items.Item.TheVariants.{Opened}
use Rattle.cwr_select.specs.Format.Created.{created_header}

-- the text is a whole cell of that field of the kind
abbrev pub IsWholeCell : Kind → ℕ → List ℕ → Type 0
IsWholeCell kind j text = IsSomeAnd (carried_at kind j) (λ f. (length text ≡ f.width) × Allows f.ty text)

-- HDR is that of the moment, where there is one; all other items stay
abbrev pub created_item : Option Moment → Item → Item
created_item (Some m) (Opened r) = Opened (created_header m r)
created_item moment item = item

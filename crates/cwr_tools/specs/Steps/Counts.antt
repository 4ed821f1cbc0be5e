-- The numbers of the items that were handed out.
use Rattle.std.specs.Prelude.{◌≡◌, ◌≤◌, count_by, length, List}
use Rattle.std.specs.List.{after_last}
use Rattle.cwr_values.specs.declared.items.Item.{Item}
use Rattle.cwr_judge.specs.Format.Items.{records_in, opens_group, is_transaction}
use Rattle.cwr_tools.specs.declared.totals.Totals.{Totals}

-- the numbers are those of the items
pub record IsCount (c : Totals) (given : List Item) : Type 0 where
  pub groups : c.groups ≡ count_by opens_group given
  pub transactions : c.transactions ≡ count_by is_transaction given
  pub in_group : c.in_group ≡ count_by is_transaction (after_last opens_group given)
  pub records : c.records ≡ length (records_in given)

-- the numbers have room for more
pub record HasRoomToCount (c : Totals) : Type 0 where
  pub groups : c.groups ≤ 199999998
  pub transactions : c.transactions ≤ 199999998
  pub in_group : c.in_group ≤ 199999998
  pub records : c.records ≤ 99999999

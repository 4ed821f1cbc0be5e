use Rattle.std.proofs.Common.{◌≡◌, ◌++◌, length, map}
use Rattle.std.specs.Vec.Iter.{into_iter_items}
use Rattle.cwr_values.specs.declared.items.Item.TheVariants.{Transaction}
use Rattle.cwr_decode.specs.Format.Runs.{AreGroupItems}
use Rattle.cwr_decode.proofs.whole.collect_group.Given as goal

abbrev pub invariant-transactions : goal.invariant-transactions
invariant-transactions l = record {
  head : l.group.head ≡ l.fn.head;
  left : AreGroupItems l.fn.head (into_iter_items l.items);
  taken : into_iter_items l.initial.items ≡ map Transaction l.group.transactions ++ into_iter_items l.items;
}

abbrev pub decreases-transactions : goal.decreases-transactions
decreases-transactions l = length (into_iter_items l.items)

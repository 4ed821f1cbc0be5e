use Rattle.std.proofs.Common.{◌≡◌, ◌∷◌, ◌++◌, length}
use Rattle.std.specs.List.{flat_map}
use Rattle.std.specs.Vec.Iter.{into_iter_items}
use Rattle.cwr_values.specs.declared.items.Item.TheVariants.{Opened}
use Rattle.cwr_judge.specs.Format.Items.{group_items}
use Rattle.cwr_decode.proofs.lemmas.ItemsMakeOneTransmission.{AreGroups}
use Rattle.cwr_decode.proofs.whole.collect.Given as goal

abbrev pub invariant-groups : goal.invariant-groups
invariant-groups l = record {
  left : AreGroups (into_iter_items l.items);
  taken : l.fn.items.items
      ≡ Opened l.transmission.opening ∷ (flat_map group_items l.transmission.groups ++ into_iter_items l.items);
}

abbrev pub decreases-groups : goal.decreases-groups
decreases-groups l = length (into_iter_items l.items)

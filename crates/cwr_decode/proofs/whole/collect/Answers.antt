use Rattle.std.proofs.Common.{◌≡◌, ◌∷◌, ◌++◌, List, sym, ap, subst, ◌∙◌}
use Rattle.std.specs.List.{flat_map}
use Rattle.std.specs.Vec.Iter.{into_iter_items}
use Rattle.cwr_lines.specs.Format.Records.{RecordValue}
use Rattle.cwr_values.specs.declared.items.Item.{Item}
use Rattle.cwr_values.specs.declared.items.Item.TheVariants.{Opened, GroupOpened, Ended}
use Rattle.cwr_values.specs.Format.Values.{TransmissionValue}
use Rattle.cwr_judge.specs.Format.Items.{group_items, group_rest}
use Rattle.cwr_decode.specs.Format.Runs.{AreGroupItems}
use Rattle.cwr_decode.proofs.lemmas.ItemsMakeOneTransmission.{AreGroups, group_begins, group_ends, groups_end, more_groups, next_group}
use Rattle.cwr_decode.proofs.whole.collect.Goals as goal

pub collect_group-requires : goal.collect_group-requires
collect_group-requires c =
    let here : into_iter_items c.groups.items ≡ GroupOpened c.in-GroupOpened.head ∷ into_iter_items c.next-in-groups.new.self
    = c.in-Some-next.ensures.items ∙ ap (λ (x : Item). x ∷ into_iter_items c.next-in-groups.new.self) c.in-GroupOpened.is in
    subst (λ (r : RecordValue). AreGroupItems r (into_iter_items c.next-in-groups.new.self)) (sym c.to_record.ensures.value)
    (group_begins c.in-GroupOpened.head (into_iter_items c.next-in-groups.new.self) (subst AreGroups here c.groups.invariant.left))

pub add_group-requires : goal.add_group-requires
add_group-requires c =
    let here : into_iter_items c.groups.items ≡ GroupOpened c.in-GroupOpened.head ∷ into_iter_items c.next-in-groups.new.self
    = c.in-Some-next.ensures.items ∙ ap (λ (x : Item). x ∷ into_iter_items c.next-in-groups.new.self) c.in-GroupOpened.is in
    (group_ends c.in-GroupOpened.head (into_iter_items c.next-in-groups.new.self) c.in_ok-group-in-GroupOpened.group
    (into_iter_items c.collect_group.new.items)
    (subst AreGroups here c.groups.invariant.left) c.in_ok-group-in-GroupOpened.ensures.items).0

pub groups-preserved : goal.groups-preserved
groups-preserved c =
    let here : into_iter_items c.groups.items ≡ GroupOpened c.in-GroupOpened.head ∷ into_iter_items c.next-in-groups.new.self
    = c.in-Some-next.ensures.items ∙ ap (λ (x : Item). x ∷ into_iter_items c.next-in-groups.new.self) c.in-GroupOpened.is in
    let group = c.in_ok-group-in-GroupOpened.group in
    let rest : List Item = into_iter_items c.collect_group.new.items in
    let whole : into_iter_items c.groups.items ≡ GroupOpened group.head ∷ (group_rest group ++ rest)
    = here ∙ ap (λ (r : RecordValue). GroupOpened r ∷ into_iter_items c.next-in-groups.new.self)
    (sym (c.in_ok-group-in-GroupOpened.ensures.head ∙ c.to_record.ensures.value))
    ∙ ap (λ (l : List Item). GroupOpened group.head ∷ l) c.in_ok-group-in-GroupOpened.ensures.items in
    let pushed = c.in_ok-add_group-in-GroupOpened.ensures in
    record {
      left =
          (group_ends c.in-GroupOpened.head (into_iter_items c.next-in-groups.new.self) group rest
          (subst AreGroups here c.groups.invariant.left) c.in_ok-group-in-GroupOpened.ensures.items).1;
      taken =
          c.groups.invariant.taken ∙ ap
          (λ (l : List Item). Opened c.groups.transmission.opening ∷ (flat_map group_items c.groups.transmission.groups ++ l))
          whole
          ∙ ap (λ (l : List Item). Opened c.groups.transmission.opening ∷ l) (more_groups c.groups.transmission.groups group rest)
          ∙ ap (λ (t : TransmissionValue). Opened t.opening ∷ (flat_map group_items t.groups ++ rest)) (sym pushed);
    }

pub returns-in-Ended : goal.returns-in-Ended
returns-in-Ended c =
    let here : into_iter_items c.groups.items ≡ Ended ∷ into_iter_items c.next-in-groups.new.self
    = c.in-Some-next.ensures.items ∙ ap (λ (x : Item). x ∷ into_iter_items c.next-in-groups.new.self) c.in-Ended.is in
    let none = groups_end (into_iter_items c.next-in-groups.new.self) (subst AreGroups here c.groups.invariant.left) in
    c.groups.invariant.taken ∙ ap
    (λ (l : List Item). Opened c.groups.transmission.opening ∷ (flat_map group_items c.groups.transmission.groups ++ l))
    (here ∙ ap (λ (l : List Item). Ended ∷ l) none)

pub unreachable-requires-in_default-item : goal.unreachable-requires-in_default-item
unreachable-requires-in_default-item c =
    next_group c.in-Some-next.item (into_iter_items c.next-in-groups.new.self)
    (subst AreGroups c.in-Some-next.ensures.items c.groups.invariant.left) c.in_default-item.not-GroupOpened
    c.in_default-item.not-Ended

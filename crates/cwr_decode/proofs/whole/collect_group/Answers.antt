use Rattle.std.proofs.Common.{rules, ◌≡◌, ◌∷◌, ◌++◌, List, map, sym, ap, subst, ◌∙◌}
use Rattle.std.specs.Vec.Iter.{into_iter_items}
use Rattle.cwr_lines.specs.Format.Records.{RecordValue}
use Rattle.cwr_values.specs.declared.items.Item.{Item}
use Rattle.cwr_values.specs.declared.items.Item.TheVariants.{Transaction, GroupClosed}
use Rattle.cwr_values.specs.Format.Values.{GroupValue, IsTransaction, type_of}
use Rattle.cwr_decode.specs.Format.Runs.{AreGroupItems}
use Rattle.cwr_decode.proofs.lemmas.ItemsMakeOneTransmission.{more_transactions, next_foot, next_in_group, next_transaction}
use Rattle.cwr_decode.proofs.whole.collect_group.Goals as goal

pub add_transaction-requires : goal.add_transaction-requires
add_transaction-requires c =
    let here : into_iter_items c.transactions.items ≡ Transaction c.in-Transaction.transaction ∷ into_iter_items c.next.new.self
    = c.in-Some.ensures.items ∙ ap (λ (x : Item). x ∷ into_iter_items c.next.new.self) c.in-Transaction.is in
    let next =
    next_transaction c.args.head c.in-Transaction.transaction (into_iter_items c.next.new.self)
    (subst (AreGroupItems c.args.head) here c.transactions.invariant.left) in
    subst (λ (r : RecordValue). IsTransaction (type_of r) c.in-Transaction.transaction) (sym c.transactions.invariant.head) next.0

pub transactions-preserved : goal.transactions-preserved
transactions-preserved c =
    let here : into_iter_items c.transactions.items ≡ Transaction c.in-Transaction.transaction ∷ into_iter_items c.next.new.self
    = c.in-Some.ensures.items ∙ ap (λ (x : Item). x ∷ into_iter_items c.next.new.self) c.in-Transaction.is in
    let next =
    next_transaction c.args.head c.in-Transaction.transaction (into_iter_items c.next.new.self)
    (subst (AreGroupItems c.args.head) here c.transactions.invariant.left) in
    let pushed = c.in_ok-add_transaction-in-Transaction.ensures in
    record {
      head = ap (λ (g : GroupValue). g.head) pushed ∙ c.transactions.invariant.head;
      left = next.1;
      taken = c.transactions.invariant.taken ∙ ap (λ (l : List Item). map Transaction c.transactions.group.transactions ++ l) here
          ∙ more_transactions c.transactions.group.transactions c.in-Transaction.transaction (into_iter_items c.next.new.self)
          ∙ ap (λ (g : GroupValue). map Transaction g.transactions ++ into_iter_items c.next.new.self) (sym pushed);
    }

pub unreachable-requires-in-Err : goal.unreachable-requires-in-Err
unreachable-requires-in-Err c =
    let here : into_iter_items c.transactions.items ≡ GroupClosed c.in-GroupClosed.foot ∷ into_iter_items c.next.new.self
    = c.in-Some.ensures.items ∙ ap (λ (x : Item). x ∷ into_iter_items c.next.new.self) c.in-GroupClosed.is in
    let grt =
    next_foot c.args.head c.in-GroupClosed.foot (into_iter_items c.next.new.self)
    (subst (AreGroupItems c.args.head) here c.transactions.invariant.left) in
    search rules

pub unreachable-requires-in_default-item : goal.unreachable-requires-in_default-item
unreachable-requires-in_default-item c =
    next_in_group c.args.head c.in-Some.item (into_iter_items c.next.new.self)
    (subst (AreGroupItems c.args.head) c.in-Some.ensures.items c.transactions.invariant.left)
    c.in_default-item.not-Transaction c.in_default-item.not-GroupClosed

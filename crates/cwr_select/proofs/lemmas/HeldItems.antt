-- What is held between two items: HDR and GRH, never TRL, and few counts.
use Rattle.std.proofs.Common.{◌≡◌, ℕ, ◌+◌, ◌≤◌, Bool, true, false, List, [], ◌∷◌, ◌++◌, length, ap, subst, ◌∙◌}
use Rattle.std.proofs.Common.{append-nil, arith}
use Rattle.std.specs.Prelude.{None, if◌then◌else◌}
use Rattle.cwr_values.specs.declared.items.Item.{Item}
use Rattle.cwr_values.specs.declared.items.Item.TheVariants.{Opened, GroupOpened, Transaction, GroupClosed, Ended}
use Rattle.cwr_select.specs.declared.held.Held.{Held}
use Rattle.cwr_select.specs.Format.Selections.{Choice}
use Rattle.cwr_select.specs.Steps.Held.{HasRoom, held_after, held_with, items_after, items_with, none_held, with_left_out}
use Rattle.cwr_select.specs.Steps.Held.{with_selected}
use Rattle.cwr_select.specs.Steps.Selecting.{IsControl}
use Rattle.cwr_select.proofs.lemmas.SelectedItems.{held_after-append, items_after-append}

-- ---- one item more

pub items_more : (choice : Choice) (h : Held) (given : List Item) (item : Item)
    → items_after choice h (given ++ item ∷ []) ≡ items_after choice h given ++ items_with choice (held_after choice h given) item
items_more choice h given item =
    items_after-append choice h given (item ∷ [])
    ∙ ap (λ (l : List Item). items_after choice h given ++ l) (append-nil (items_with choice (held_after choice h given) item))

pub held_more : (choice : Choice) (h : Held) (given : List Item) (item : Item)
    → held_after choice h (given ++ item ∷ []) ≡ held_with choice (held_after choice h given) item
held_more choice h given item = held_after-append choice h given (item ∷ [])

-- ---- what is held

-- TRL isn't held, and no transaction; and there are at most so many of each
pub record IsHeld (h : Held) (count : ℕ) : Type 0 where
  pub opening : IsControl h.opening
  pub head : IsControl h.head
  pub groups : h.group ≤ count
  pub transactions : h.transactions ≤ count
  pub selected : h.selected ≤ count
  pub all : h.report.transactions ≤ count
  pub all_selected : h.report.selected ≤ count

none_there : IsControl None
none_there = record { goes_on = λ e. absurd (cc e); outside = λ t e. absurd (cc e) }

held_item : (choice : Choice) (h : Held) (count : ℕ) (item : Item) → IsHeld h count → IsHeld (held_with choice h item) (count + 1)
held_item choice h count (Opened r) k = record {
  opening = record { goes_on = λ e. absurd (cc e); outside = λ t e. absurd (cc e) };
  head = k.head;
  groups = omega (arith, k.groups);
  transactions = omega (arith, k.transactions);
  selected = omega (arith, k.selected);
  all = omega (arith, k.all);
  all_selected = omega (arith, k.all_selected);
}
held_item choice h count (GroupOpened r) k = record {
  opening = k.opening;
  head = record { goes_on = λ e. absurd (cc e); outside = λ t e. absurd (cc e) };
  groups = omega (arith, k.groups);
  transactions = omega arith;
  selected = omega arith;
  all = omega (arith, k.all);
  all_selected = omega (arith, k.all_selected);
}
held_item choice h count (Transaction t) k = by (choice h.group h.transactions t)
  where
    by : (b : Bool) → IsHeld (if b then with_selected h else with_left_out h) (count + 1)
    by true = record {
      opening = none_there;
      head = none_there;
      groups = omega (arith, k.groups);
      transactions = omega (arith, k.transactions);
      selected = omega (arith, k.selected);
      all = omega (arith, k.all);
      all_selected = omega (arith, k.all_selected);
    }
    by false = record {
      opening = k.opening;
      head = k.head;
      groups = omega (arith, k.groups);
      transactions = omega (arith, k.transactions);
      selected = omega (arith, k.selected);
      all = omega (arith, k.all);
      all_selected = omega (arith, k.all_selected);
    }
held_item choice h count (GroupClosed r) k = record {
  opening = k.opening;
  head = k.head;
  groups = omega (arith, k.groups);
  transactions = omega (arith, k.transactions);
  selected = omega (arith, k.selected);
  all = omega (arith, k.all);
  all_selected = omega (arith, k.all_selected);
}
held_item choice h count Ended k = record {
  opening = k.opening;
  head = k.head;
  groups = omega (arith, k.groups);
  transactions = omega (arith, k.transactions);
  selected = omega (arith, k.selected);
  all = omega (arith, k.all);
  all_selected = omega (arith, k.all_selected);
}

held_from : (choice : Choice) (h : Held) (count : ℕ) (given : List Item) → IsHeld h count
    → IsHeld (held_after choice h given) (count + length given)
held_from choice h count [] k = subst (IsHeld h) (omega arith) k
held_from choice h count (item ∷ given) k =
    subst (IsHeld (held_after choice (held_with choice h item) given)) (omega arith)
    (held_from choice (held_with choice h item) (count + 1) given (held_item choice h count item k))

nothing_held : IsHeld none_held 0
nothing_held = record {
  opening = none_there;
  head = none_there;
  groups = omega arith;
  transactions = omega arith;
  selected = omega arith;
  all = omega arith;
  all_selected = omega arith;
}

pub is_held : (choice : Choice) (given : List Item) → IsHeld (held_after choice none_held given) (length given)
is_held choice given =
    subst (IsHeld (held_after choice none_held given)) (omega arith) (held_from choice none_held 0 given nothing_held)

-- so there is room where few items were handed out
pub has_room : (h : Held) (count : ℕ) → IsHeld h count → count ≤ 199999998 → HasRoom h
has_room h count k few = record {
  groups = omega (arith, k.groups);
  transactions = omega (arith, k.transactions);
  selected = omega (arith, k.selected);
  all = omega (arith, k.all);
  all_selected = omega (arith, k.all_selected);
}

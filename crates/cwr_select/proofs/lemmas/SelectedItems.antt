-- What is written of a transmission's items is the items of what is selected of it.
use Rattle.std.proofs.Common.{◌≡◌, ℕ, suc, ◌+◌, Bool, true, false, cond, List, [], ◌∷◌, ◌++◌, length, map, Option, Some, None}
use Rattle.std.proofs.Common.{true≢false, refl, sym, ap, ap₂, subst, ◌∙◌, append_assoc, append-nil, arith}
use Rattle.std.specs.Prelude.{◌==◌, nat_lt, filter, if◌then◌else◌}
use Rattle.std.specs.List.{enumerate_from, flat_map}
use Rattle.std.specs.Option.{option_to_list}
use Rattle.std.proofs.Math.Dec.{eqb-suc-zero}
use Rattle.std.proofs.lemmas.Bool.{lt-ltb}
use Rattle.std.proofs.lemmas.List.Sums.{sum_by-cons}
use Rattle.cwr_fields.specs.declared.kinds.Kind.TheVariants as kinds
use Rattle.cwr_lines.specs.Format.Records.{RecordValue, blank_record}
use Rattle.cwr_values.specs.declared.items.Item.{Item}
use Rattle.cwr_values.specs.declared.items.Item.TheVariants.{Opened, GroupOpened, Transaction, GroupClosed, Ended}
use Rattle.cwr_values.specs.Format.Values.{GroupValue, TransmissionValue}
use Rattle.cwr_judge.specs.Format.Items.{group_items, value_items}
use Rattle.cwr_parts.specs.Steps.SplitOutputs.{blank_end}
use Rattle.cwr_select.specs.declared.held.Held.{Held}
use Rattle.cwr_select.specs.Format.Selections.{Choice, selected, selected_foot, selected_group, selected_groups}
use Rattle.cwr_select.specs.Format.Selections.{selected_count, selected_transactions, transactions_in, with_groups}
use Rattle.cwr_select.specs.Steps.Held.{end_with, entered, held_after, held_with, items_after, items_before, items_with, none_held}
use Rattle.cwr_select.specs.Steps.Held.{with_left_out, with_selected}

-- ---- items after items

pub items_after-append : (choice : Choice) (h : Held) (xs ys : List Item)
    → items_after choice h (xs ++ ys) ≡ items_after choice h xs ++ items_after choice (held_after choice h xs) ys
items_after-append choice h [] ys = refl
items_after-append choice h (x ∷ xs) ys =
    ap (λ (l : List Item). items_with choice h x ++ l) (items_after-append choice (held_with choice h x) xs ys)
    ∙ sym (append_assoc (items_with choice h x) (items_after choice (held_with choice h x) xs)
    (items_after choice (held_after choice (held_with choice h x) xs) ys))

pub held_after-append : (choice : Choice) (h : Held) (xs ys : List Item)
    → held_after choice h (xs ++ ys) ≡ held_after choice (held_after choice h xs) ys
held_after-append choice h [] ys = refl
held_after-append choice h (x ∷ xs) ys = held_after-append choice (held_with choice h x) xs ys

-- ---- what is selected of a list

-- an element that is selected comes first
pub selected_first : (test : ℕ → List RecordValue → Bool) (k : ℕ) (t : List RecordValue) (ts : List (List RecordValue))
    → test k t ≡ true → selected_transactions test k (t ∷ ts) ≡ t ∷ selected_transactions test (k + 1) ts
selected_first test k t ts e =
    let P : ℕ × List RecordValue → Bool = λ p. test p.0 p.1 in
    ap (λ (b : Bool). map (λ (p : ℕ × List RecordValue). p.1) (cond b ((k, t) ∷ filter P (enumerate_from (k + 1) ts))
    (filter P (enumerate_from (k + 1) ts)))) e

-- one that isn't is passed
pub selected_later : (test : ℕ → List RecordValue → Bool) (k : ℕ) (t : List RecordValue) (ts : List (List RecordValue))
    → test k t ≡ false → selected_transactions test k (t ∷ ts) ≡ selected_transactions test (k + 1) ts
selected_later test k t ts e =
    let P : ℕ × List RecordValue → Bool = λ p. test p.0 p.1 in
    ap (λ (b : Bool). map (λ (p : ℕ × List RecordValue). p.1) (cond b ((k, t) ∷ filter P (enumerate_from (k + 1) ts))
    (filter P (enumerate_from (k + 1) ts)))) e

-- ---- what is held

-- what comes before elements, where there are any
abbrev pub front_if : {X : Type 0} → List Item → List X → List Item
front_if front [] = []
front_if front (x ∷ xs) = front

pub front_if-nil : {X : Type 0} (xs : List X) → front_if [] xs ≡ []
front_if-nil [] = refl
front_if-nil (x ∷ xs) = refl

-- what is held until there is one
abbrev pub until_some : {X : Type 0} → Option Item → List X → Option Item
until_some held [] = held
until_some held (x ∷ xs) = None

pub until_some-none : {X : Type 0} (xs : List X) → until_some None xs ≡ None
until_some-none [] = refl
until_some-none (x ∷ xs) = refl

-- so many transactions were handed out, and these of them are selected
pub record IsPassed {X : Type 0} (h k : Held) (count : ℕ) (kept : List X) : Type 0 where
  pub opening : k.opening ≡ until_some h.opening kept
  pub group : k.group ≡ h.group
  pub transactions : k.transactions ≡ h.transactions + count
  pub selected : k.selected ≡ h.selected + length kept
  pub all : k.report.transactions ≡ h.report.transactions + count
  pub all_selected : k.report.selected ≡ h.report.selected + length kept

pub record AreWritten (choice : Choice) (h : Held) (ts kept : List (List RecordValue)) : Type 0 where
  pub items : items_after choice h (map Transaction ts) ≡ front_if (items_before h) kept ++ map Transaction kept
  pub held : IsPassed h (held_after choice h (map Transaction ts)) (length ts) kept

-- ---- a transaction

first_written : (choice : Choice) (h : Held) (t : List RecordValue) (ts kept : List (List RecordValue))
    → choice h.group h.transactions t ≡ true → AreWritten choice (with_selected h) ts kept
    → AreWritten choice h (t ∷ ts) (t ∷ kept)
first_written choice h t ts kept e w =
    let now : held_with choice h (Transaction t) ≡ with_selected h =
    ap (λ (b : Bool). if b then with_selected h else with_left_out h) e in
    let put : items_with choice h (Transaction t) ≡ items_before h ++ Transaction t ∷ [] =
    ap (λ (b : Bool). if b then items_before h ++ Transaction t ∷ [] else []) e in
    let rest : items_after choice (held_with choice h (Transaction t)) (map Transaction ts) ≡ map Transaction kept =
    ap (λ (k : Held). items_after choice k (map Transaction ts)) now ∙ w.items
    ∙ ap (λ (l : List Item). l ++ map Transaction kept) (front_if-nil kept) in
    let held =
    subst (λ (k : Held). IsPassed (with_selected h) (held_after choice k (map Transaction ts)) (length ts) kept) (sym now)
    w.held in
    record {
      items =
          ap₂ (λ (l m : List Item). l ++ m) put rest
          ∙ append_assoc (items_before h) (Transaction t ∷ []) (map Transaction kept);
      held = record {
        opening = held.opening ∙ until_some-none kept;
        group = held.group;
        transactions = omega (arith, held.transactions);
        selected = omega (arith, held.selected);
        all = omega (arith, held.all);
        all_selected = omega (arith, held.all_selected);
      };
    }

first_left_out : (choice : Choice) (h : Held) (t : List RecordValue) (ts kept : List (List RecordValue))
    → choice h.group h.transactions t ≡ false → AreWritten choice (with_left_out h) ts kept → AreWritten choice h (t ∷ ts) kept
first_left_out choice h t ts kept e w =
    let now : held_with choice h (Transaction t) ≡ with_left_out h =
    ap (λ (b : Bool). if b then with_selected h else with_left_out h) e in
    let put : items_with choice h (Transaction t) ≡ [] =
    ap (λ (b : Bool). if b then items_before h ++ Transaction t ∷ [] else []) e in
    let held =
    subst (λ (k : Held). IsPassed (with_left_out h) (held_after choice k (map Transaction ts)) (length ts) kept) (sym now)
    w.held in
    record {
      items =
          ap₂ (λ (l m : List Item). l ++ m) put
          (ap (λ (k : Held). items_after choice k (map Transaction ts)) now ∙ w.items);
      held = record {
        opening = held.opening;
        group = held.group;
        transactions = omega (arith, held.transactions);
        selected = held.selected;
        all = omega (arith, held.all);
        all_selected = held.all_selected;
      };
    }

next_written : (choice : Choice) (h : Held) (t : List RecordValue) (ts : List (List RecordValue)) (b : Bool)
    → choice h.group h.transactions t ≡ b
    → AreWritten choice (with_selected h) ts (selected_transactions (choice h.group) (h.transactions + 1) ts)
    → AreWritten choice (with_left_out h) ts (selected_transactions (choice h.group) (h.transactions + 1) ts)
    → AreWritten choice h (t ∷ ts) (selected_transactions (choice h.group) h.transactions (t ∷ ts))
next_written choice h t ts true e w o =
    subst (AreWritten choice h (t ∷ ts)) (sym (selected_first (choice h.group) h.transactions t ts e))
    (first_written choice h t ts (selected_transactions (choice h.group) (h.transactions + 1) ts) e w)
next_written choice h t ts false e w o =
    subst (AreWritten choice h (t ∷ ts)) (sym (selected_later (choice h.group) h.transactions t ts e))
    (first_left_out choice h t ts (selected_transactions (choice h.group) (h.transactions + 1) ts) e o)

-- the transactions of a group
pub transactions_written : (choice : Choice) (h : Held) (ts : List (List RecordValue))
    → AreWritten choice h ts (selected_transactions (choice h.group) h.transactions ts)
transactions_written choice h [] = record {
  items = refl;
  held = record {
    opening = refl;
    group = refl;
    transactions = omega arith;
    selected = omega arith;
    all = omega arith;
    all_selected = omega arith;
  };
}
transactions_written choice h (t ∷ ts) =
    next_written choice h t ts (choice h.group h.transactions t) refl (transactions_written choice (with_selected h) ts)
    (transactions_written choice (with_left_out h) ts)

-- ---- a group

-- the end of a group is that of what is selected of it
ends : (foot : RecordValue) (k : Held) (n : ℕ) (kept : List (List RecordValue)) → k.selected ≡ length kept → k.transactions ≡ n
    → end_with k (GroupClosed foot) ≡ front_if (GroupClosed (selected_foot foot (length kept) n) ∷ []) kept
ends foot k n [] s t = ap (λ (c : ℕ). if c == 0 then [] else (if c == k.transactions then GroupClosed foot else blank_end) ∷ []) s
ends foot k n (x ∷ kept) s t =
    ap₂ (λ (c m : ℕ). if c == 0 then [] else (if c == m then GroupClosed foot else blank_end) ∷ []) s t
    ∙ ap (λ (b : Bool). if b then [] else (if suc (length kept) == n then GroupClosed foot else blank_end) ∷ [])
    (eqb-suc-zero (length kept))
    ∙ closed (suc (length kept) == n)
  where
    closed : (b : Bool) → (if b then GroupClosed foot else blank_end) ∷ []
        ≡ GroupClosed (if b then foot else blank_record kinds.Grt) ∷ []
    closed true = refl
    closed false = refl

-- the items of a group around some transactions, where there are any
around : (opening : List Item) (first last : Item) (kept : List (List RecordValue))
    → (front_if (opening ++ first ∷ []) kept ++ map Transaction kept) ++ front_if (last ∷ []) kept
    ≡ front_if opening kept ++ front_if (first ∷ (map Transaction kept ++ last ∷ [])) kept
around opening first last [] = refl
around opening first last (x ∷ kept) =
    let ts : List Item = map Transaction (x ∷ kept) in
    append_assoc (opening ++ first ∷ []) ts (last ∷ []) ∙ append_assoc opening (first ∷ []) (ts ++ last ∷ [])

-- what is selected of a group is written
pub record IsGroupWritten (choice : Choice) (h : Held) (g kept : GroupValue) : Type 0 where
  pub items : items_after choice h (group_items g)
      ≡ front_if (option_to_list h.opening) kept.transactions ++ front_if (group_items kept) kept.transactions
  pub opening : (held_after choice h (group_items g)).opening ≡ until_some h.opening kept.transactions
  pub group : (held_after choice h (group_items g)).group ≡ h.group + 1
  pub all : (held_after choice h (group_items g)).report.transactions ≡ h.report.transactions + length g.transactions
  pub all_selected : (held_after choice h (group_items g)).report.selected ≡ h.report.selected + length kept.transactions

pub group_written : (choice : Choice) (h : Held) (g : GroupValue)
    → IsGroupWritten choice h g (selected_group choice (h.group + 1) g)
group_written choice h g =
    let inside : Held = entered h (GroupOpened g.head) in
    let ts : List Item = map Transaction g.transactions in
    let kept : List (List RecordValue) = selected_transactions (choice (h.group + 1)) 0 g.transactions in
    let w : AreWritten choice inside g.transactions kept = transactions_written choice inside g.transactions in
    let last : Held = held_after choice inside ts in
    let foot : Item = GroupClosed (selected_foot g.foot (length kept) (length g.transactions)) in
    let end : items_after choice last (GroupClosed g.foot ∷ []) ≡ front_if (foot ∷ []) kept =
    append-nil (end_with last (GroupClosed g.foot))
    ∙ ends g.foot last (length g.transactions) kept (omega (arith, w.held.selected)) (omega (arith, w.held.transactions)) in
    let after : held_after choice h (group_items g) ≡ last =
    held_after-append choice inside ts (GroupClosed g.foot ∷ []) in
    record {
      items =
          items_after-append choice inside ts (GroupClosed g.foot ∷ [])
          ∙ ap₂ (λ (l m : List Item). l ++ m) w.items end
          ∙ around (option_to_list h.opening) (GroupOpened g.head) foot kept;
      opening = ap (λ (k : Held). k.opening) after ∙ w.held.opening;
      group = ap (λ (k : Held). k.group) after ∙ w.held.group;
      all = ap (λ (k : Held). k.report.transactions) after ∙ w.held.all;
      all_selected = ap (λ (k : Held). k.report.selected) after ∙ w.held.all_selected;
    }

-- ---- groups

-- whether a group has a transaction
abbrev pub has_some : GroupValue → Bool
has_some g = nat_lt 0 (length g.transactions)

-- a group that has a selected transaction is one of those that are selected
pub group_first : (choice : Choice) (n : ℕ) (g : GroupValue) (gs : List GroupValue)
    → has_some (selected_group choice n g) ≡ true
    → selected_groups choice n (g ∷ gs) ≡ selected_group choice n g ∷ selected_groups choice (n + 1) gs
group_first choice n g gs e =
    ap (λ (b : Bool). cond b (selected_group choice n g ∷ selected_groups choice (n + 1) gs) (selected_groups choice (n + 1) gs))
    e

pub group_later : (choice : Choice) (n : ℕ) (g : GroupValue) (gs : List GroupValue)
    → has_some (selected_group choice n g) ≡ false → selected_groups choice n (g ∷ gs) ≡ selected_groups choice (n + 1) gs
group_later choice n g gs e =
    ap (λ (b : Bool). cond b (selected_group choice n g ∷ selected_groups choice (n + 1) gs) (selected_groups choice (n + 1) gs))
    e

some_front : {X : Type 0} (front : List Item) (xs : List X) → nat_lt 0 (length xs) ≡ true → front_if front xs ≡ front
some_front front [] e = absurd (cc)
some_front front (x ∷ xs) e = refl

no_front : {X : Type 0} (front : List Item) (xs : List X) → nat_lt 0 (length xs) ≡ false → front_if front xs ≡ []
no_front front [] e = refl
no_front front (x ∷ xs) e = absurd (true≢false (sym (lt-ltb 0 (suc (length xs)) (omega arith)) ∙ e))

some_held : {X : Type 0} (held : Option Item) (xs : List X) → nat_lt 0 (length xs) ≡ true → until_some held xs ≡ None
some_held held [] e = absurd (cc)
some_held held (x ∷ xs) e = refl

no_held : {X : Type 0} (held : Option Item) (xs : List X) → nat_lt 0 (length xs) ≡ false → until_some held xs ≡ held
no_held held [] e = refl
no_held held (x ∷ xs) e = absurd (true≢false (sym (lt-ltb 0 (suc (length xs)) (omega arith)) ∙ e))

pub none_in : {X : Type 0} (xs : List X) → nat_lt 0 (length xs) ≡ false → xs ≡ []
none_in [] e = refl
none_in (x ∷ xs) e = absurd (true≢false (sym (lt-ltb 0 (suc (length xs)) (omega arith)) ∙ e))

-- what is selected of groups is written
pub record AreGroupsWritten (choice : Choice) (h : Held) (gs kept : List GroupValue) : Type 0 where
  pub items : items_after choice h (flat_map group_items gs)
      ≡ front_if (option_to_list h.opening) kept ++ flat_map group_items kept
  pub opening : (held_after choice h (flat_map group_items gs)).opening ≡ until_some h.opening kept
  pub all : (held_after choice h (flat_map group_items gs)).report.transactions ≡ h.report.transactions + transactions_in gs
  pub all_selected : (held_after choice h (flat_map group_items gs)).report.selected
      ≡ h.report.selected + transactions_in kept

size : GroupValue → ℕ
size g = length g.transactions

group_put : (choice : Choice) (h : Held) (g one : GroupValue) (gs kept : List GroupValue) → IsGroupWritten choice h g one
    → has_some one ≡ true → AreGroupsWritten choice (held_after choice h (group_items g)) gs kept
    → AreGroupsWritten choice h (g ∷ gs) (one ∷ kept)
group_put choice h g one gs kept w e r =
    let k : Held = held_after choice h (group_items g) in
    let none : k.opening ≡ None = w.opening ∙ some_held h.opening one.transactions e in
    let rest : items_after choice k (flat_map group_items gs) ≡ flat_map group_items kept =
    r.items
    ∙ ap (λ (o : Option Item). front_if (option_to_list o) kept ++ flat_map group_items kept) none
    ∙ ap (λ (l : List Item). l ++ flat_map group_items kept) (front_if-nil kept) in
    let own : items_after choice h (group_items g) ≡ option_to_list h.opening ++ group_items one =
    w.items
    ∙ ap₂ (λ (l m : List Item). l ++ m) (some_front (option_to_list h.opening) one.transactions e)
    (some_front (group_items one) one.transactions e) in
    let after = held_after-append choice h (group_items g) (flat_map group_items gs) in
    record {
      items =
          items_after-append choice h (group_items g) (flat_map group_items gs)
          ∙ ap₂ (λ (l m : List Item). l ++ m) own rest
          ∙ append_assoc (option_to_list h.opening) (group_items one) (flat_map group_items kept);
      opening =
          ap (λ (x : Held). x.opening) after ∙ r.opening
          ∙ ap (λ (o : Option Item). until_some o kept) none ∙ until_some-none kept;
      all =
          ap (λ (x : Held). x.report.transactions) after
          ∙ omega (arith, r.all, w.all, sum_by-cons (λ (x : GroupValue). length x.transactions) g gs);
      all_selected =
          ap (λ (x : Held). x.report.selected) after
          ∙ omega (arith, r.all_selected, w.all_selected, sum_by-cons (λ (x : GroupValue). length x.transactions) one kept);
    }

group_left : (choice : Choice) (h : Held) (g one : GroupValue) (gs kept : List GroupValue) → IsGroupWritten choice h g one
    → has_some one ≡ false → AreGroupsWritten choice (held_after choice h (group_items g)) gs kept
    → AreGroupsWritten choice h (g ∷ gs) kept
group_left choice h g one gs kept w e r =
    let k : Held = held_after choice h (group_items g) in
    let same : k.opening ≡ h.opening = w.opening ∙ no_held h.opening one.transactions e in
    let own : items_after choice h (group_items g) ≡ [] =
    w.items
    ∙ ap₂ (λ (l m : List Item). l ++ m) (no_front (option_to_list h.opening) one.transactions e)
    (no_front (group_items one) one.transactions e) in
    let after = held_after-append choice h (group_items g) (flat_map group_items gs) in
    let none : length one.transactions ≡ 0 = ap length (none_in one.transactions e) in
    record {
      items =
          items_after-append choice h (group_items g) (flat_map group_items gs)
          ∙ ap₂ (λ (l m : List Item). l ++ m) own r.items
          ∙ ap (λ (o : Option Item). front_if (option_to_list o) kept ++ flat_map group_items kept) same;
      opening =
          ap (λ (x : Held). x.opening) after ∙ r.opening ∙ ap (λ (o : Option Item). until_some o kept) same;
      all =
          ap (λ (x : Held). x.report.transactions) after
          ∙ omega (arith, r.all, w.all, sum_by-cons (λ (x : GroupValue). length x.transactions) g gs);
      all_selected =
          ap (λ (x : Held). x.report.selected) after ∙ omega (arith, r.all_selected, w.all_selected, none);
    }

next_group : (choice : Choice) (h : Held) (n : ℕ) (g : GroupValue) (gs : List GroupValue) (b : Bool) → h.group + 1 ≡ n
    → has_some (selected_group choice n g) ≡ b
    → AreGroupsWritten choice (held_after choice h (group_items g)) gs (selected_groups choice (n + 1) gs)
    → AreGroupsWritten choice h (g ∷ gs) (selected_groups choice n (g ∷ gs))
next_group choice h n g gs true at e r =
    subst (AreGroupsWritten choice h (g ∷ gs)) (sym (group_first choice n g gs e))
    (group_put choice h g (selected_group choice n g) gs (selected_groups choice (n + 1) gs)
    (subst (λ (m : ℕ). IsGroupWritten choice h g (selected_group choice m g)) at (group_written choice h g)) e r)
next_group choice h n g gs false at e r =
    subst (AreGroupsWritten choice h (g ∷ gs)) (sym (group_later choice n g gs e))
    (group_left choice h g (selected_group choice n g) gs (selected_groups choice (n + 1) gs)
    (subst (λ (m : ℕ). IsGroupWritten choice h g (selected_group choice m g)) at (group_written choice h g)) e r)

pub groups_written : (choice : Choice) (h : Held) (n : ℕ) (gs : List GroupValue) → h.group + 1 ≡ n
    → AreGroupsWritten choice h gs (selected_groups choice n gs)
groups_written choice h n [] at =
    record { items = refl; opening = refl; all = omega arith; all_selected = omega arith }
groups_written choice h n (g ∷ gs) at =
    let w = group_written choice h g in
    next_group choice h n g gs (has_some (selected_group choice n g)) at refl
    (groups_written choice (held_after choice h (group_items g)) (n + 1) gs (omega (arith, w.group, at)))

-- ---- a transmission

-- once HDR was handed out
abbrev opened : RecordValue → Held
opened r = record none_held { opening = Some (Opened r) }

whole_held : (choice : Choice) (v : TransmissionValue)
    → held_after choice none_held (value_items v) ≡ held_after choice (opened v.opening) (flat_map group_items v.groups)
whole_held choice v = held_after-append choice (opened v.opening) (flat_map group_items v.groups) (Ended ∷ [])

-- what is written of a transmission: HDR and the groups of which transactions are selected, where there are any
pub whole_written : (choice : Choice) (v : TransmissionValue)
    → items_after choice none_held (value_items v)
    ≡ front_if (Opened v.opening ∷ []) (selected_groups choice 1 v.groups)
    ++ flat_map group_items (selected_groups choice 1 v.groups)
whole_written choice v =
    items_after-append choice (opened v.opening) (flat_map group_items v.groups) (Ended ∷ [])
    ∙ append-nil (items_after choice (opened v.opening) (flat_map group_items v.groups))
    ∙ (groups_written choice (opened v.opening) 1 v.groups (omega arith)).items

-- the numbers that are counted
pub whole_counted : (choice : Choice) (v : TransmissionValue)
    → ((held_after choice none_held (value_items v)).report.transactions ≡ transactions_in v.groups)
    × ((held_after choice none_held (value_items v)).report.selected ≡ selected_count choice v)
whole_counted choice v =
    let w = groups_written choice (opened v.opening) 1 v.groups (omega arith) in (
      ap (λ (h : Held). h.report.transactions) (whole_held choice v) ∙ omega (arith, w.all),
      ap (λ (h : Held). h.report.selected) (whole_held choice v) ∙ omega (arith, w.all_selected),
    )

-- where nothing is selected nothing is written
pub none_written : (choice : Choice) (v : TransmissionValue) → selected choice v ≡ None
    → items_after choice none_held (value_items v) ≡ []
none_written choice v e = whole_written choice v ∙ by (selected_groups choice 1 v.groups) e
  where
    by : (gs : List GroupValue) → with_groups v.opening gs ≡ None
        → front_if (Opened v.opening ∷ []) gs ++ flat_map group_items gs ≡ []
    by [] none = refl
    by (g ∷ gs) none = absurd (cc)

-- else the items of what is selected are, but for TRL
pub some_written : (choice : Choice) (v w : TransmissionValue) → selected choice v ≡ Some w
    → value_items w ≡ items_after choice none_held (value_items v) ++ Ended ∷ []
some_written choice v w e =
    by (selected_groups choice 1 v.groups) e ∙ ap (λ (l : List Item). l ++ Ended ∷ []) (sym (whole_written choice v))
  where
    by : (gs : List GroupValue) → with_groups v.opening gs ≡ Some w
        → value_items w ≡ (front_if (Opened v.opening ∷ []) gs ++ flat_map group_items gs) ++ Ended ∷ []
    by [] some = absurd (cc)
    by (g ∷ gs) some = let same : w ≡ record { opening = v.opening; groups = g ∷ gs } = cc in ap value_items same

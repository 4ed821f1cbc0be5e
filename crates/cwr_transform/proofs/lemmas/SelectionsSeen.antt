-- What is seen of a transmission while some of its transactions are selected comes item by item.
use Rattle.std.proofs.Common.{◌≡◌, ℕ, ◌+◌, ◌-◌, ◌^◌, ◌<◌, Bool, true, false, ◌||◌, cond, List, [], ◌∷◌, ◌++◌, length, map, min, refl, sym, ap, ap₂, subst, ◌∙◌, append_assoc, append-nil, add-zero, arith}
use Rattle.std.specs.Prelude.{filter, if◌then◌else◌}
use Rattle.std.specs.List.{enumerate_from, flat_map, list_any}
use Rattle.std.proofs.lemmas.List.{length_push, map-append}
use Rattle.std.proofs.lemmas.List.Concat.{flat_map-append}
use Rattle.std.proofs.lemmas.List.Elements.{filter-append}
use Rattle.std.proofs.lemmas.List.Folds.{list_any-append}
use Rattle.cwr_lines.specs.Format.Records.{RecordValue}
use Rattle.cwr_values.specs.declared.items.Item.{Item}
use Rattle.cwr_values.specs.declared.items.Item.TheVariants.{Opened, GroupOpened, Transaction, GroupClosed, Ended}
use Rattle.cwr_values.specs.Format.Values.{GroupValue, TransmissionValue}
use Rattle.cwr_judge.specs.Format.Items.{group_items, value_items}
use Rattle.cwr_select.specs.Format.Selections.{Choice}
use Rattle.cwr_tools.specs.declared.viewing.FindingView.{FindingView}
use Rattle.cwr_transform.specs.declared.select_views.Blanked.{Blanked}
use Rattle.cwr_transform.specs.declared.select_views.SelectView.{SelectView}
use Rattle.cwr_transform.specs.declared.sought.Sought.{Sought}
use Rattle.cwr_transform.specs.Format.Missing.{Placed, chosen_of, is_created_at, placed, placed_in}
use Rattle.cwr_transform.specs.Format.Openings.{opening_of, openings_in}
use Rattle.cwr_transform.specs.Steps.SelectViews.{HasSeenFindings, has_seen, placed_after}
use Rattle.cwr_transform.specs.Steps.Sought.{HasNoted, numbers_sought, places_sought}

-- ---- the transactions among a transmission's items

abbrev placed_at : ℕ → ℕ × List RecordValue → Placed
placed_at group t = record { group = group; place = t.0; records = t.1 }

transactions_placed : (group k : ℕ) (ts : List (List RecordValue)) (rest : List Item)
    → placed_after group k (map Transaction ts ++ rest)
    ≡ map (placed_at group) (enumerate_from k ts) ++ placed_after group (k + length ts) rest
transactions_placed group k [] rest = ap (λ (n : ℕ). placed_after group n rest) (sym (add-zero k))
transactions_placed group k (t ∷ ts) rest =
    let further : k + 1 + length ts ≡ k + length (t ∷ ts) = omega arith in
    ap (λ (ps : List Placed). placed_at group (k, t) ∷ ps)
    (transactions_placed group (k + 1) ts rest
    ∙ ap (λ (n : ℕ). map (placed_at group) (enumerate_from (k + 1) ts) ++ placed_after group n rest) further)

group_placed : (group k : ℕ) (g : GroupValue) (rest : List Item)
    → placed_after group k (group_items g ++ rest)
    ≡ placed_in (group + 1, g) ++ placed_after (group + 1) (0 + length g.transactions) rest
group_placed group k g rest =
    ap (placed_after (group + 1) 0) (append_assoc (map Transaction g.transactions) (GroupClosed g.foot ∷ []) rest)
    ∙ transactions_placed (group + 1) 0 g.transactions (GroupClosed g.foot ∷ rest)

groups_placed : (group k : ℕ) (gs : List GroupValue)
    → placed_after group k (flat_map group_items gs ++ Ended ∷ []) ≡ flat_map placed_in (enumerate_from (group + 1) gs)
groups_placed group k [] = refl
groups_placed group k (g ∷ gs) =
    ap (placed_after group k) (append_assoc (group_items g) (flat_map group_items gs) (Ended ∷ []))
    ∙ group_placed group k g (flat_map group_items gs ++ Ended ∷ [])
    ∙ ap (λ (ps : List Placed). placed_in (group + 1, g) ++ ps) (groups_placed (group + 1) (0 + length g.transactions) gs)

value_placed : (v : TransmissionValue) → placed_after 0 0 (value_items v) ≡ placed v
value_placed v = groups_placed 0 0 v.groups

no_openings_of : (ts : List (List RecordValue)) (rest : List Item) → openings_in (map Transaction ts ++ rest) ≡ openings_in rest
no_openings_of [] rest = refl
no_openings_of (t ∷ ts) rest = no_openings_of ts rest

no_openings : (gs : List GroupValue) → openings_in (flat_map group_items gs ++ Ended ∷ []) ≡ []
no_openings [] = refl
no_openings (g ∷ gs) =
    ap openings_in (append_assoc (group_items g) (flat_map group_items gs) (Ended ∷ []))
    ∙ flat_map-append opening_of (group_items g) (flat_map group_items gs ++ Ended ∷ [])
    ∙ ap₂ (λ (rs qs : List RecordValue). rs ++ qs) (no_openings_of g.transactions (GroupClosed g.foot ∷ [])) (no_openings gs)

one_opening : (v : TransmissionValue) → openings_in (value_items v) ≡ v.opening ∷ []
one_opening v = ap (λ (rs : List RecordValue). v.opening ∷ rs) (no_openings v.groups)

-- ---- one item more

shorter : (items : List Item) (item : Item) → length (items ++ item ∷ []) < 2 ^ 31 → length items < 2 ^ 31
shorter items item h = omega (arith, h, length_push items item)

one_chosen : (choice : Choice) (ps : List Placed) (p : Placed)
    → chosen_of choice (ps ++ p ∷ []) ≡ chosen_of choice ps ++ chosen_of choice (p ∷ [])
one_chosen choice ps p =
    ap (map (λ (q : Placed). Transaction q.records)) (filter-append (λ q. choice q.group q.place q.records) ps (p ∷ []))
    ∙ map-append _ (filter (λ q. choice q.group q.place q.records) ps) (filter (λ q. choice q.group q.place q.records) (p ∷ []))

or_last : (a b : Bool) → (a || (b || false)) ≡ (a || b)
or_last true b = refl
or_last false true = refl
or_last false false = refl

module _ {C : Type 0} (choice : C → Choice) (first old : SelectView C) (items : List Item) where
  -- HDR
  pub seen_opening : (r : RecordValue) (same : Bool) → same ≡ is_created_at old.created r → has_seen choice first old items
      → has_seen choice first (record old { is_same_moment = old.is_same_moment || same }) (items ++ Opened r ∷ [])
  seen_opening r same is h = λ few.
      let k = h (shorter items (Opened r) few) in
      record {
        ps = k.ps;
        on = λ rest. ap (placed_after 0 0) (append_assoc items (Opened r ∷ []) rest) ∙ k.on (Opened r ∷ rest);
        groups = omega (arith, k.groups, length_push items (Opened r));
        transactions = omega (arith, k.transactions, length_push items (Opened r));
        choice_is = k.choice_is;
        created_is = k.created_is;
        findings = k.findings;
        few = omega (arith, k.few, length_push items (Opened r));
        sought = k.sought;
        moment =
            ap₂ (λ (a b : Bool). a || b) k.moment (is ∙ ap (λ m. is_created_at m r) k.created_is)
            ∙ sym (ap (list_any (is_created_at first.created)) (flat_map-append opening_of items (Opened r ∷ []))
            ∙ list_any-append (is_created_at first.created) (openings_in items) (r ∷ [])
            ∙ or_last (list_any (is_created_at first.created) (openings_in items)) (is_created_at first.created r));
      }

  -- GRH
  pub seen_head : (r : RecordValue) (group : ℕ) (blanked : Blanked) (sought : Sought) → group ≡ min (old.group + 1) (2 ^ 32 - 1)
      → ((numbers : _) (places : _) (g t : ℕ) (ps : List Placed) → HasNoted numbers places g t ps old.sought
      → HasNoted numbers places (g + 1) 0 ps sought)
      → has_seen choice first old items
      → has_seen choice first (record old { group = group; transactions = 0; blanked = blanked; sought = sought }) (items ++ GroupOpened r ∷ [])
  seen_head r group blanked sought is noted h = λ few.
      let k = h (shorter items (GroupOpened r) few) in
      let next : group ≡ old.group + 1 = omega (arith, is, k.groups, few, length_push items (GroupOpened r)) in
      record {
        ps = k.ps;
        on = λ rest. ap (placed_after 0 0) (append_assoc items (GroupOpened r ∷ []) rest) ∙ k.on (GroupOpened r ∷ rest)
            ∙ ap (λ (n : ℕ). k.ps ++ placed_after n 0 rest) (sym next);
        groups = omega (arith, next, k.groups, length_push items (GroupOpened r));
        transactions = omega arith;
        choice_is = k.choice_is;
        created_is = k.created_is;
        findings = k.findings;
        few = omega (arith, k.few, length_push items (GroupOpened r));
        sought = subst (λ (g : ℕ). HasNoted (numbers_sought first.sought) (places_sought first.sought) g 0 k.ps sought) (sym next)
            (noted (numbers_sought first.sought) (places_sought first.sought) old.group old.transactions k.ps k.sought);
        moment = k.moment ∙ sym (ap (list_any (is_created_at first.created)) (flat_map-append opening_of items (GroupOpened r ∷ [])
            ∙ append-nil (openings_in items)));
      }

  -- a transaction
  pub seen_transaction : (t : List RecordValue) (transactions : ℕ) (chosen : Bool) (blanked : Blanked) (sought : Sought)
      (findings : FindingView) → transactions ≡ min (old.transactions + 1) (2 ^ 32 - 1)
      → chosen ≡ choice old.choice.now old.group old.transactions t
      → ((numbers : _) (places : _) (ps : List Placed) → HasNoted numbers places old.group old.transactions ps old.sought
      → HasNoted numbers places old.group (old.transactions + 1)
      (ps ++ record { group = old.group; place = old.transactions; records = t } ∷ []) sought)
      → ((seen : List Item) → HasSeenFindings seen old.findings
      → HasSeenFindings (seen ++ (if chosen then Transaction t ∷ [] else [])) findings)
      → has_seen choice first old items
      → has_seen choice first (record old { transactions = transactions; blanked = blanked; sought = sought; findings = findings })
      (items ++ Transaction t ∷ [])
  seen_transaction t transactions chosen blanked sought findings is chosen_is noted found h = λ few.
      let k = h (shorter items (Transaction t) few) in
      let p : Placed = record { group = old.group; place = old.transactions; records = t } in
      let next : transactions ≡ old.transactions + 1 = omega (arith, is, k.transactions, few, length_push items (Transaction t)) in
      record {
        ps = k.ps ++ p ∷ [];
        on = λ rest. ap (placed_after 0 0) (append_assoc items (Transaction t ∷ []) rest) ∙ k.on (Transaction t ∷ rest)
            ∙ ap (λ (n : ℕ). k.ps ++ p ∷ placed_after old.group n rest) (sym next)
            ∙ sym (append_assoc k.ps (p ∷ []) (placed_after old.group transactions rest));
        groups = omega (arith, k.groups, length_push items (Transaction t));
        transactions = omega (arith, next, k.transactions, length_push items (Transaction t));
        choice_is = k.choice_is;
        created_is = k.created_is;
        findings = subst (λ (seen : List Item). HasSeenFindings seen findings)
            (ap (λ (l : List Item). chosen_of (choice first.choice.now) k.ps ++ l)
            (one (choice first.choice.now old.group old.transactions t) chosen
            (chosen_is ∙ ap (λ c. choice c old.group old.transactions t) k.choice_is))
            ∙ sym (one_chosen (choice first.choice.now) k.ps p))
            (found (chosen_of (choice first.choice.now) k.ps) k.findings);
        few = omega (arith, k.few, length_push k.ps p, length_push items (Transaction t));
        sought = subst (λ (n : ℕ). HasNoted (numbers_sought first.sought) (places_sought first.sought) old.group n (k.ps ++ p ∷ []) sought)
            (sym next) (noted (numbers_sought first.sought) (places_sought first.sought) k.ps k.sought);
        moment = k.moment ∙ sym (ap (list_any (is_created_at first.created)) (flat_map-append opening_of items (Transaction t ∷ [])
            ∙ append-nil (openings_in items)));
      } where
        one : (b chosen : Bool) → chosen ≡ b → (if chosen then Transaction t ∷ [] else [])
            ≡ map (λ (q : Placed). Transaction q.records) (cond b (record { group = old.group; place = old.transactions; records = t } ∷ []) [])
        one true chosen e = ap (λ (b : Bool). if b then Transaction t ∷ [] else []) e
        one false chosen e = ap (λ (b : Bool). if b then Transaction t ∷ [] else []) e

  -- GRT, and TRL
  passed : (item : Item) (blanked : Blanked) → ((group place : ℕ) (rest : List Item) → placed_after group place (item ∷ rest) ≡ placed_after group place rest)
      → opening_of item ≡ [] → has_seen choice first old items
      → has_seen choice first (record old { blanked = blanked }) (items ++ item ∷ [])
  passed item blanked pass none h = λ few.
      let k = h (shorter items item few) in
      record {
        ps = k.ps;
        on = λ rest. ap (placed_after 0 0) (append_assoc items (item ∷ []) rest) ∙ k.on (item ∷ rest)
            ∙ ap (λ (l : List Placed). k.ps ++ l) (pass old.group old.transactions rest);
        groups = omega (arith, k.groups, length_push items item);
        transactions = omega (arith, k.transactions, length_push items item);
        choice_is = k.choice_is;
        created_is = k.created_is;
        findings = k.findings;
        few = omega (arith, k.few, length_push items item);
        sought = k.sought;
        moment = k.moment ∙ sym (ap (list_any (is_created_at first.created)) (flat_map-append opening_of items (item ∷ [])
            ∙ ap (λ (l : List RecordValue). openings_in items ++ (l ++ [])) none ∙ append-nil (openings_in items)));
      }

  pub seen_foot : (r : RecordValue) (blanked : Blanked) → has_seen choice first old items
      → has_seen choice first (record old { blanked = blanked }) (items ++ GroupClosed r ∷ [])
  seen_foot r blanked = passed (GroupClosed r) blanked (λ group place rest. refl) refl

  pub seen_end : has_seen choice first old items → has_seen choice first old (items ++ Ended ∷ [])
  seen_end = passed Ended old.blanked (λ group place rest. refl) refl

-- ---- all items

-- what is known of a transmission whose items were all seen
pub record HasSeenAll {C : Type 0} (choice : C → Choice) (first now : SelectView C) (v : TransmissionValue) : Type 0 where
  pub findings : HasSeenFindings (chosen_of (choice first.choice.now) (placed v)) now.findings
  pub few : length (placed v) < 2 ^ 31
  pub groups : now.group < 2 ^ 31
  pub sought : HasNoted (numbers_sought first.sought) (places_sought first.sought) now.group now.transactions (placed v) now.sought
  pub moment : now.is_same_moment ≡ is_created_at first.created v.opening

pub seen_all : {C : Type 0} (choice : C → Choice) (first now : SelectView C) (v : TransmissionValue) → length (value_items v) < 2 ^ 31
    → has_seen choice first now (value_items v) → HasSeenAll choice first now v
seen_all choice first now v few h =
    let k = h few in
    let is : k.ps ≡ placed v =
    sym (append-nil k.ps) ∙ sym (k.on []) ∙ ap (placed_after 0 0) (append-nil (value_items v)) ∙ value_placed v in
    record {
      findings = subst (λ (ps : List Placed). HasSeenFindings (chosen_of (choice first.choice.now) ps) now.findings) is k.findings;
      few = omega (arith, few, k.few, ap length is);
      groups = omega (arith, few, k.groups);
      sought = subst
          (λ (ps : List Placed). HasNoted (numbers_sought first.sought) (places_sought first.sought) now.group now.transactions ps now.sought)
          is k.sought;
      moment = k.moment ∙ ap (list_any (is_created_at first.created)) (one_opening v)
          ∙ or_last false (is_created_at first.created v.opening);
    }

-- ---- nothing so far

pub seen_none : {C : Type 0} (choice : C → Choice) (view : SelectView C) → view.group ≡ 0 → view.transactions ≡ 0
    → view.is_same_moment ≡ false → HasSeenFindings [] view.findings
    → HasNoted (numbers_sought view.sought) (places_sought view.sought) 0 0 [] view.sought → has_seen choice view view []
seen_none choice view g t m f s = λ few. record {
  ps = [];
  on = λ rest. ap₂ (λ (a b : ℕ). placed_after a b rest) (sym g) (sym t);
  groups = omega (arith, g);
  transactions = omega (arith, t);
  choice_is = refl;
  created_is = refl;
  findings = f;
  few = omega arith;
  sought = subst (λ (a : ℕ). HasNoted (numbers_sought view.sought) (places_sought view.sought) a view.transactions [] view.sought) (sym g)
      (subst (λ (b : ℕ). HasNoted (numbers_sought view.sought) (places_sought view.sought) 0 b [] view.sought) (sym t) s);
  moment = m;
}

-- The items of a transmission whose works are sent as new or as revised ones are its items, as they are sent.
use Rattle.std.proofs.Common.{◌≡◌, Bool, true, false, List, [], ◌∷◌, ◌++◌, map, Option, Some, None, refl, sym, ap, ap₂, ◌∙◌}
use Rattle.std.specs.Prelude.{◌==◌, option_map, if◌then◌else◌}
use Rattle.std.specs.List.{flat_map}
use Rattle.std.specs.Option.{option_to_list}
use Rattle.std.proofs.lemmas.List.{map-append}
use Rattle.cwr_lines.specs.Format.Records.{RecordValue}
use Rattle.cwr_values.specs.declared.items.Item.{Item}
use Rattle.cwr_values.specs.declared.items.Item.TheVariants.{Opened, GroupOpened, Transaction, GroupClosed, Ended}
use Rattle.cwr_values.specs.Format.Values.{GroupValue, TransmissionValue}
use Rattle.cwr_judge.specs.Format.Items.{group_items, value_items}
use Rattle.cwr_select.specs.declared.changes.WorkKind.{WorkKind}
use Rattle.cwr_select.specs.declared.held.Held.{Held}
use Rattle.cwr_parts.specs.Steps.SplitOutputs.{blank_end}
use Rattle.cwr_select.specs.Format.Selections.{Choice}
use Rattle.cwr_select.specs.Format.Sent.{group_as, sent_as, transaction_as}
use Rattle.cwr_select.specs.Steps.Held.{end_with, items_before}
use Rattle.cwr_select.specs.Steps.Sent.{sent_before, sent_item, sent_transaction, sent_with}

all_same : (items : List Item) → map (sent_item None) items ≡ items
all_same [] = refl
all_same (item ∷ items) = ap (λ (l : List Item). item ∷ l) (all_same items)

transactions_as : (works : WorkKind) (ts : List (List RecordValue))
    → map (sent_item (Some works)) (map Transaction ts) ≡ map Transaction (map (transaction_as works) ts)
transactions_as works [] = refl
transactions_as works (t ∷ ts) = ap (λ (l : List Item). Transaction (transaction_as works t) ∷ l) (transactions_as works ts)

group_items_as : (works : WorkKind) (g : GroupValue)
    → map (sent_item (Some works)) (group_items g) ≡ group_items (group_as works g)
group_items_as works g =
    ap (λ (l : List Item). GroupOpened (group_as works g).head ∷ l)
    (map-append (sent_item (Some works)) (map Transaction g.transactions) (GroupClosed g.foot ∷ [])
    ∙ ap (λ (l : List Item). l ++ GroupClosed g.foot ∷ []) (transactions_as works g.transactions))

groups_items_as : (works : WorkKind) (gs : List GroupValue)
    → map (sent_item (Some works)) (flat_map group_items gs) ≡ flat_map group_items (map (group_as works) gs)
groups_items_as works [] = refl
groups_items_as works (g ∷ gs) =
    map-append (sent_item (Some works)) (group_items g) (flat_map group_items gs)
    ∙ ap₂ (λ (l k : List Item). l ++ k) (group_items_as works g) (groups_items_as works gs)

pub items_as : (works : Option WorkKind) (v : TransmissionValue)
    → value_items (sent_as works v) ≡ map (sent_item works) (value_items v)
items_as None v = sym (all_same (value_items v))
items_as (Some works) v =
    sym (ap (λ (l : List Item). Opened v.opening ∷ l)
    (map-append (sent_item (Some works)) (flat_map group_items v.groups) (Ended ∷ [])
    ∙ ap (λ (l : List Item). l ++ Ended ∷ []) (groups_items_as works v.groups)))

-- TRL stays
pub ended_as : (works : Option WorkKind) → sent_item works Ended ≡ Ended
ended_as None = refl
ended_as (Some works) = refl

-- a transaction as an item
pub transaction_item : (works : Option WorkKind) (t : List RecordValue)
    → sent_item works (Transaction t) ≡ Transaction (sent_transaction works t)
transaction_item None t = refl
transaction_item (Some works) t = refl

-- ---- what is written before a transaction

held_as : (works : Option WorkKind) (held : Option Item)
    → map (sent_item works) (option_to_list held) ≡ option_to_list (option_map (sent_item works) held)
held_as works None = refl
held_as works (Some item) = refl

-- HDR, GRH and a transaction
pub before_as : (works : Option WorkKind) (h : Held) (item : Item)
    → map (sent_item works) (items_before h ++ item ∷ []) ≡ sent_before works h ++ sent_item works item ∷ []
before_as works h item =
    map-append (sent_item works) (items_before h) (item ∷ [])
    ∙ ap (λ (l : List Item). l ++ sent_item works item ∷ [])
    (map-append (sent_item works) (option_to_list h.opening) (option_to_list h.head)
    ∙ ap₂ (λ (l k : List Item). l ++ k) (held_as works h.opening) (held_as works h.head))

-- what is written with a transaction: nothing where it isn't chosen
pub chosen_sent : (works : Option WorkKind) (choice : Choice) (h : Held) (t : List RecordValue)
    → choice h.group h.transactions t ≡ true
    → sent_with works choice h (Transaction t) ≡ sent_before works h ++ Transaction (sent_transaction works t) ∷ []
chosen_sent works choice h t e =
    ap (λ (b : Bool). map (sent_item works) (if b then items_before h ++ Transaction t ∷ [] else [])) e
    ∙ before_as works h (Transaction t) ∙ ap (λ (i : Item). sent_before works h ++ i ∷ []) (transaction_item works t)

pub left_sent : (works : Option WorkKind) (choice : Choice) (h : Held) (t : List RecordValue)
    → choice h.group h.transactions t ≡ false → sent_with works choice h (Transaction t) ≡ []
left_sent works choice h t e =
    ap (λ (b : Bool). map (sent_item works) (if b then items_before h ++ Transaction t ∷ [] else [])) e

-- the end of a group stays
pub end_as : (works : Option WorkKind) (h : Held) (r : RecordValue)
    → map (sent_item works) (end_with h (GroupClosed r)) ≡ end_with h (GroupClosed r)
end_as None h r = all_same (end_with h (GroupClosed r))
end_as (Some works) h r = by (h.selected == 0) (h.selected == h.transactions)
  where
    by : (b c : Bool) → map (sent_item (Some works)) (if b then [] else (if c then GroupClosed r else blank_end) ∷ [])
        ≡ (if b then [] else (if c then GroupClosed r else blank_end) ∷ [])
    by true c = refl
    by false true = refl
    by false false = refl

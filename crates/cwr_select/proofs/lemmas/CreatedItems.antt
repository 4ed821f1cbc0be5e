-- A transmission that is created at a moment is one, and its items are those of the transmission, but for HDR.
use Rattle.std.proofs.Common.{◌≡◌, List, [], ◌∷◌, ◌++◌, map, Option, Some, None, refl, sym, ap, ap₂, subst, ◌∙◌}
use Rattle.std.specs.List.{AllByRecursion, flat_map}
use Rattle.std.proofs.lemmas.List.{map-append}
use Rattle.cwr_fields.specs.declared.kinds.Kind.TheVariants as kinds
use Rattle.cwr_lines.specs.Format.Records.{RecordValue}
use Rattle.cwr_moments.specs.declared.moments.Moment.{Moment}
use Rattle.cwr_shape.specs.declared.limits.Limits.{Limits}
use Rattle.cwr_values.specs.declared.items.Item.{Item}
use Rattle.cwr_values.specs.declared.items.Item.TheVariants.{Opened, GroupOpened, Transaction, GroupClosed, Ended}
use Rattle.cwr_values.specs.Format.Values.{FitsIn, GroupValue, IsTransmission, TransmissionValue}
use Rattle.cwr_judge.specs.Format.Items.{group_items, value_items}
use Rattle.cwr_parts.proofs.lemmas.ItemsAdded.{IsRight, all_first, all_second, right_items}
use Rattle.cwr_select.specs.Format.Created.{created_at}
use Rattle.cwr_select.specs.Format.Selecting.{select_report}
use Rattle.cwr_select.specs.Format.Selections.{Choice}
use Rattle.cwr_select.specs.Steps.Headers.{created_item}
use Rattle.cwr_select.proofs.lemmas.CreatedHeaders.{right_header}

-- ---- items

all_same : (items : List Item) → map (created_item None) items ≡ items
all_same [] = refl
all_same (item ∷ items) = ap (λ (l : List Item). item ∷ l) (all_same items)

transactions_same : (m : Moment) (ts : List (List RecordValue))
    → map (created_item (Some m)) (map Transaction ts) ≡ map Transaction ts
transactions_same m [] = refl
transactions_same m (t ∷ ts) = ap (λ (l : List Item). Transaction t ∷ l) (transactions_same m ts)

group_same : (m : Moment) (g : GroupValue) → map (created_item (Some m)) (group_items g) ≡ group_items g
group_same m g =
    ap (λ (l : List Item). GroupOpened g.head ∷ l)
    (map-append (created_item (Some m)) (map Transaction g.transactions) (GroupClosed g.foot ∷ [])
    ∙ ap (λ (l : List Item). l ++ GroupClosed g.foot ∷ []) (transactions_same m g.transactions))

groups_same : (m : Moment) (gs : List GroupValue)
    → map (created_item (Some m)) (flat_map group_items gs) ≡ flat_map group_items gs
groups_same m [] = refl
groups_same m (g ∷ gs) =
    map-append (created_item (Some m)) (group_items g) (flat_map group_items gs)
    ∙ ap₂ (λ (l k : List Item). l ++ k) (group_same m g) (groups_same m gs)

pub created_items : (created : Option Moment) (v : TransmissionValue)
    → value_items (created_at created v) ≡ map (created_item created) (value_items v)
created_items None v = sym (all_same (value_items v))
created_items (Some m) v =
    sym (ap (λ (l : List Item). created_item (Some m) (Opened v.opening) ∷ l)
    (map-append (created_item (Some m)) (flat_map group_items v.groups) (Ended ∷ [])
    ∙ ap (λ (l : List Item). l ++ Ended ∷ []) (groups_same m v.groups)))

-- ---- the transmission

pub created_right : (created : Option Moment) (v : TransmissionValue) → IsTransmission v → IsTransmission (created_at created v)
created_right None v h = h
created_right (Some m) v h = record {
  opening = (h.opening.0, right_header m v.opening h.opening.0 h.opening.1);
  some_group = h.some_group;
  each = h.each;
}

pub created_fits : (limits : Limits) (created : Option Moment) (v : TransmissionValue) → FitsIn limits v
    → FitsIn limits (created_at created v)
created_fits limits None v h = h
created_fits limits (Some m) v h = h

pub same_numbers : (created : Option Moment) (choice : Choice) (v : TransmissionValue)
    → select_report choice (created_at created v) ≡ select_report choice v
same_numbers None choice v = refl
same_numbers (Some m) choice v = refl

-- an item that opens a transmission is HDR
pub opens_with_header : (v : TransmissionValue) (given : List Item) (item : Item) (rest : List Item) → IsTransmission v
    → value_items v ≡ (given ++ item ∷ []) ++ rest → (r : RecordValue) → item ≡ Opened r → r.kind ≡ kinds.Hdr
opens_with_header v given item rest whole e r is =
    let right = subst (AllByRecursion IsRight) e (right_items v whole) in
    let own = all_second given (item ∷ []) (all_first (given ++ item ∷ []) rest right) in
    let here : IsRight item = own.0 in
    subst IsRight is here

-- The items of the open part of a split: what the next transaction and what its end make of them.
use Rattle.std.proofs.Common.{◌≡◌, ◌+◌, ◌<◌, Bool, true, false, List, [], ◌∷◌, ◌++◌, length, map, Option, Some, None, refl, sym}
use Rattle.std.proofs.Common.{ap, ap₂, ◌∙◌, append_assoc, append-nil, arith}
use Rattle.std.specs.Prelude.{flat_map, if◌then◌else◌}
use Rattle.std.proofs.lemmas.Grind.{flat_map-append}
use Rattle.std.proofs.lemmas.List.{length-append, map-append}
use Rattle.std.proofs.lemmas.List.Sums.{sum_by-append}
use Rattle.cwr_lines.specs.Format.Records.{RecordValue}
use Rattle.cwr_values.specs.declared.items.Item.{Item}
use Rattle.cwr_values.specs.declared.items.Item.TheVariants.{Opened, GroupOpened, Transaction, Ended}
use Rattle.cwr_values.specs.Format.Values.{GroupValue}
use Rattle.cwr_judge.specs.Format.Items.{group_items, value_items}
use Rattle.cwr_parts.specs.declared.split_output.SplitOutput.{SplitOutput}
use Rattle.cwr_parts.specs.Steps.SplitOutputs.{blank_end, open_count, open_end, open_front}
use Rattle.cwr_parts.specs.Steps.SplitStages.{ArePartGroups, Between, Inside, open_items, part_group, total_in, value_of}
use Rattle.cwr_parts.specs.Steps.SplitStages.{with_group}
use Rattle.cwr_parts.specs.Steps.SplitItems.{is_in_group}
use Rattle.cwr_parts.specs.Steps.SplitSteps.{items_with, has_open_group}
use Rattle.cwr_parts.proofs.lemmas.OutputAdded.{head_first, head_once, opening_once}

-- HDR, the closed groups, and of the open one GRH and these transactions
abbrev pub begun : RecordValue → List GroupValue → RecordValue → List (List RecordValue) → List Item
begun o closed h cur = Opened o ∷ flat_map group_items closed ++ GroupOpened h ∷ map Transaction cur

pub items_begun : (o : RecordValue) (closed : List GroupValue) (h : RecordValue) (cur : List (List RecordValue)) → 0 < length cur
    → open_items (Inside o closed h cur) ≡ begun o closed h cur
items_begun o closed h [] some = absurd (omega (arith, some))
items_begun o closed h (t ∷ ts) some = refl

-- HDR and the closed groups
pub items_closed : (o : RecordValue) (closed : List GroupValue) → 0 < length closed
    → open_items (Between o closed) ≡ Opened o ∷ flat_map group_items closed
items_closed o [] some = absurd (omega (arith, some))
items_closed o (g ∷ gs) some = refl

pub begun_more : (o : RecordValue) (closed : List GroupValue) (h : RecordValue) (cur : List (List RecordValue))
    (t : List RecordValue) → begun o closed h (cur ++ t ∷ []) ≡ begun o closed h cur ++ Transaction t ∷ []
begun_more o closed h cur t =
    let front : List Item = flat_map group_items closed in
    ap (λ (l : List Item). Opened o ∷ front ++ GroupOpened h ∷ l) (map-append Transaction cur (t ∷ []))
    ∙ ap (λ (l : List Item). Opened o ∷ l) (sym (append_assoc front (GroupOpened h ∷ map Transaction cur) (Transaction t ∷ [])))

-- what closes the open group
pub items_ended : (o : RecordValue) (closed : List GroupValue) (h : RecordValue) (cur : List (List RecordValue))
    → Opened o ∷ flat_map group_items (closed ++ part_group h cur ∷ []) ≡ begun o closed h cur ++ blank_end ∷ []
items_ended o closed h cur =
    let front : List Item = flat_map group_items closed in
    let inside : List Item = GroupOpened h ∷ map Transaction cur in
    ap (λ (l : List Item). Opened o ∷ l) (
    flat_map-append group_items closed (part_group h cur ∷ [])
    ∙ ap (λ (l : List Item). front ++ l) (append-nil (group_items (part_group h cur)))
    ∙ sym (append_assoc front inside (blank_end ∷ [])))

-- with TRL they are the items of a part
pub items_of_part : (o : RecordValue) (closed : List GroupValue) (h : RecordValue) (cur : List (List RecordValue))
    → value_items (value_of o (closed ++ part_group h cur ∷ [])) ≡ (begun o closed h cur ++ blank_end ∷ []) ++ Ended ∷ []
items_of_part o closed h cur = ap (λ (l : List Item). l ++ Ended ∷ []) (items_ended o closed h cur)

-- ---- what is open

-- the closed groups of a part have transactions
pub some_in : (gs : List GroupValue) → ArePartGroups gs → 0 < length gs → 0 < total_in gs
some_in [] part some = absurd (omega (arith, some))
some_in (g ∷ gs) part some = omega (arith, part.0.0, sum_by-append (λ (g : GroupValue). length g.transactions) (g ∷ []) gs)

-- an output that is open has no more to be written before a transaction than GRH
front_written : {W : Type 0} (opening head : Item) (held : Option (SplitOutput W)) → 0 < open_count held
    → has_open_group held ≡ true → open_front opening head held ≡ []
front_written opening head None some e = absurd (omega (arith, some))
front_written opening head (Some out) some e =
    ap₂ (λ (x y : List Item). x ++ y) (opening_once opening out some) (head_once head out e)

front_head : {W : Type 0} (opening head : Item) (held : Option (SplitOutput W)) → 0 < open_count held
    → has_open_group held ≡ false → open_front opening head held ≡ head ∷ []
front_head opening head None some e = absurd (omega (arith, some))
front_head opening head (Some out) some e =
    ap₂ (λ (x y : List Item). x ++ y) (opening_once opening out some) (head_first head out e)

-- with what is written before the next transaction, the group has its head
pub with_front : {W : Type 0} (o : RecordValue) (closed : List GroupValue) (h : RecordValue) (cur : List (List RecordValue))
    (held : Option (SplitOutput W)) → ArePartGroups closed → open_count held ≡ total_in closed + length cur
    → has_open_group held ≡ is_in_group (Inside o closed h cur) → (total_in closed + length cur ≡ 0 → held ≡ None)
    → open_items (Inside o closed h cur) ++ open_front (Opened o) (GroupOpened h) held ≡ begun o closed h cur
with_front {W = W} o [] h [] held part count group none =
    ap (λ (x : Option (SplitOutput W)). open_front (Opened o) (GroupOpened h) x) (none refl)
with_front o (g ∷ gs) h [] held part count group none =
    let some : 0 < open_count held = omega (arith, count, some_in (g ∷ gs) part (omega arith)) in
    ap (λ (l : List Item). (Opened o ∷ flat_map group_items (g ∷ gs)) ++ l)
    (front_head (Opened o) (GroupOpened h) held some group)
with_front o closed h (t ∷ ts) held part count group none =
    let some : 0 < open_count held = omega (arith, count) in
    ap (λ (l : List Item). begun o closed h (t ∷ ts) ++ l) (front_written (Opened o) (GroupOpened h) held some group)
    ∙ append-nil (begun o closed h (t ∷ ts))

-- with the next transaction
pub with_transaction : {W : Type 0} (o : RecordValue) (closed : List GroupValue) (h : RecordValue) (cur : List (List RecordValue))
    (t : List RecordValue) (held : Option (SplitOutput W)) → ArePartGroups closed → open_count held ≡ total_in closed + length cur
    → has_open_group held ≡ is_in_group (Inside o closed h cur) → (total_in closed + length cur ≡ 0 → held ≡ None)
    → items_with (open_items (Inside o closed h cur)) (Opened o) (GroupOpened h) (Transaction t) held
    ≡ begun o closed h (cur ++ t ∷ [])
with_transaction o closed h cur t held part count group none =
    ap (λ (l : List Item). l ++ Transaction t ∷ []) (with_front o closed h cur held part count group none)
    ∙ sym (begun_more o closed h cur t)

-- what ends the open group, if one is open
end_not_open : {W : Type 0} (held : Option (SplitOutput W)) → has_open_group held ≡ false → open_end held ≡ []
end_not_open None e = refl
end_not_open (Some out) e = ap (λ (b : Bool). if b then blank_end ∷ [] else []) e

end_open : {W : Type 0} (held : Option (SplitOutput W)) → has_open_group held ≡ true → open_end held ≡ blank_end ∷ []
end_open None e = absurd (cc)
end_open (Some out) e = ap (λ (b : Bool). if b then blank_end ∷ [] else []) e

closed_after : (o : RecordValue) (closed : List GroupValue) (g : GroupValue)
    → open_items (Between o (closed ++ g ∷ [])) ≡ Opened o ∷ flat_map group_items (closed ++ g ∷ [])
closed_after o closed g = items_closed o (closed ++ g ∷ []) (omega (arith, length-append closed (g ∷ [])))

-- with it the items are those of the closed groups
pub with_end : {W : Type 0} (o : RecordValue) (closed : List GroupValue) (h : RecordValue) (cur : List (List RecordValue))
    (held : Option (SplitOutput W)) → has_open_group held ≡ is_in_group (Inside o closed h cur)
    → open_items (Inside o closed h cur) ++ open_end held ≡ open_items (Between o (with_group closed h cur))
with_end o [] h [] held group = end_not_open held group
with_end o (g ∷ gs) h [] held group =
    let items : List Item = Opened o ∷ flat_map group_items (g ∷ gs) in
    ap (λ (l : List Item). items ++ l) (end_not_open held group) ∙ append-nil items
with_end o closed h (t ∷ ts) held group =
    ap (λ (l : List Item). begun o closed h (t ∷ ts) ++ l) (end_open held group)
    ∙ sym (items_ended o closed h (t ∷ ts)) ∙ sym (closed_after o closed (part_group h (t ∷ ts)))

-- as many transactions
pub total_with : (closed : List GroupValue) (h : RecordValue) (cur : List (List RecordValue))
    → total_in (with_group closed h cur) ≡ total_in closed + length cur
total_with closed h [] = omega arith
total_with closed h (t ∷ ts) =
    omega (arith, sum_by-append (λ (g : GroupValue). length g.transactions) closed (part_group h (t ∷ ts) ∷ []))

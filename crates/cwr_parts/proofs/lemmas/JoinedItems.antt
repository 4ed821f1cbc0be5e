-- The items that are joined of whole inputs and of the next one begin those of the transmission to which they are joined.
use Rattle.std.proofs.Common.{◌≡◌, Bool, true, false, List, [], ◌∷◌, ◌++◌, map, refl, sym, ap, subst, ◌∙◌, append_assoc}
use Rattle.std.proofs.Common.{append-nil, arith}
use Rattle.std.specs.Prelude.{filter}
use Rattle.std.specs.List.{AllByRecursion, flat_map}
use Rattle.std.proofs.lemmas.Grind.{flat_map-append}
use Rattle.std.proofs.lemmas.List.{length-append}
use Rattle.std.proofs.lemmas.List.Elements.{filter-append}
use Rattle.cwr_lines.specs.Format.Records.{RecordValue}
use Rattle.cwr_values.specs.declared.items.Item.{Item}
use Rattle.cwr_values.specs.declared.items.Item.TheVariants.{Opened, GroupOpened, Transaction, GroupClosed, Ended}
use Rattle.cwr_values.specs.Format.Values.{GroupValue, TransmissionValue, IsGroup, IsTransmission}
use Rattle.cwr_judge.specs.Format.Items.{group_items, value_items}
use Rattle.cwr_parts.specs.Format.Splits.{join_of}
use Rattle.cwr_parts.specs.Format.Joins.{AreJoined, is_first, is_joined, joined_inputs, joined_items}

-- ---- the items of groups are all joined

keeps_transactions : (b : Bool) (ts : List (List RecordValue)) (more : List Item)
    → filter (is_joined b) (map Transaction ts ++ more) ≡ map Transaction ts ++ filter (is_joined b) more
keeps_transactions b [] more = refl
keeps_transactions b (t ∷ ts) more = ap (λ (l : List Item). Transaction t ∷ l) (keeps_transactions b ts more)

keeps_group : (b : Bool) (g : GroupValue) (more : List Item)
    → filter (is_joined b) (group_items g ++ more) ≡ group_items g ++ filter (is_joined b) more
keeps_group b g more =
    let ts : List Item = map Transaction g.transactions in
    let close : List Item = GroupClosed g.foot ∷ [] in
    ap (λ (l : List Item). GroupOpened g.head ∷ l)
    (ap (filter (is_joined b)) (append_assoc ts close more) ∙ keeps_transactions b g.transactions (GroupClosed g.foot ∷ more)
    ∙ sym (append_assoc ts close (filter (is_joined b) more)))

keeps_groups : (b : Bool) (gs : List GroupValue) (more : List Item)
    → filter (is_joined b) (flat_map group_items gs ++ more) ≡ flat_map group_items gs ++ filter (is_joined b) more
keeps_groups b [] more = refl
keeps_groups b (g ∷ gs) more =
    ap (filter (is_joined b)) (append_assoc (group_items g) (flat_map group_items gs) more)
    ∙ keeps_group b g (flat_map group_items gs ++ more)
    ∙ ap (λ (l : List Item). group_items g ++ l) (keeps_groups b gs more)
    ∙ sym (append_assoc (group_items g) (flat_map group_items gs) (filter (is_joined b) more))

groups_alone : (b : Bool) (gs : List GroupValue)
    → filter (is_joined b) (flat_map group_items gs ++ Ended ∷ []) ≡ flat_map group_items gs
groups_alone b gs = keeps_groups b gs (Ended ∷ []) ∙ append-nil (flat_map group_items gs)

-- ---- one input more

abbrev groups_of : TransmissionValue → List GroupValue
groups_of w = w.groups

-- all items of an input were handed out
pub next_joined : (inputs : List TransmissionValue) (w : TransmissionValue)
    → joined_inputs (inputs ++ w ∷ []) ≡ joined_items inputs (value_items w)
next_joined [] w =
    ap (λ (l : List Item). Opened w.opening ∷ l)
    (ap (flat_map group_items) (append-nil w.groups) ∙ sym (groups_alone true w.groups))
next_joined (v ∷ others) w =
    let gs : List GroupValue = flat_map groups_of (v ∷ others) in
    ap (λ (l : List Item). Opened v.opening ∷ l)
    (ap (flat_map group_items)
    (flat_map-append groups_of (v ∷ others) (w ∷ []) ∙ ap (λ (l : List GroupValue). gs ++ l) (append-nil w.groups))
    ∙ flat_map-append group_items gs w.groups
    ∙ ap (λ (l : List Item). flat_map group_items gs ++ l) (sym (groups_alone false w.groups)))

-- none of the next one were
pub none_joined : (inputs : List TransmissionValue) → joined_items inputs [] ≡ joined_inputs inputs
none_joined inputs = append-nil (joined_inputs inputs)

-- an item more was
pub item_joined : (inputs : List TransmissionValue) (given : List Item) (item : Item)
    → joined_items inputs (given ++ item ∷ []) ≡ joined_items inputs given ++ filter (is_joined (is_first inputs)) (item ∷ [])
item_joined inputs given item =
    let test : Item → Bool = is_joined (is_first inputs) in
    ap (λ (l : List Item). joined_inputs inputs ++ l) (filter-append test given (item ∷ []))
    ∙ sym (append_assoc (joined_inputs inputs) (filter test given) (filter test (item ∷ [])))

-- ---- the transmission

all_append : {X : Type 0} (P : X → Type 0) (xs ys : List X) → AllByRecursion P xs → AllByRecursion P ys
    → AllByRecursion P (xs ++ ys)
all_append {X = X} P [] ys h k = k
all_append {X = X} P (x ∷ xs) ys h k = (h.0, all_append P xs ys h.1 k)

all_groups : (vs : List TransmissionValue) → AllByRecursion IsTransmission vs → AllByRecursion IsGroup (flat_map groups_of vs)
all_groups [] h = tt
all_groups (v ∷ vs) h = all_append IsGroup v.groups (flat_map groups_of vs) h.0.each (all_groups vs h.1)

-- inputs are joined to a transmission
pub joined_whole : (inputs : List TransmissionValue) (joined : TransmissionValue) → AllByRecursion IsTransmission inputs
    → AreJoined inputs joined → IsTransmission joined
joined_whole [] joined h e = absurd e
joined_whole (v ∷ others) joined h e = subst IsTransmission (sym e) (record {
  opening = h.0.opening;
  some_group = omega (arith, h.0.some_group, length-append v.groups (flat_map groups_of others));
  each = all_groups (v ∷ others) h;
})

-- whose items are those of the inputs and the end
pub joined_all : (inputs : List TransmissionValue) (joined : TransmissionValue) → AreJoined inputs joined
    → value_items joined ≡ joined_inputs inputs ++ Ended ∷ []
joined_all [] joined e = absurd e
joined_all (v ∷ others) joined e = ap value_items e

-- some inputs are joined
some_joined : (inputs : List TransmissionValue) (w : TransmissionValue)
    → (joined : TransmissionValue) × AreJoined (inputs ++ w ∷ []) joined
some_joined [] w = (join_of w [], refl)
some_joined (v ∷ others) w = (join_of v (others ++ w ∷ []), refl)

-- items that begin those of a transmission
pub record AreBegun (begun : List Item) : Type 0 where
  pub value : TransmissionValue
  pub whole : IsTransmission value
  pub rest : List Item
  pub split : value_items value ≡ begun ++ rest

-- so do those that are joined, with which the items of the next input begin
pub joined_begin : (inputs : List TransmissionValue) (given : List Item) → AllByRecursion IsTransmission inputs → AreBegun given
    → AreBegun (joined_items inputs given)
joined_begin inputs given each b =
    let test : Item → Bool = is_joined (is_first inputs) in
    let before : List Item = joined_inputs inputs in
    let all : List TransmissionValue = inputs ++ b.value ∷ [] in
    let j = some_joined inputs b.value in
    let parts : joined_items inputs (value_items b.value) ≡ joined_items inputs given ++ filter test b.rest =
    ap (joined_items inputs) b.split ∙ ap (λ (l : List Item). before ++ l) (filter-append test given b.rest)
    ∙ sym (append_assoc before (filter test given) (filter test b.rest)) in
    record {
      value = j.0;
      whole = joined_whole all j.0 (all_append IsTransmission inputs (b.value ∷ []) each (b.whole, tt)) j.1;
      rest = filter test b.rest ++ Ended ∷ [];
      split =
          joined_all all j.0 j.1 ∙ ap (λ (l : List Item). l ++ Ended ∷ []) (next_joined inputs b.value ∙ parts)
          ∙ append_assoc (joined_items inputs given) (filter test b.rest) (Ended ∷ []);
    }

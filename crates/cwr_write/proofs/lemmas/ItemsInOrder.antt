-- Records give one list of items: so an item more continues some transmission where its records do.
use Rattle.std.proofs.Common.{◌≡◌, ℕ, ◌<◌, List, [], ◌∷◌, ◌++◌, map, refl, sym, ap, ap₂, subst, ◌∙◌, arith, append_assoc}
use Rattle.std.proofs.Common.{append-nil}
use Rattle.std.specs.List.{AllByRecursion, flat_map}
use Rattle.std.proofs.lemmas.List.{map-append}
use Rattle.std.proofs.lemmas.Grind.{flat_map-append}
use Rattle.std.proofs.lemmas.List.Folds.{flat_map-map}
use Rattle.cwr_fields.specs.declared.codes.TransactionType.{TransactionType}
use Rattle.cwr_fields.specs.declared.codes.TransactionType.TheVariants.{Agreement, NewWork, RevisedWork, Acknowledgement}
use Rattle.cwr_fields.specs.declared.kinds.Kind.{Kind}
use Rattle.cwr_fields.specs.declared.kinds.Kind.TheVariants as kinds
use Rattle.cwr_lines.specs.Format.Records.{RecordValue, IsRecord}
use Rattle.cwr_shape.specs.declared.symbols.Symbol.{Symbol}
use Rattle.cwr_shape.specs.declared.symbols.Symbol.TheVariants.{Plain, Grh}
use Rattle.cwr_shape.specs.Format.Numbers.{symbol_kind}
use Rattle.cwr_shape.specs.Format.NextSymbols.{type_after, open_type, counts_of}
use Rattle.cwr_shape.specs.Format.Ranges.{LimitValues}
use Rattle.cwr_shape.specs.Format.Outlines.{Continues, IsWithin}
use Rattle.cwr_shape.proofs.lemmas.HeadFirst.{part_class, head_first}
use Rattle.cwr_shape.proofs.lemmas.OneMore.{types_after, open_type_after}
use Rattle.cwr_shape.proofs.lemmas.TransactionNumbers.{types_after-append, walks_transaction}
use Rattle.cwr_values.specs.declared.items.Item.{Item}
use Rattle.cwr_values.specs.declared.items.Item.TheVariants.{Opened, GroupOpened, Transaction, GroupClosed, Ended}
use Rattle.cwr_values.specs.Format.Values.{GroupValue, TransmissionValue, IsGroup, IsTransaction, IsTransmission, FitsIn}
use Rattle.cwr_values.specs.Format.Values.{symbol_of, type_of}
use Rattle.cwr_values.specs.Format.Rows.{records_of, records_of_group, trailer}
use Rattle.cwr_values.proofs.lemmas.OneSpelling.{parts_of}
use Rattle.cwr_values.proofs.lemmas.Witnesses.{completed, witness, witness_fits}
use Rattle.cwr_judge.specs.Format.Items.{AreFirstItems, group_items, item_records, records_in, value_items}
use Rattle.cwr_judge.proofs.lemmas.NumberCells.{symbol_kind-of}
use Rattle.cwr_encode.proofs.lemmas.Adding.{plain_symbol}
use Rattle.cwr_encode.proofs.lemmas.Groups.{head_symbol}
use Rattle.cwr_write.specs.Format.AloneKinds.{IsAlone}
use Rattle.cwr_write.specs.Steps.Members.{IsKinded}

-- ---- items that stand in a group of a type

abbrev pub next_type : TransactionType → Item → TransactionType
next_type ty (GroupOpened r) = type_of r
next_type ty item = ty

-- the item has its kind, and a transaction is one of the type
abbrev pub IsOwnItem : TransactionType → Item → Type 0
IsOwnItem ty (Opened r) = r.kind ≡ kinds.Hdr
IsOwnItem ty (GroupOpened r) = r.kind ≡ kinds.Grh
IsOwnItem ty (Transaction t) = IsTransaction ty t
IsOwnItem ty (GroupClosed r) = r.kind ≡ kinds.Grt
IsOwnItem ty Ended = Unit {0}

abbrev pub AreOwn : TransactionType → List Item → Type 0
AreOwn ty [] = Unit {0}
AreOwn ty (i ∷ items) = IsOwnItem ty i × AreOwn (next_type ty i) items

abbrev pub last_type : TransactionType → List Item → TransactionType
last_type ty [] = ty
last_type ty (i ∷ items) = last_type (next_type ty i) items

own_transactions : (ty : TransactionType) (ts : List (List RecordValue)) (more : List Item) → AllByRecursion (IsTransaction ty) ts
    → AreOwn ty more → AreOwn ty (map Transaction ts ++ more)
own_transactions ty [] more h k = k
own_transactions ty (t ∷ ts) more h k = (h.0, own_transactions ty ts more h.1 k)

own_groups : (ty : TransactionType) (gs : List GroupValue) → AllByRecursion IsGroup gs
    → AreOwn ty (flat_map group_items gs ++ Ended ∷ [])
own_groups ty [] h = (tt, tt)
own_groups ty (g ∷ gs) h =
    let rest : AreOwn (type_of g.head) (flat_map group_items gs ++ Ended ∷ []) = own_groups (type_of g.head) gs h.1 in
    let inside =
    own_transactions (type_of g.head) g.transactions (GroupClosed g.foot ∷ (flat_map group_items gs ++ Ended ∷ [])) h.0.each
    (h.0.foot.0, rest) in
    subst (AreOwn ty) (sym (append_assoc (group_items g) (flat_map group_items gs) (Ended ∷ []))) (
      h.0.head.0,
      subst (AreOwn (type_of g.head))
          (sym (append_assoc (map Transaction g.transactions) (GroupClosed g.foot ∷ []) (flat_map group_items gs ++ Ended ∷ [])))
          inside,
    )

pub own_value : (v : TransmissionValue) → IsTransmission v → AreOwn Acknowledgement (value_items v)
own_value v h = (h.opening.0, own_groups Acknowledgement v.groups h.each)

pub own_parts : (ty : TransactionType) (xs ys : List Item) → AreOwn ty (xs ++ ys) → AreOwn ty xs × AreOwn (last_type ty xs) ys
own_parts ty [] ys h = (tt, h)
own_parts ty (x ∷ xs) ys h = let p = own_parts (next_type ty x) xs ys h.1 in ((h.0, p.0), p.1)

-- the items with which a transmission begins
pub own_first : (limits : LimitValues) (items : List Item) → AreFirstItems limits items → AreOwn Acknowledgement items
own_first limits items f =
    (own_parts Acknowledgement items f.rest (subst (AreOwn Acknowledgement) f.split (own_value f.value f.whole))).0

pub own_next : (limits : LimitValues) (items : List Item) (item : Item) → AreFirstItems limits (items ++ item ∷ [])
    → IsOwnItem (last_type Acknowledgement items) item
own_next limits items item f =
    let all = own_first limits (items ++ item ∷ []) f in
    (own_parts Acknowledgement items (item ∷ []) all).1.0

-- the type that their records name
after_one : (ty : TransactionType) (r : RecordValue) (s : Symbol) (rest : List RecordValue) → symbol_of r ≡ s
    → types_after ty (map symbol_of (r ∷ rest)) ≡ types_after (type_after ty s) (map symbol_of rest)
after_one ty r s rest e = ap (λ (t : Symbol). types_after (type_after ty t) (map symbol_of rest)) e

type_named : (ty : TransactionType) (items : List Item) → AreOwn ty items
    → types_after ty (map symbol_of (records_in items)) ≡ last_type ty items
type_named ty [] h = refl
type_named ty (Opened r ∷ items) h =
    after_one ty r _ (records_in items) (plain_symbol r kinds.Hdr h.0 refl) ∙ type_named ty items h.1
type_named ty (GroupOpened r ∷ items) h =
    after_one ty r _ (records_in items) (head_symbol r h.0) ∙ type_named (type_of r) items h.1
type_named ty (GroupClosed r ∷ items) h =
    after_one ty r _ (records_in items) (plain_symbol r kinds.Grt h.0 refl) ∙ type_named ty items h.1
type_named ty (Ended ∷ items) h = type_named ty items h.1
type_named ty (Transaction t ∷ items) h =
    let same : types_after ty (map symbol_of t) ≡ ty = (walks_transaction ty (counts_of []) (map symbol_of t) h.0.1).same_type in
    ap (types_after ty) (map-append symbol_of t (records_in items))
    ∙ types_after-append ty (map symbol_of t) (map symbol_of (records_in items))
    ∙ ap (λ (x : TransactionType). types_after x (map symbol_of (records_in items))) same ∙ type_named ty items h.1

pub type_is : (items : List Item) → AreOwn Acknowledgement items
    → open_type (map symbol_of (records_in items)) ≡ last_type Acknowledgement items
type_is items h = open_type_after (map symbol_of (records_in items)) ∙ type_named Acknowledgement items h

-- ---- the first record of an item

abbrev mark : Kind → ℕ
mark kinds.Hdr = 0
mark kinds.Grh = 1
mark kinds.Grt = 2
mark kinds.Trl = 3
mark kind = 4

abbrev item_mark : Item → ℕ
item_mark (Opened r) = 0
item_mark (GroupOpened r) = 1
item_mark (GroupClosed r) = 2
item_mark Ended = 3
item_mark (Transaction t) = 4

pub record Heads (item : Item) : Type 0 where
  pub head : RecordValue
  pub rest : List RecordValue
  pub whole : item_records item ≡ head ∷ rest
  pub marked : mark head.kind ≡ item_mark item

header_mark : (ty : TransactionType) (s : Symbol) → part_class ty s ≡ 1 → mark (symbol_kind s) ≡ 4
header_mark Agreement (Plain kinds.Agr) h = refl
header_mark NewWork (Plain kinds.Nwr) h = refl
header_mark RevisedWork (Plain kinds.Rev) h = refl
header_mark Acknowledgement (Plain kinds.Ack) h = refl
header_mark ty s h = absurd (omega (arith, h))

inner_mark : (kind : Kind) → ¬ IsAlone kind → mark kind ≡ 4
inner_mark kinds.Hdr h = absurd (h tt)
inner_mark kinds.Grh h = absurd (h tt)
inner_mark kinds.Grt h = absurd (h tt)
inner_mark kinds.Trl h = absurd (h tt)
inner_mark kind h = refl

pub own_heads : (ty : TransactionType) (item : Item) → IsOwnItem ty item → Heads item
own_heads ty (Opened r) h = record { head = r; rest = []; whole = refl; marked = ap mark h }
own_heads ty (GroupOpened r) h = record { head = r; rest = []; whole = refl; marked = ap mark h }
own_heads ty (GroupClosed r) h = record { head = r; rest = []; whole = refl; marked = ap mark h }
own_heads ty Ended h = record { head = trailer; rest = []; whole = refl; marked = refl }
own_heads ty (Transaction []) h = absurd (cc (head_first ty [] h.1).whole)
own_heads ty (Transaction (r ∷ t)) h =
    let f = head_first ty (symbol_of r ∷ map symbol_of t) h.1 in
    let first : symbol_of r ≡ f.head = cc f.whole in
    record {
      head = r;
      rest = t;
      whole = refl;
      marked = ap mark (sym (symbol_kind-of r)) ∙ header_mark ty (symbol_of r) (ap (part_class ty) first ∙ f.is_head);
    }

pub kinded_heads : (item : Item) → IsKinded item → Heads item
kinded_heads (Opened r) h = record { head = r; rest = []; whole = refl; marked = ap mark h }
kinded_heads (GroupOpened r) h = record { head = r; rest = []; whole = refl; marked = ap mark h }
kinded_heads (GroupClosed r) h = record { head = r; rest = []; whole = refl; marked = ap mark h }
kinded_heads Ended h = record { head = trailer; rest = []; whole = refl; marked = refl }
kinded_heads (Transaction t) h = record { head = h.0; rest = h.1; whole = h.2; marked = inner_mark h.0.kind h.3 }

same_heads : (i w : Item) (X Y : List RecordValue) (p : Heads i) (q : Heads w) → item_records w ++ Y ≡ item_records i ++ X
    → item_mark i ≡ item_mark w
same_heads i w X Y p q e =
    let whole : q.head ∷ (q.rest ++ Y) ≡ p.head ∷ (p.rest ++ X) =
    sym (ap (λ (l : List RecordValue). l ++ Y) q.whole) ∙ e ∙ ap (λ (l : List RecordValue). l ++ X) p.whole in
    let head : q.head ≡ p.head = cc whole in
    sym p.marked ∙ ap (λ (r : RecordValue). mark r.kind) (sym head) ∙ q.marked

-- items with the same records are the same
pub same_item : (i w : Item) → Heads i → Heads w → item_records i ≡ item_records w → i ≡ w
same_item i w p q e = by i w (same_heads i w [] [] p q (ap (λ (l : List RecordValue). l ++ []) (sym e))) e
  where
    by : (i w : Item) → item_mark i ≡ item_mark w → item_records i ≡ item_records w → i ≡ w
    by (Opened r) (Opened s) n e = cc e
    by (GroupOpened r) (GroupOpened s) n e = cc e
    by (Transaction t) (Transaction u) n e = ap Transaction e
    by (GroupClosed r) (GroupClosed s) n e = cc e
    by Ended Ended n e = refl
    by i w n e = absurd (omega (arith, n))

-- ---- what ends a transaction

-- nothing comes, or a record that continues no transaction of the type
abbrev pub Stops : TransactionType → List RecordValue → Type 0
Stops ty [] = Unit {0}
Stops ty (r ∷ rs) = part_class ty (symbol_of r) ≡ 2 → ⊥

not_two : (n : ℕ) → n < 2 → n ≡ 2 → ⊥
not_two n h e = omega arith

around : (ty : TransactionType) (s : Symbol) → part_class ty s ≡ 0 → part_class ty s ≡ 2 → ⊥
around ty s h e = omega (arith, h, e)

pub foot_class : (ty : TransactionType) → part_class ty (Plain kinds.Grt) ≡ 0
foot_class Agreement = refl
foot_class NewWork = refl
foot_class RevisedWork = refl
foot_class Acknowledgement = refl

pub own_front : (ty : TransactionType) (item : Item) (more : List RecordValue) → IsOwnItem ty item
    → Stops ty (item_records item ++ more)
own_front ty (Opened r) more h =
    λ e. around ty (Plain kinds.Hdr) (opening ty) (sym (ap (part_class ty) (plain_symbol r kinds.Hdr h refl)) ∙ e)
  where
    opening : (ty : TransactionType) → part_class ty (Plain kinds.Hdr) ≡ 0
    opening Agreement = refl
    opening NewWork = refl
    opening RevisedWork = refl
    opening Acknowledgement = refl
own_front ty (GroupOpened r) more h = λ e. around ty (Grh (type_of r)) (head ty) (sym (ap (part_class ty) (head_symbol r h)) ∙ e)
  where
    head : (ty : TransactionType) → part_class ty (Grh (type_of r)) ≡ 0
    head Agreement = refl
    head NewWork = refl
    head RevisedWork = refl
    head Acknowledgement = refl
own_front ty (GroupClosed r) more h =
    λ e. around ty (Plain kinds.Grt) (foot_class ty) (sym (ap (part_class ty) (plain_symbol r kinds.Grt h refl)) ∙ e)
own_front ty Ended more h = λ e. around ty (Plain kinds.Trl) (end ty) e
  where
    end : (ty : TransactionType) → part_class ty (Plain kinds.Trl) ≡ 0
    end Agreement = refl
    end NewWork = refl
    end RevisedWork = refl
    end Acknowledgement = refl
own_front ty (Transaction []) more h = absurd (cc (head_first ty [] h.1).whole)
own_front ty (Transaction (r ∷ t)) more h =
    let f = head_first ty (symbol_of r ∷ map symbol_of t) h.1 in
    let first : symbol_of r ≡ f.head = cc f.whole in
    let one : part_class ty (symbol_of r) ≡ 1 = ap (part_class ty) first ∙ f.is_head in
    λ e. omega (arith, one, e)

pub own_stops : (ty : TransactionType) (items : List Item) (more : List RecordValue) → AreOwn ty items
    → Stops (last_type ty items) more → Stops ty (records_in items ++ more)
own_stops ty [] more h s = s
own_stops ty (i ∷ items) more h s =
    subst (Stops ty) (sym (append_assoc (item_records i) (records_in items) more)) (own_front ty i (records_in items ++ more) h.0)

later_agree : (ty : TransactionType) (r s x y : List RecordValue) → AllByRecursion (λ e. part_class ty (symbol_of e) ≡ 2) r
    → AllByRecursion (λ e. part_class ty (symbol_of e) ≡ 2) s → Stops ty x → Stops ty y → r ++ x ≡ s ++ y → (r ≡ s) × (x ≡ y)
later_agree ty [] [] x y h k p q e = (refl, e)
later_agree ty [] (d ∷ s) x y h k p q e = let there : Stops ty (d ∷ (s ++ y)) = subst (Stops ty) e p in absurd (there k.0)
later_agree ty (d ∷ r) [] x y h k p q e = let there : Stops ty (d ∷ (r ++ x)) = subst (Stops ty) (sym e) q in absurd (there h.0)
later_agree ty (d ∷ r) (f ∷ s) x y h k p q e =
    let first : d ≡ f = cc e in
    let rest : r ++ x ≡ s ++ y = cc e in
    let more = later_agree ty r s x y h.1 k.1 p q rest in
    (ap₂ (λ (a : RecordValue) (l : List RecordValue). a ∷ l) first more.0, more.1)

transactions_agree : (ty : TransactionType) (t u X Y : List RecordValue) → IsTransaction ty t → IsTransaction ty u
    → u ++ Y ≡ t ++ X → Stops ty X → Stops ty Y → (u ≡ t) × (Y ≡ X)
transactions_agree ty t u X Y h k e p q =
    let a = (parts_of ty (t ∷ []) (h, tt)).0 in
    let b = (parts_of ty (u ∷ []) (k, tt)).0 in
    let whole : b.head ∷ (b.rest ++ Y) ≡ a.head ∷ (a.rest ++ X) =
    sym (ap (λ (l : List RecordValue). l ++ Y) b.whole) ∙ e ∙ ap (λ (l : List RecordValue). l ++ X) a.whole in
    let head : b.head ≡ a.head = cc whole in
    let rest : b.rest ++ Y ≡ a.rest ++ X = cc whole in
    let more = later_agree ty b.rest a.rest Y X b.later a.later q p rest in
    (b.whole ∙ ap₂ (λ (x : RecordValue) (l : List RecordValue). x ∷ l) head more.0 ∙ sym a.whole, more.1)

-- an item is given by its records, where what follows a transaction ends it
pub one_item : (ty : TransactionType) (i w : Item) (X Y : List RecordValue) → IsOwnItem ty i → IsOwnItem ty w
    → item_records w ++ Y ≡ item_records i ++ X → ((t : List RecordValue) → i ≡ Transaction t → Stops ty X × Stops ty Y)
    → (w ≡ i) × (Y ≡ X)
one_item ty i w X Y h k e st = by i w h k (same_heads i w X Y (own_heads ty i h) (own_heads ty w k) e) e st
  where
    by : (i w : Item) → IsOwnItem ty i → IsOwnItem ty w → item_mark i ≡ item_mark w → item_records w ++ Y ≡ item_records i ++ X
        → ((t : List RecordValue) → i ≡ Transaction t → Stops ty X × Stops ty Y) → (w ≡ i) × (Y ≡ X)
    by (Opened r) (Opened s) h k n e st = (cc e, cc e)
    by (GroupOpened r) (GroupOpened s) h k n e st = (cc e, cc e)
    by (Transaction t) (Transaction u) h k n e st =
        let stops = st t refl in
        let same = transactions_agree ty t u X Y h k e stops.0 stops.1 in
        (ap Transaction same.0, same.1)
    by (GroupClosed r) (GroupClosed s) h k n e st = (cc e, cc e)
    by Ended Ended h k n e st = (refl, cc e)
    by i w h k n e st = absurd (omega (arith, n))

-- ---- the items of records

some_records : (item : Item) (more : List RecordValue) → Heads item → [] ≡ item_records item ++ more → ⊥
some_records item more p e =
    let whole : [] ≡ p.head ∷ (p.rest ++ more) = e ∙ ap (λ (l : List RecordValue). l ++ more) p.whole in absurd (cc whole)

stops_after : (ty : TransactionType) (t : List RecordValue) (w : Item) (Y : List RecordValue)
    → item_mark (Transaction t) ≡ item_mark w → Stops (next_type ty w) Y → Stops ty Y
stops_after ty t (Opened r) Y n q = absurd (omega (arith, n))
stops_after ty t (GroupOpened r) Y n q = absurd (omega (arith, n))
stops_after ty t (GroupClosed r) Y n q = absurd (omega (arith, n))
stops_after ty t Ended Y n q = absurd (omega (arith, n))
stops_after ty t (Transaction u) Y n q = q

-- where records begin with those of some items, the items do
pub cut : (ty : TransactionType) (items ws : List Item) (more : List RecordValue) → AreOwn ty items → AreOwn ty ws
    → records_in ws ≡ records_in items ++ more → Stops (last_type ty items) more → (rest : List Item) × (ws ≡ items ++ rest)
cut ty [] ws more h k e s = (ws, refl)
cut ty (i ∷ items) [] more h k e s =
    absurd
    (some_records i (records_in items ++ more) (own_heads ty i h.0) (e ∙ append_assoc (item_records i) (records_in items) more))
cut ty (i ∷ items) (w ∷ ws) more h k e s =
    let on : Stops (next_type ty i) (records_in items ++ more) = own_stops (next_type ty i) items more h.1 s in
    let their : Stops (next_type ty w) (records_in ws) =
    subst (Stops (next_type ty w)) (append-nil (records_in ws))
    (own_stops (next_type ty w) ws [] k.1 (nothing (last_type (next_type ty w) ws))) in
    let split : item_records w ++ records_in ws ≡ item_records i ++ (records_in items ++ more) =
    e ∙ append_assoc (item_records i) (records_in items) more in
    let one = by i w (records_in items ++ more) (records_in ws) h.0 k.0 split on their in
    let own : AreOwn (next_type ty i) ws = subst (λ (x : Item). AreOwn (next_type ty x) ws) one.0 k.1 in
    let rest = cut (next_type ty i) items ws more h.1 own one.1 s in
    (rest.0, ap₂ (λ (x : Item) (l : List Item). x ∷ l) one.0 rest.1)
  where
    nothing : (t : TransactionType) → Stops t []
    nothing t = tt

    by : (i w : Item) (X Y : List RecordValue) → IsOwnItem ty i → IsOwnItem ty w → item_records w ++ Y ≡ item_records i ++ X
        → Stops (next_type ty i) X → Stops (next_type ty w) Y → (w ≡ i) × (Y ≡ X)
    by (Transaction t) w X Y h k e p q =
        one_item ty (Transaction t) w X Y h k e (λ u same. (
          p,
          stops_after ty t w Y (same_heads (Transaction t) w X Y (own_heads ty (Transaction t) h) (own_heads ty w k) e) q,
        ))
    by (Opened r) w X Y h k e p q = one_item ty (Opened r) w X Y h k e (λ u same. absurd (cc same))
    by (GroupOpened r) w X Y h k e p q = one_item ty (GroupOpened r) w X Y h k e (λ u same. absurd (cc same))
    by (GroupClosed r) w X Y h k e p q = one_item ty (GroupClosed r) w X Y h k e (λ u same. absurd (cc same))
    by Ended w X Y h k e p q = one_item ty Ended w X Y h k e (λ u same. absurd (cc same))

-- ---- the records of a transmission's items

records_of_items : (g : GroupValue) → records_in (group_items g) ≡ records_of_group g
records_of_items g =
    ap (λ (rs : List RecordValue). g.head ∷ rs)
    (flat_map-append item_records (map Transaction g.transactions) (GroupClosed g.foot ∷ [])
    ∙ ap (λ (rs : List RecordValue). rs ++ g.foot ∷ []) (flat_map-map item_records Transaction g.transactions))

records_of_groups : (gs : List GroupValue) → records_in (flat_map group_items gs) ≡ flat_map records_of_group gs
records_of_groups [] = refl
records_of_groups (g ∷ gs) =
    flat_map-append item_records (group_items g) (flat_map group_items gs)
    ∙ ap₂ (λ (xs ys : List RecordValue). xs ++ ys) (records_of_items g) (records_of_groups gs)

pub records_in_value : (v : TransmissionValue) → records_in (value_items v) ≡ records_of v
records_in_value v =
    ap (λ (rs : List RecordValue). v.opening ∷ rs)
    (flat_map-append item_records (flat_map group_items v.groups) (Ended ∷ [])
    ∙ ap (λ (rs : List RecordValue). rs ++ trailer ∷ []) (records_of_groups v.groups))

pub records_more : (items : List Item) (item : Item) → records_in (items ++ item ∷ []) ≡ records_in items ++ item_records item
records_more items item =
    flat_map-append item_records items (item ∷ [])
    ∙ ap (λ (l : List RecordValue). records_in items ++ l) (append-nil (item_records item))

same_tail : (xs ys zs : List RecordValue) → xs ++ ys ≡ xs ++ zs → ys ≡ zs
same_tail [] ys zs e = e
same_tail (x ∷ xs) ys zs e = same_tail xs ys zs (cc e)

-- A transmission whose records begin with those of the items and of one more begins with these items.
pub found : (limits : LimitValues) (items : List Item) (item : Item) (more : List RecordValue) (v : TransmissionValue)
    → AreOwn Acknowledgement items → IsOwnItem (last_type Acknowledgement items) item → IsTransmission v → FitsIn limits v
    → records_of v ≡ (records_in items ++ item_records item) ++ more
    → ((t : List RecordValue) → item ≡ Transaction t → Stops (last_type Acknowledgement items) more)
    → AreFirstItems limits (items ++ item ∷ [])
found limits items item more v own is whole within e st =
    let ty : TransactionType = last_type Acknowledgement items in
    let all : records_in (value_items v) ≡ records_in items ++ (item_records item ++ more) =
    records_in_value v ∙ e ∙ append_assoc (records_in items) (item_records item) more in
    let c =
    cut Acknowledgement items (value_items v) (item_records item ++ more) own (own_value v whole) all
    (own_front ty item more is) in
    let tail : records_in c.0 ≡ item_records item ++ more =
    same_tail (records_in items) (records_in c.0) (item_records item ++ more)
    (sym (flat_map-append item_records items c.0) ∙ sym (ap records_in c.1) ∙ all) in
    let theirs : AreOwn ty c.0 =
    (own_parts Acknowledgement items c.0 (subst (AreOwn Acknowledgement) c.1 (own_value v whole))).1 in
    let first = by c.0 theirs tail in
    record {
      value = v;
      whole = whole;
      within = within;
      rest = first.0;
      split = c.1 ∙ ap (λ (l : List Item). items ++ l) first.1 ∙ sym (append_assoc items (item ∷ []) first.0);
    }
  where
    nothing : (t : TransactionType) → Stops t []
    nothing t = tt

    after : (ty : TransactionType) (w : Item) (ws : List Item) (t : List RecordValue) → IsOwnItem ty w → IsOwnItem ty item
        → item ≡ Transaction t → item_records w ++ records_in ws ≡ item_records item ++ more → AreOwn (next_type ty w) ws
        → Stops ty (records_in ws)
    after ty (Opened r) ws t k is same e h =
        absurd (omega (
          arith,
          same_heads item (Opened r) more (records_in ws) (own_heads ty item is) (own_heads ty (Opened r) k) e,
          ap item_mark same,
        ))
    after ty (GroupOpened r) ws t k is same e h =
        absurd (omega (
          arith,
          same_heads item (GroupOpened r) more (records_in ws) (own_heads ty item is) (own_heads ty (GroupOpened r) k) e,
          ap item_mark same,
        ))
    after ty (GroupClosed r) ws t k is same e h =
        absurd (omega (
          arith,
          same_heads item (GroupClosed r) more (records_in ws) (own_heads ty item is) (own_heads ty (GroupClosed r) k) e,
          ap item_mark same,
        ))
    after ty Ended ws t k is same e h =
        absurd (omega
        (arith, same_heads item Ended more (records_in ws) (own_heads ty item is) (own_heads ty Ended k) e, ap item_mark same))
    after ty (Transaction u) ws t k is same e h =
        subst (Stops ty) (append-nil (records_in ws)) (own_stops ty ws [] h (nothing (last_type ty ws)))

    by : (ws : List Item) → AreOwn (last_type Acknowledgement items) ws → records_in ws ≡ item_records item ++ more
        → (rest : List Item) × (ws ≡ item ∷ rest)
    by [] h e = absurd (some_records item more (own_heads (last_type Acknowledgement items) item is) e)
    by (w ∷ ws) h e =
        let ty : TransactionType = last_type Acknowledgement items in
        let one = one_item ty item w more (records_in ws) is h.0 e (λ t same. (st t same, after ty w ws t h.0 is same e h.1)) in
        (ws, ap (λ (x : Item). x ∷ ws) one.0)

-- the records that some transmission within the limits begins with are those of one that begins with the items
pub begins_plain : (limits : LimitValues) (items : List Item) (item : Item) → AreOwn Acknowledgement items
    → IsOwnItem (last_type Acknowledgement items) item → ((t : List RecordValue) → item ≡ Transaction t → ⊥)
    → AllByRecursion IsRecord (records_in items ++ item_records item)
    → Continues (IsWithin limits) (map symbol_of (records_in items ++ item_records item))
    → AreFirstItems limits (items ++ item ∷ [])
begins_plain limits items item own is plain in_order g =
    let c = completed g.0 (records_in items ++ item_records item) g.3.0 g.1 in_order g.3.1 in
    found limits items item c.more c.value own is c.whole (subst (IsWithin limits) (sym c.outline) g.2) c.begins
    (λ t same. absurd (plain t same))

pub foot : RecordValue
foot = witness (Plain kinds.Grt)

foot_stops : (ty : TransactionType) (more : List RecordValue) → Stops ty (foot ∷ more)
unfolding foot
foot_stops ty more = λ e. around ty (Plain kinds.Grt) (foot_class ty) e

all_with : (rs : List RecordValue) → AllByRecursion IsRecord rs → AllByRecursion IsRecord (rs ++ foot ∷ [])
unfolding foot
all_with [] h = (witness_fits (Plain kinds.Grt), tt)
all_with (r ∷ rs) h = (h.0, all_with rs h.1)

symbols_with : (rs : List RecordValue) → map symbol_of (rs ++ foot ∷ []) ≡ map symbol_of rs ++ Plain kinds.Grt ∷ []
unfolding foot
symbols_with [] = refl
symbols_with (r ∷ rs) = ap (λ (l : List Symbol). symbol_of r ∷ l) (symbols_with rs)

pub begins_transaction : (limits : LimitValues) (items : List Item) (t : List RecordValue) → AreOwn Acknowledgement items
    → IsTransaction (last_type Acknowledgement items) t
    → AllByRecursion IsRecord (records_in items ++ t)
    → Continues (IsWithin limits) (map symbol_of (records_in items ++ t) ++ Plain kinds.Grt ∷ [])
    → AreFirstItems limits (items ++ Transaction t ∷ [])
begins_transaction limits items t own is in_order g =
    let rs : List RecordValue = records_in items ++ t in
    let c =
    completed g.0 (rs ++ foot ∷ []) g.3.0 g.1 (all_with rs in_order)
    (g.3.1 ∙ ap (λ (l : List Symbol). l ++ g.3.0) (sym (symbols_with rs))) in
    found limits items (Transaction t) (foot ∷ c.more) c.value own is c.whole (subst (IsWithin limits) (sym c.outline) g.2)
    (c.begins ∙ append_assoc rs (foot ∷ []) c.more)
    (λ u same. foot_stops (last_type Acknowledgement items) c.more)

-- no items begin each transmission
pub begins_none : (limits : LimitValues) → Continues (IsWithin limits) [] → AreFirstItems limits []
begins_none limits g =
    let c = completed g.0 [] g.3.0 g.1 tt g.3.1 in
    record {
      value = c.value;
      whole = c.whole;
      within = subst (IsWithin limits) (sym c.outline) g.2;
      rest = value_items c.value;
      split = refl;
    }

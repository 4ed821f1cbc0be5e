-- Each transaction among a transmission's items is of the type of its group, which the records before it name.
use Rattle.std.proofs.Common.{◌≡◌, List, [], ◌∷◌, ◌++◌, map, refl, sym, ap, subst, ◌∙◌, append_assoc}
use Rattle.std.proofs.lemmas.List.{map-append}
use Rattle.std.specs.List.{AllByRecursion, flat_map}
use Rattle.cwr_fields.specs.declared.codes.TransactionType.{TransactionType}
use Rattle.cwr_fields.specs.declared.codes.TransactionType.TheVariants.{Acknowledgement}
use Rattle.cwr_fields.specs.declared.kinds.Kind.TheVariants as kinds
use Rattle.cwr_lines.specs.Format.Records.{RecordValue}
use Rattle.cwr_shape.specs.declared.symbols.Symbol.{Symbol}
use Rattle.cwr_shape.specs.Format.NextSymbols.{type_after, open_type, counts_of}
use Rattle.cwr_shape.proofs.lemmas.OneMore.{types_after, open_type_after}
use Rattle.cwr_shape.proofs.lemmas.TransactionNumbers.{types_after-append, walks_transaction}
use Rattle.cwr_values.specs.declared.items.Item.{Item}
use Rattle.cwr_values.specs.declared.items.Item.TheVariants.{Opened, GroupOpened, Transaction, GroupClosed, Ended}
use Rattle.cwr_values.specs.Format.Values.{GroupValue, TransmissionValue, IsGroup, IsTransaction, IsTransmission, symbol_of}
use Rattle.cwr_values.specs.Format.Values.{type_of}
use Rattle.cwr_judge.specs.Format.Items.{group_items, records_in, value_items}
use Rattle.cwr_encode.proofs.lemmas.Adding.{plain_symbol}
use Rattle.cwr_encode.proofs.lemmas.Groups.{head_symbol}

-- items of which the first stands in a group of the type: each has its kind, and each transaction the type of its group
abbrev AreOwn : TransactionType → List Item → Type 0
AreOwn ty [] = Unit {0}
AreOwn ty (Opened r ∷ items) = (r.kind ≡ kinds.Hdr) × AreOwn ty items
AreOwn ty (GroupOpened r ∷ items) = (r.kind ≡ kinds.Grh) × AreOwn (type_of r) items
AreOwn ty (Transaction t ∷ items) = IsTransaction ty t × AreOwn ty items
AreOwn ty (GroupClosed r ∷ items) = (r.kind ≡ kinds.Grt) × AreOwn ty items
AreOwn ty (Ended ∷ items) = AreOwn ty items

-- ---- the items of a transmission

own_transactions : (ty : TransactionType) (ts : List (List RecordValue)) (more : List Item) → AllByRecursion (IsTransaction ty) ts
    → AreOwn ty more → AreOwn ty (map Transaction ts ++ more)
own_transactions ty [] more h k = k
own_transactions ty (t ∷ ts) more h k = (h.0, own_transactions ty ts more h.1 k)

own_groups : (ty : TransactionType) (gs : List GroupValue) → AllByRecursion IsGroup gs
    → AreOwn ty (flat_map group_items gs ++ Ended ∷ [])
own_groups ty [] h = tt
own_groups ty (g ∷ gs) h =
    let rest : AreOwn (type_of g.head) (flat_map group_items gs ++ Ended ∷ []) = own_groups (type_of g.head) gs h.1 in
    let inside =
    own_transactions (type_of g.head) g.transactions (GroupClosed g.foot ∷ (flat_map group_items gs ++ Ended ∷ [])) h.0.each
    (h.0.foot.0, rest) in
    subst (AreOwn ty) (sym (append_assoc (group_items g) (flat_map group_items gs) (Ended ∷ []))) (
      h.0.head.0,
      subst (AreOwn (type_of g.head))
          (sym (append_assoc (map Transaction g.transactions) (GroupClosed g.foot ∷ []) (flat_map group_items gs ++ Ended ∷ [])))
          inside,
    )

own_value : (v : TransmissionValue) → IsTransmission v → AreOwn Acknowledgement (value_items v)
own_value v h = (h.opening.0, own_groups Acknowledgement v.groups h.each)

-- ---- the type that records name

after_one : (ty : TransactionType) (r : RecordValue) (s : Symbol) (rest : List RecordValue) → symbol_of r ≡ s
    → types_after ty (map symbol_of (r ∷ rest)) ≡ types_after (type_after ty s) (map symbol_of rest)
after_one ty r s rest e = ap (λ (t : Symbol). types_after (type_after ty t) (map symbol_of rest)) e

own_at : (ty : TransactionType) (items : List Item) (u : List RecordValue) (rest : List Item)
    → AreOwn ty (items ++ Transaction u ∷ rest) → IsTransaction (types_after ty (map symbol_of (records_in items))) u
own_at ty [] u rest h = h.0
own_at ty (Opened r ∷ items) u rest h =
    subst (λ (t : TransactionType). IsTransaction t u)
    (sym (after_one ty r _ (records_in items) (plain_symbol r kinds.Hdr h.0 refl))) (own_at ty items u rest h.1)
own_at ty (GroupOpened r ∷ items) u rest h =
    subst (λ (t : TransactionType). IsTransaction t u) (sym (after_one ty r _ (records_in items) (head_symbol r h.0)))
    (own_at (type_of r) items u rest h.1)
own_at ty (GroupClosed r ∷ items) u rest h =
    subst (λ (t : TransactionType). IsTransaction t u)
    (sym (after_one ty r _ (records_in items) (plain_symbol r kinds.Grt h.0 refl))) (own_at ty items u rest h.1)
own_at ty (Ended ∷ items) u rest h = own_at ty items u rest h
own_at ty (Transaction t ∷ items) u rest h =
    let same : types_after ty (map symbol_of t) ≡ ty = (walks_transaction ty (counts_of []) (map symbol_of t) h.0.1).same_type in
    let on : types_after ty (map symbol_of (t ++ records_in items)) ≡ types_after ty (map symbol_of (records_in items)) =
    ap (types_after ty) (map-append symbol_of t (records_in items))
    ∙ types_after-append ty (map symbol_of t) (map symbol_of (records_in items))
    ∙ ap (λ (x : TransactionType). types_after x (map symbol_of (records_in items))) same in
    subst (λ (x : TransactionType). IsTransaction x u) (sym on) (own_at ty items u rest h.1)

-- a transaction after some items of a transmission is of the type that their records name
pub own_type : (v : TransmissionValue) (items : List Item) (u : List RecordValue) (rest : List Item) → IsTransmission v
    → value_items v ≡ (items ++ Transaction u ∷ []) ++ rest → IsTransaction (open_type (map symbol_of (records_in items))) u
own_type v items u rest h e =
    let own : AreOwn Acknowledgement (items ++ Transaction u ∷ rest) =
    subst (AreOwn Acknowledgement) (e ∙ append_assoc items (Transaction u ∷ []) rest) (own_value v h) in
    subst (λ (t : TransactionType). IsTransaction t u) (sym (open_type_after (map symbol_of (records_in items))))
    (own_at Acknowledgement items u rest own)

-- Values that no item of a transmission has for its data.
use Rattle.std.proofs.Common.{◌≡◌, ℕ, suc, ◌+◌, ◌<◌, ◌≤◌, Bool, cond, List, [], ◌∷◌, ◌++◌, length, map, take, drop, get_or, refl}
use Rattle.std.proofs.Common.{sym, ap, ap₂, subst, ◌∙◌, arith, append_assoc}
use Rattle.std.specs.Borrow.{Bor}
use Rattle.std.proofs.Math.Seq.{drop-cons}
use Rattle.std.proofs.lemmas.List.{drop_all, get_or_default, map-append, take-append-drop}
use Rattle.json.specs.Json.{Json, null, boolean, number, string, array, object, Members, no_members, member}
use Rattle.json.specs.declared.value.Value.{Value}
use Rattle.json.specs.Value.{items_of, items_view, members_view, value_view}
use Rattle.cwr_fields.specs.declared.codes.TransactionType.{TransactionType}
use Rattle.cwr_fields.specs.declared.codes.TransactionType.TheVariants.{Agreement, NewWork, RevisedWork, Acknowledgement}
use Rattle.cwr_fields.specs.declared.kinds.Kind.{Kind}
use Rattle.cwr_fields.specs.declared.kinds.Kind.TheVariants as kinds
use Rattle.cwr_lines.specs.Format.Records.{RecordValue}
use Rattle.cwr_shape.specs.declared.symbols.Symbol.{Symbol}
use Rattle.cwr_shape.specs.declared.symbols.Symbol.TheVariants.{Plain}
use Rattle.cwr_shape.specs.Format.NextSymbols.{header_kind}
use Rattle.cwr_shape.specs.Format.Numbers.{symbol_kind}
use Rattle.cwr_shape.specs.Format.Shapes.{BeginsShape, IsShape}
use Rattle.cwr_shape.proofs.lemmas.HeadFirst.{part_class, head_first}
use Rattle.cwr_values.specs.declared.items.Item.{Item}
use Rattle.cwr_values.specs.declared.items.Item.TheVariants.{Opened, GroupOpened, Transaction, GroupClosed, Ended}
use Rattle.cwr_values.specs.Format.Values.{symbol_of}
use Rattle.cwr_values.specs.Format.Begun.{IsBegun, BeginsWithOneMore}
use Rattle.cwr_values.specs.Format.Rows.{trailer}
use Rattle.cwr_judge.specs.Format.Items.{item_records}
use Rattle.cwr_judge.proofs.lemmas.NumberCells.{symbol_kind-of}
use Rattle.cwr_json.specs.declared.encodings.Encoding.{Encoding}
use Rattle.cwr_json.specs.Format.Forms.{AreListData, AreOnlyRecords, AreRecordsData, IsItemData, IsRecordData, records_key, told}
use Rattle.cwr_json.proofs.lemmas.OneItem.{one_record}
use Rattle.cwr_write.specs.Format.AloneKinds.{IsAlone}
use Rattle.cwr_write.specs.Steps.Members.{IsDataAt, IsOnlyAt, SaysAt}
use Rattle.cwr_write.specs.Format.Faults.{IsItem, NoItem}
use Rattle.cwr_write.proofs.lemmas.ToldMembers.{told_from, told_none}

-- ---- the members of a line

only_key : (enc : Encoding) (k : List ℕ) (j : Json) (ms : Members) (rs : List RecordValue) → AreOnlyRecords enc (member k j ms) rs
    → (k ≡ records_key) × (ms ≡ no_members)
only_key enc k j no_members rs h = (h.0, refl)
only_key enc k j (member l i ms) rs h = absurd h

pub said_here : {A : Type 0} (items : List (Bor (List ℕ) × Value A)) (at : ℕ) (m : Bor (List ℕ) × Value A) → at < length items
    → m ≡ get_or items at m → SaysAt items at
    → told (members_view (drop at items)) ≡ member m.0.now (value_view m.1) (told (members_view (drop (at + 1) items)))
said_here items at m h e s =
    told_from items at m h e ∙ ap (λ (x : Bool). cond x
    (member m.0.now (value_view m.1) (told (members_view (drop (at + 1) items))))
    (told (members_view (drop (at + 1) items)))) (s m e)

pub none_there : {A : Type 0} (enc : Encoding) (items : List (Bor (List ℕ) × Value A)) (at : ℕ)
    → told (members_view (drop 0 items)) ≡ told (members_view (drop at items)) → length items ≤ at → (rs : List RecordValue)
    → ¬ AreOnlyRecords enc (told (members_view items)) rs
none_there {A = A} enc items at before all rs h =
    subst (λ (ms : Members). AreOnlyRecords enc ms rs)
    (before ∙ ap (λ (l : List (Bor (List ℕ) × Value A)). told (members_view l)) (drop_all at items all) ∙ told_none) h

pub other_key : {A : Type 0} (enc : Encoding) (items : List (Bor (List ℕ) × Value A)) (at : ℕ) (m : Bor (List ℕ) × Value A)
    → at < length items → m ≡ get_or items at m → SaysAt items at
    → told (members_view (drop 0 items)) ≡ told (members_view (drop at items))
    → (m.0.now ≡ records_key → ⊥) → (rs : List RecordValue) → ¬ AreOnlyRecords enc (told (members_view items)) rs
other_key enc items at m h e s before other rs k =
    other (only_key enc m.0.now (value_view m.1) (told (members_view (drop (at + 1) items))) rs
    (subst (λ (ms : Members). AreOnlyRecords enc ms rs) (before ∙ said_here items at m h e s) k)).0

pub another_there : {A : Type 0} (enc : Encoding) (items : List (Bor (List ℕ) × Value A)) (at more : ℕ)
    (m n : Bor (List ℕ) × Value A) → at < length items → m ≡ get_or items at m → SaysAt items at → told
    (members_view (drop 0 items)) ≡ told (members_view (drop at items))
    → more < length items → n ≡ get_or items more n → SaysAt items more
    → told (members_view (drop (at + 1) items)) ≡ told (members_view (drop more items)) → (rs : List RecordValue)
    → ¬ AreOnlyRecords enc (told (members_view items)) rs
another_there enc items at more m n h e s before lt f t between rs k =
    let none =
    (only_key enc m.0.now (value_view m.1) (told (members_view (drop (at + 1) items))) rs
    (subst (λ (ms : Members). AreOnlyRecords enc ms rs) (before ∙ said_here items at m h e s) k)).1 in
    let both : member n.0.now (value_view n.1) (told (members_view (drop (more + 1) items))) ≡ no_members =
    sym (said_here items more n lt f t) ∙ sym between ∙ none in
    cc both

-- the data of an item that the one list of records is
pub list_data : {A : Type 0} (enc : Encoding) (items : List (Bor (List ℕ) × Value A)) (at : ℕ) (m : Bor (List ℕ) × Value A)
    (rs : List RecordValue) → IsOnlyAt items records_key at → m ≡ get_or items at m → IsItemData enc (object (members_view items))
    rs → AreListData enc (value_view m.1) rs
list_data {A = A} enc items at m rs only e h =
    let same : only.found ≡ m = only.is ∙ get_or_default items at only.found m only.within ∙ sym e in
    let there : AreOnlyRecords enc (member records_key (value_view only.found.1) no_members) rs =
    subst (λ (ms : Members). AreOnlyRecords enc ms rs) only.only h in
    subst (λ (x : Bor (List ℕ) × Value A). AreListData enc (value_view x.1) rs) same there.1

-- ---- the values of a list

one_of : (enc : Encoding) (j : Json) (r s : RecordValue) → IsRecordData enc j r → IsRecordData enc j s → r ≡ s
one_of enc null r s p q = absurd p
one_of enc (boolean b) r s p q = absurd p
one_of enc (number n) r s p q = absurd p
one_of enc (string t) r s p q = absurd p
one_of enc (array js) r s p q = absurd p
one_of enc (object ms) r s p q = one_record enc (told ms) r s p q

same_data : (enc : Encoding) (js : List Json) (rs others : List RecordValue) → AreRecordsData enc (items_of js) rs
    → AreRecordsData enc (items_of js) others → rs ≡ others
unfolding AreRecordsData
same_data enc [] [] [] p q = refl
same_data enc [] [] (s ∷ others) p q = absurd q
same_data enc [] (r ∷ rs) others p q = absurd p
same_data enc (j ∷ js) [] others p q = absurd p
same_data enc (j ∷ js) (r ∷ rs) [] p q = absurd q
same_data enc (j ∷ js) (r ∷ rs) (s ∷ others) p q =
    ap₂ (λ (x : RecordValue) (l : List RecordValue). x ∷ l) (one_of enc j r s p.0 q.0) (same_data enc js rs others p.1 q.1)

-- the data of values up to one, of that one, and of the others
record Apart (enc : Encoding) (js : List Json) (j : Json) (ks : List Json) (rs : List RecordValue) : Type 0 where
  front : List RecordValue
  here : RecordValue
  back : List RecordValue
  whole : rs ≡ front ++ here ∷ back
  before : AreRecordsData enc (items_of js) front
  is : IsRecordData enc j here

apart : (enc : Encoding) (js : List Json) (j : Json) (ks : List Json) (rs : List RecordValue)
    → AreRecordsData enc (items_of (js ++ j ∷ ks)) rs → Apart enc js j ks rs
unfolding AreRecordsData
apart enc [] j ks [] h = absurd h
apart enc [] j ks (r ∷ rs) h = record { front = []; here = r; back = rs; whole = refl; before = tt; is = h.0 }
apart enc (i ∷ js) j ks [] h = absurd h
apart enc (i ∷ js) j ks (r ∷ rs) h =
    let p = apart enc js j ks rs h.1 in
    record {
      front = r ∷ p.front;
      here = p.here;
      back = p.back;
      whole = ap (λ (l : List RecordValue). r ∷ l) p.whole;
      before = (h.0, p.before);
      is = p.is;
    }

-- value i of a list
apart_at : {A : Type 0} (enc : Encoding) (values : List (Value A)) (i : ℕ) (m : Value A) (rs : List RecordValue)
    → i < length values → m ≡ get_or values i m → AreRecordsData enc (items_view values) rs
    → Apart enc (map value_view (take i values)) (value_view m) (map value_view (drop (i + 1) values)) rs
apart_at {A = A} enc values i m rs h e d =
    let tail : drop i values ≡ m ∷ drop (i + 1) values =
    drop-cons values i m h ∙ ap (λ (x : Value A). x ∷ drop (suc i) values) (sym e)
    ∙ ap (λ (n : ℕ). m ∷ drop n values) (suc_is i) in
    let whole : map value_view values ≡ map value_view (take i values) ++ value_view m ∷ map value_view (drop (i + 1) values)
    = ap (λ (l : List (Value A)). map value_view l)
    (sym (take-append-drop i values) ∙ ap (λ (l : List (Value A)). take i values ++ l) tail) ∙ map-append value_view
    (take i values) (m ∷ drop (i + 1) values) in
    apart enc (map value_view (take i values)) (value_view m) (map value_view (drop (i + 1) values)) rs
    (subst (λ (js : List Json). AreRecordsData enc (items_of js) rs) whole d)
  where
    suc_is : (n : ℕ) → suc n ≡ n + 1
    suc_is n = omega arith

-- ---- items of transmissions

begins_front : (xs ys : List Symbol) → BeginsShape (xs ++ ys) → BeginsShape xs
begins_front xs ys b = (b.0, ys ++ b.1, subst (IsShape b.0) (append_assoc xs ys b.1) b.2)

alone_class : (ty : TransactionType) (kind : Kind) (s : Symbol) → IsAlone kind → symbol_kind s ≡ kind → part_class ty s ≡ 1 → ⊥
alone_class ty kind s alone e h = by kind alone (sym e ∙ kind_of_header ty s h)
  where
    kind_of_header : (ty : TransactionType) (s : Symbol) → part_class ty s ≡ 1 → symbol_kind s ≡ header_kind ty
    kind_of_header Agreement (Plain kinds.Agr) h = refl
    kind_of_header NewWork (Plain kinds.Nwr) h = refl
    kind_of_header RevisedWork (Plain kinds.Rev) h = refl
    kind_of_header Acknowledgement (Plain kinds.Ack) h = refl
    kind_of_header ty s h = absurd (omega (arith, h))

    header : (ty : TransactionType) → IsAlone (header_kind ty) → ⊥
    header Agreement a = a
    header NewWork a = a
    header RevisedWork a = a
    header Acknowledgement a = a

    by : (kind : Kind) → IsAlone kind → kind ≡ header_kind ty → ⊥
    by kind a same = header ty (subst IsAlone same a)

-- an item that begins with a record of that kind is a transaction
inside : (i : Item) (r : RecordValue) (rest : List RecordValue) → IsItem i → item_records i ≡ r ∷ rest → ¬ IsAlone r.kind
    → IsBegun (item_records i)
inside (Opened s) r rest is e out =
    let same : s ≡ r = cc e in absurd (out (subst IsAlone (sym is ∙ ap (λ (x : RecordValue). x.kind) same) tt))
inside (GroupOpened s) r rest is e out =
    let same : s ≡ r = cc e in absurd (out (subst IsAlone (sym is ∙ ap (λ (x : RecordValue). x.kind) same) tt))
inside (GroupClosed s) r rest is e out =
    let same : s ≡ r = cc e in absurd (out (subst IsAlone (sym is ∙ ap (λ (x : RecordValue). x.kind) same) tt))
inside Ended r rest is e out =
    let same : trailer ≡ r = cc e in absurd (out (subst IsAlone (ap (λ (x : RecordValue). x.kind) same) tt))
inside (Transaction t) r rest is e out = is.0

-- and one that begins with a record of another kind is that record alone
outside : (i : Item) (r : RecordValue) (rest : List RecordValue) → IsItem i → item_records i ≡ r ∷ rest → IsAlone r.kind
    → rest ≡ []
outside (Opened s) r rest is e alone = cc e
outside (GroupOpened s) r rest is e alone = cc e
outside (GroupClosed s) r rest is e alone = cc e
outside Ended r rest is e alone = cc e
outside (Transaction t) r rest is e alone =
    let b = is.0.begins in
    let shape : IsShape b.0 (symbol_of r ∷ (map symbol_of rest ++ b.1)) =
    subst (λ (l : List RecordValue). IsShape b.0 (map symbol_of l ++ b.1)) e b.2 in
    let f = head_first b.0 (symbol_of r ∷ (map symbol_of rest ++ b.1)) shape in
    let first : symbol_of r ≡ f.head = cc f.whole in
    absurd (alone_class b.0 r.kind (symbol_of r) alone (symbol_kind-of r) (ap (part_class b.0) first ∙ f.is_head))

no_records : (i : Item) → IsItem i → item_records i ≡ [] → ⊥
no_records (Opened r) is e = cc e
no_records (GroupOpened r) is e = cc e
no_records (GroupClosed r) is e = cc e
no_records Ended is e = cc e
no_records (Transaction t) is e = omega (arith, is.1, ap length e)

-- ---- where no item is made

-- of no values
pub none_empty : {A : Type 0} (enc : Encoding) (values : List (Value A)) → length values ≡ 0
    → NoItem (AreRecordsData enc (items_view values))
unfolding AreRecordsData
none_empty enc [] e i is h = no_records i is (by (item_records i) h)
  where
    by : (rs : List RecordValue) → AreRecordsData enc (items_of []) rs → rs ≡ []
    by [] k = refl
    by (r ∷ rs) k = absurd k
none_empty enc (v ∷ values) e i is h = omega (arith, e)

-- a value is data of no record
pub none_at : {A : Type 0} (enc : Encoding) (values : List (Value A)) (n : ℕ) (m : Value A) → n < length values
    → m ≡ get_or values n m → ((r : RecordValue) → ¬ IsRecordData enc (value_view m) r)
    → NoItem (AreRecordsData enc (items_view values))
none_at enc values n m h e none i is d = let p = apart_at enc values n m (item_records i) h e d in none p.here p.is

-- the first record
front_none : (enc : Encoding) (front : List RecordValue) → AreRecordsData enc (items_of []) front → front ≡ []
unfolding AreRecordsData
front_none enc [] h = refl
front_none enc (r ∷ front) h = absurd h

pub first_record : {A : Type 0} (enc : Encoding) (values : List (Value A)) (first : RecordValue) (rs : List RecordValue)
    → IsDataAt enc values 0 first → AreRecordsData enc (items_view values) rs → (rest : List RecordValue) × (rs ≡ first ∷ rest)
first_record enc values first rs at d =
    let p = apart_at enc values 0 at.found rs at.within at.is d in (
      p.back,
      p.whole ∙ ap (λ (l : List RecordValue). l ++ p.here ∷ p.back) (front_none enc p.front p.before)
          ∙ ap (λ (r : RecordValue). r ∷ p.back) (one_of enc (value_view at.found) p.here first p.is at.is_data),
    )

-- no transaction begins with it
pub none_begins : {A : Type 0} (enc : Encoding) (values : List (Value A)) (first : RecordValue) → IsDataAt enc values 0 first
    → ¬ IsAlone first.kind → ¬ BeginsShape (symbol_of first ∷ []) → NoItem (AreRecordsData enc (items_view values))
none_begins enc values first at out none i is d =
    let p = first_record enc values first (item_records i) at d in
    let begun = inside i first p.0 is p.1 out in
    none (begins_front (symbol_of first ∷ []) (map symbol_of p.0)
    (subst (λ (l : List RecordValue). BeginsShape (map symbol_of l)) p.1 begun.begins))

-- none continues with a later one
pub none_continues : {A : Type 0} (enc : Encoding) (values : List (Value A)) (first : RecordValue) (t : List RecordValue)
    (r : RecordValue) (n : ℕ) (m : Value A) → IsDataAt enc values 0 first → ¬ IsAlone first.kind → n < length values → m ≡ get_or
    values n m
    → AreRecordsData enc (items_view (take n values)) t → IsRecordData enc (value_view m) r → ¬ BeginsWithOneMore t r
    → NoItem (AreRecordsData enc (items_view values))
none_continues {A = A} enc values first t r n m at out h e so_far here none i is d =
    let q = first_record enc values first (item_records i) at d in
    let begun = inside i first q.0 is q.1 out in
    let p = apart_at enc values n m (item_records i) h e d in
    let front : p.front ≡ t = same_data enc (map value_view (take n values)) p.front t p.before so_far in
    let next : p.here ≡ r = one_of enc (value_view m) p.here r p.is here in
    let whole : item_records i ≡ t ++ r ∷ p.back =
    p.whole ∙ ap₂ (λ (l : List RecordValue) (x : RecordValue). l ++ x ∷ p.back) front next in
    let symbols : map symbol_of (item_records i) ≡ (map symbol_of t ++ symbol_of r ∷ []) ++ map symbol_of p.back
    = ap (map symbol_of) whole ∙ map-append symbol_of t (r ∷ p.back)
    ∙ sym (append_assoc (map symbol_of t) (symbol_of r ∷ []) (map symbol_of p.back)) in
    none (begins_front (map symbol_of t ++ symbol_of r ∷ []) (map symbol_of p.back) (subst BeginsShape symbols begun.begins))

one_only : {A : Type 0} (enc : Encoding) (values : List (Value A)) (first : RecordValue)
    → AreRecordsData enc (items_view values) (first ∷ []) → 1 < length values → ⊥
unfolding AreRecordsData
one_only enc [] first d h = d
one_only enc (v ∷ []) first d h = omega (arith, h)
one_only enc (v ∷ w ∷ values) first d h = d.1

-- a record that is an item alone has others after it
pub none_alone : {A : Type 0} (enc : Encoding) (values : List (Value A)) (first : RecordValue) → IsDataAt enc values 0 first
    → IsAlone first.kind → 1 < length values → NoItem (AreRecordsData enc (items_view values))
none_alone {A = A} enc values first at alone more i is d =
    let p = first_record enc values first (item_records i) at d in
    let none : p.0 ≡ [] = outside i first p.0 is p.1 alone in
    one_only enc values first (subst (λ (l : List RecordValue). AreRecordsData enc (items_view values) l)
    (p.1 ∙ ap (λ (l : List RecordValue). first ∷ l) none) d) more

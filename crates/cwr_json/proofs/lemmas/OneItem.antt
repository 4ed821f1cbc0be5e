-- Data is that of one record, and of one item, at most; and what is shown of an item is data of it.
use Rattle.std.proofs.Common.{◌≡◌, ℕ, List, [], ◌∷◌, Option, Some, None, refl, sym, ap, ap₂, subst, ◌∙◌}
use Rattle.std.specs.List.{AllZip, AllByRecursion}
use Rattle.json.specs.Json.{Json, null, boolean, number, string, array, object, Items, no_items, item, Members, no_members}
use Rattle.json.specs.Json.{member}
use Rattle.cwr_fields.specs.Format.Bytes.{filled}
use Rattle.cwr_fields.specs.declared.kinds.Kind.{Kind}
use Rattle.cwr_fields.specs.Format.Kinds.{letters}
use Rattle.cwr_fields.specs.Format.Layouts.{FieldLayout}
use Rattle.cwr_lines.specs.Format.Records.{RecordValue, IsRecord, carried_fields}
use Rattle.cwr_fields.proofs.lemmas.AllKinds.{letters-injective}
use Rattle.cwr_values.specs.declared.items.Item.{Item}
use Rattle.cwr_values.specs.declared.items.Item.TheVariants.{Opened, GroupOpened, Transaction, GroupClosed, Ended}
use Rattle.cwr_judge.specs.Format.Items.{item_records}
use Rattle.cwr_json.specs.declared.notes.Notes.{Notes}
use Rattle.cwr_json.specs.declared.encodings.Encoding.{Encoding}
use Rattle.cwr_json.specs.Format.Forms.{key_of, records_key, records_items, with_notes, told, first_of, IsCellFrom, IsDataOf}
use Rattle.cwr_json.specs.Format.Forms.{IsRecordData, AreRecordsData, AreListData, AreOnlyRecords}
use Rattle.cwr_json.specs.Format.Laws.{OwnData, OneData}
use Rattle.cwr_json.proofs.lemmas.Encoded.{one_text}
use Rattle.cwr_json.proofs.lemmas.OwnData.{own_data}

-- ---- cells

one_cell : (enc : Encoding) (f : FieldLayout) (o : Option Json) (c d : List ℕ) → IsCellFrom enc f o c → IsCellFrom enc f o d
    → c ≡ d
one_cell enc f None c d p q = p ∙ sym q
one_cell enc f (Some null) c d p q = absurd p
one_cell enc f (Some (boolean b)) c d p q = absurd p
one_cell enc f (Some (number s)) c d p q = absurd p
one_cell enc f (Some (string s)) c d p q = p.3 ∙ ap (filled f.width) (one_text enc s p.0 q.0 p.1 q.1) ∙ sym q.3
one_cell enc f (Some (array js)) c d p q = absurd p
one_cell enc f (Some (object ms)) c d p q = absurd p

abbrev AreFrom : Encoding → Members → List FieldLayout → List (List ℕ) → Type 0
AreFrom enc ms fields cells = AllZip (λ f cell. IsCellFrom enc f (first_of (key_of f.name) ms) cell) fields cells

pub one_cells : (enc : Encoding) (ms : Members) (fields : List FieldLayout) (cs ds : List (List ℕ)) → AreFrom enc ms fields cs
    → AreFrom enc ms fields ds → cs ≡ ds
one_cells enc ms [] [] [] p q = refl
one_cells enc ms [] [] (d ∷ ds) p q = absurd q
one_cells enc ms [] (c ∷ cs) ds p q = absurd p
one_cells enc ms (f ∷ fields) [] ds p q = absurd p
one_cells enc ms (f ∷ fields) (c ∷ cs) [] p q = absurd q
one_cells enc ms (f ∷ fields) (c ∷ cs) (d ∷ ds) p q =
    ap₂ (λ (x : List ℕ) (l : List (List ℕ)). x ∷ l) (one_cell enc f (first_of (key_of f.name) ms) c d p.0 q.0)
    (one_cells enc ms fields cs ds p.1 q.1)

-- ---- records

pub one_record : (enc : Encoding) (ms : Members) (r s : RecordValue) → IsDataOf enc ms r → IsDataOf enc ms s → r ≡ s
one_record enc ms r s p q =
    let named : Some (string (letters r.kind)) ≡ Some (string (letters s.kind)) = sym p.kind ∙ q.kind in
    let same : letters r.kind ≡ letters s.kind = cc named in
    let kinds : r.kind ≡ s.kind = letters-injective r.kind s.kind same in
    let theirs : AreFrom enc ms (carried_fields r.kind) s.cells =
    subst (λ (kind : Kind). AreFrom enc ms (carried_fields kind) s.cells) (sym kinds) q.cells in
    let whole : Kind → List (List ℕ) → RecordValue = λ kind cells. record { kind = kind; cells = cells } in
    ap₂ whole kinds (one_cells enc ms (carried_fields r.kind) r.cells s.cells p.cells theirs)

one_of : (enc : Encoding) (j : Json) (r s : RecordValue) → IsRecordData enc j r → IsRecordData enc j s → r ≡ s
one_of enc null r s p q = absurd p
one_of enc (boolean b) r s p q = absurd p
one_of enc (number n) r s p q = absurd p
one_of enc (string t) r s p q = absurd p
one_of enc (array js) r s p q = absurd p
one_of enc (object ms) r s p q = one_record enc (told ms) r s p q

one_list : (enc : Encoding) (js : Items) (rs others : List RecordValue) → AreRecordsData enc js rs → AreRecordsData enc js others
    → rs ≡ others
unfolding AreRecordsData
one_list enc no_items [] [] p q = refl
one_list enc no_items [] (s ∷ others) p q = absurd q
one_list enc no_items (r ∷ rs) others p q = absurd p
one_list enc (item j js) [] others p q = absurd p
one_list enc (item j js) (r ∷ rs) [] p q = absurd q
one_list enc (item j js) (r ∷ rs) (s ∷ others) p q =
    ap₂ (λ (x : RecordValue) (l : List RecordValue). x ∷ l) (one_of enc j r s p.0 q.0) (one_list enc js rs others p.1 q.1)

one_in : (enc : Encoding) (j : Json) (rs others : List RecordValue) → AreListData enc j rs → AreListData enc j others
    → rs ≡ others
one_in enc null rs others p q = absurd p
one_in enc (boolean b) rs others p q = absurd p
one_in enc (number n) rs others p q = absurd p
one_in enc (string t) rs others p q = absurd p
one_in enc (array js) rs others p q = one_list enc js rs others p q
one_in enc (object ms) rs others p q = absurd p

one_only : (enc : Encoding) (ms : Members) (rs others : List RecordValue) → AreOnlyRecords enc ms rs
    → AreOnlyRecords enc ms others → rs ≡ others
one_only enc no_members rs others p q = absurd p
one_only enc (member k j no_members) rs others p q = one_in enc j rs others p.1 q.1
one_only enc (member k j (member l i ms)) rs others p q = absurd p

pub one_data : OneData
one_data enc null rs others p q = absurd p
one_data enc (boolean b) rs others p q = absurd p
one_data enc (number n) rs others p q = absurd p
one_data enc (string t) rs others p q = absurd p
one_data enc (array js) rs others p q = absurd p
one_data enc (object ms) rs others p q = one_only enc (told ms) rs others p q

-- ---- what is shown of an item

own_records : (enc : Encoding) (rs : List RecordValue) → AllByRecursion IsRecord rs → AreRecordsData enc (records_items enc rs) rs
unfolding AreRecordsData records_items
own_records enc [] h = tt
own_records enc (r ∷ rs) h = (own_data enc r h.0, own_records enc rs h.1)

told_notes : (notes : Option Notes) (i : Item) (more : Members) → told (with_notes notes i more) ≡ told more
unfolding told
told_notes None i more = refl
told_notes (Some n) (Opened r) more = refl
told_notes (Some n) (GroupOpened r) more = refl
told_notes (Some n) (Transaction t) more = refl
told_notes (Some n) (GroupClosed r) more = refl
told_notes (Some n) Ended more = refl

told_records : (j : Items) → told (member records_key (array j) no_members) ≡ member records_key (array j) no_members
unfolding told
told_records j = refl

pub own_item : OwnData
own_item enc notes i h =
    let js : Items = records_items enc (item_records i) in
    subst (λ (ms : Members). AreOnlyRecords enc ms (item_records i))
    (sym (told_notes notes i (member records_key (array js) no_members) ∙ told_records js))
    (refl, own_records enc (item_records i) h)

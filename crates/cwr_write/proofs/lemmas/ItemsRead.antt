-- The records of a line, member by member and value by value.
use Rattle.std.proofs.Common.{◌≡◌, ℕ, ◌+◌, ◌<◌, ◌≤◌, Bool, true, false, cond, true≢false, List, [], ◌∷◌, ◌++◌, length, map, take}
use Rattle.std.proofs.Common.{drop, get_or, refl, sym, ap, subst, ◌∙◌}
use Rattle.std.specs.Prelude.{not}
use Rattle.std.specs.Borrow.{Bor}
use Rattle.std.specs.Str.{bytes_eq}
use Rattle.std.proofs.lemmas.List.{drop_all, get_or_default, map-append, take_all, take_more}
use Rattle.json.specs.Json.{Json, null, boolean, number, string, array, object, Members, no_members, member}
use Rattle.json.specs.declared.value.Value.{Value}
use Rattle.json.specs.Value.{items_of, items_view, members_view, value_view}
use Rattle.cwr_fields.specs.declared.kinds.Kind.{Kind}
use Rattle.cwr_fields.specs.declared.kinds.Kind.TheVariants.{Hdr, Grh, Grt, Trl}
use Rattle.cwr_lines.specs.Format.Records.{RecordValue, IsRecord}
use Rattle.cwr_values.specs.Format.Rows.{trailer}
use Rattle.cwr_values.proofs.lemmas.OneTransmissionOfRecords.{is_trailer}
use Rattle.cwr_json.specs.declared.encodings.Encoding.{Encoding}
use Rattle.cwr_json.specs.Format.Forms.{AreRecordsData, IsRecordData, says, told}
use Rattle.cwr_json.proofs.lemmas.OwnData.{bytes_same, same_bytes}
use Rattle.cwr_write.specs.Format.AloneKinds.{IsAlone}
use Rattle.cwr_write.specs.Steps.Members.{IsDataAt, IsOnlyAt, SaysAt}
use Rattle.cwr_write.proofs.lemmas.ToldMembers.{told_from, told_none}

-- ---- members

-- a member that says nothing is passed
pub none_said : {A : Type 0} (items : List (Bor (List ℕ) × Value A)) (i : ℕ) (m : Bor (List ℕ) × Value A) (b : _)
    → i < length items → m ≡ get_or items i m → says m.0.now (value_view m.1) ≡ b → b ≡ false
    → told (members_view (drop i items)) ≡ told (members_view (drop (i + 1) items))
none_said items i m b h e s silent =
    told_from items i m h e ∙ ap (λ (x : _). cond x (member m.0.now (value_view m.1) (told (members_view (drop (i + 1) items))))
    (told (members_view (drop (i + 1) items)))) (s ∙ silent)

-- one member that is there is every one that is there
pub said_at : {A : Type 0} (items : List (Bor (List ℕ) × Value A)) (i : ℕ) (m : Bor (List ℕ) × Value A) → i < length items
    → m ≡ get_or items i m → says m.0.now (value_view m.1) ≡ true → SaysAt items i
said_at {A = A} items i m h e s =
    λ other at. subst (λ (x : Bor (List ℕ) × Value A). says x.0.now (value_view x.1) ≡ true)
    (e ∙ get_or_default items i m other h ∙ sym at) s

-- the member that alone says something
pub only_is : {A : Type 0} (items : List (Bor (List ℕ) × Value A)) (key : List ℕ) (at more : ℕ) (m : Bor (List ℕ) × Value A)
    → at < length items → m ≡ get_or items at m → m.0.now ≡ key → SaysAt items at
    → told (members_view (drop 0 items)) ≡ told (members_view (drop at items))
    → told (members_view (drop (at + 1) items)) ≡ told (members_view (drop more items)) → length items ≤ more
    → IsOnlyAt items key at
only_is {A = A} items key at more m h e key_is s before after all = record {
  found = m;
  within = h;
  is = e;
  only = before ∙ told_from items at m h e
      ∙ ap (λ (x : _). cond x (member m.0.now (value_view m.1) (told (members_view (drop (at + 1) items))))
      (told (members_view (drop (at + 1) items)))) (s m e)
      ∙ ap (λ (ms : Members). member m.0.now (value_view m.1) ms)
      (after ∙ ap (λ (l : List (Bor (List ℕ) × Value A)). told (members_view l)) (drop_all more items all) ∙ told_none)
      ∙ ap (λ (k : List ℕ). member k (value_view m.1) no_members) key_is;
}

-- ---- values

data_last : (enc : Encoding) (js : List Json) (rs : List RecordValue) (j : Json) (r : RecordValue)
    → AreRecordsData enc (items_of js) rs → IsRecordData enc j r → AreRecordsData enc (items_of (js ++ j ∷ [])) (rs ++ r ∷ [])
unfolding AreRecordsData
data_last enc [] [] j r h d = (d, tt)
data_last enc [] (x ∷ rs) j r h d = absurd h
data_last enc (i ∷ js) [] j r h d = absurd h
data_last enc (i ∷ js) (x ∷ rs) j r h d = (h.0, data_last enc js rs j r h.1 d)

-- with one more value the records are one more
pub data_more : {A : Type 0} (enc : Encoding) (values : List (Value A)) (i : ℕ) (m : Value A) (rs : List RecordValue)
    (r : RecordValue) → i < length values → m ≡ get_or values i m → AreRecordsData enc (items_view (take i values)) rs
    → IsRecordData enc (value_view m) r → AreRecordsData enc (items_view (take (i + 1) values)) (rs ++ r ∷ [])
data_more {A = A} enc values i m rs r h e so_far d =
    let one : map value_view (take (i + 1) values) ≡ map value_view (take i values) ++ value_view m ∷ []
    = ap (λ (l : List (Value A)). map value_view l)
    (take_more values i m h ∙ ap (λ (x : Value A). take i values ++ x ∷ []) (sym e)) ∙ map-append value_view (take i values)
    (m ∷ []) in
    subst (λ (l : List Json). AreRecordsData enc (items_of l) (rs ++ r ∷ [])) (sym one)
    (data_last enc (map value_view (take i values)) rs (value_view m) r so_far d)

no_data : (enc : Encoding) → AreRecordsData enc (items_of []) []
unfolding AreRecordsData
no_data enc = tt

pub data_first : {A : Type 0} (enc : Encoding) (values : List (Value A)) (r : RecordValue) → IsDataAt enc values 0 r
    → AreRecordsData enc (items_view (take 1 values)) (r ∷ [])
data_first enc values r h = data_more enc values 0 h.found [] r h.within h.is (no_data enc) h.is_data

pub data_all : {A : Type 0} (enc : Encoding) (values : List (Value A)) (i : ℕ) (rs : List RecordValue) → length values ≤ i
    → AreRecordsData enc (items_view (take i values)) rs → AreRecordsData enc (items_view values) rs
data_all {A = A} enc values i rs h d =
    subst (λ (l : List (Value A)). AreRecordsData enc (items_view l) rs) (take_all i values h) d

-- ---- items of one record

pub alone_trailer : (kind : Kind) → IsAlone kind → (kind ≡ Hdr → ⊥) → (kind ≡ Grh → ⊥) → (kind ≡ Grt → ⊥) → kind ≡ Trl
alone_trailer Hdr alone h g f = absurd (h refl)
alone_trailer Grh alone h g f = absurd (g refl)
alone_trailer Grt alone h g f = absurd (f refl)
alone_trailer Trl alone h g f = refl
alone_trailer _ alone h g f = absurd alone

pub data_fits : (enc : Encoding) (j : Json) (r : RecordValue) → IsRecordData enc j r → IsRecord r
data_fits enc null r h = absurd h
data_fits enc (boolean b) r h = absurd h
data_fits enc (number s) r h = absurd h
data_fits enc (string s) r h = absurd h
data_fits enc (array js) r h = absurd h
data_fits enc (object ms) r h = h.fits

-- TRL's record is always the same
pub data_of_trailer : {A : Type 0} (enc : Encoding) (values : List (Value A)) (r : RecordValue) → IsDataAt enc values 0 r
    → r.kind ≡ Trl → AreRecordsData enc (items_view values) (r ∷ []) → AreRecordsData enc (items_view values) (trailer ∷ [])
data_of_trailer enc values r h kind d =
    subst (λ (x : RecordValue). AreRecordsData enc (items_view values) (x ∷ []))
    (is_trailer r kind (data_fits enc (value_view h.found) r h.is_data)) d

-- a key that isn't another one is it
pub key_same : (k l : List ℕ) → not (bytes_eq k l) ≡ false → k ≡ l
key_same k l e = bytes_same k l (by (bytes_eq k l) e)
  where
    by : (b : Bool) → not b ≡ false → b ≡ true
    by true h = refl
    by false h = absurd (true≢false h)

pub key_other : (k l : List ℕ) → not (bytes_eq k l) ≡ true → k ≡ l → ⊥
key_other k l e same = true≢false (sym e ∙ ap not (ap (λ (x : List ℕ). bytes_eq x l) same ∙ same_bytes l))

-- Why a line's value is data of no item: what is told of it is so.
use Rattle.std.proofs.Common.{◌≡◌, ℕ, suc, ◌+◌, ◌<◌, ◌≤◌, true, false, not, min, List, [], ◌∷◌, ◌++◌, length, map, take, drop}
use Rattle.std.proofs.Common.{get_or, Option, Some, None, refl, sym, ap, subst, ◌∙◌, arith, inl, inr}
use Rattle.std.specs.Prelude.{IsSomeAnd, IfErr, Result, Ok, Err}
use Rattle.std.specs.List.{list_any}
use Rattle.std.specs.Borrow.{Bor}
use Rattle.std.specs.Str.{bytes_eq}
use Rattle.std.proofs.Math.Seq.{drop-cons}
use Rattle.std.proofs.lemmas.Bool.{not-true, or_left, or_right}
use Rattle.std.proofs.lemmas.List.{drop_all, get_or_default, length-map, length-take, map-append, take-append-drop}
use Rattle.json.specs.Json.{Json, null, boolean, number, string, array, object, Items, Members, no_members, member}
use Rattle.json.specs.declared.value.Value.{Value}
use Rattle.json.specs.Value.{items_of, items_view, members_view, value_view}
use Rattle.json.specs.Find.{as_array}
use Rattle.json.specs.Strict.{keys}
use Rattle.cwr_fields.specs.declared.kinds.Kind.{Kind}
use Rattle.cwr_fields.specs.Format.Layouts.{FieldLayout, field_at}
use Rattle.cwr_lines.specs.Format.Records.{RecordValue}
use Rattle.cwr_values.specs.Format.Begun.{IsBegun}
use Rattle.cwr_json.specs.declared.encodings.Encoding.{Encoding}
use Rattle.cwr_json.specs.Format.Forms.{AreListData, AreRecordsData, IsItemData, first_of, key_of, kind_key, records_key, told}
use Rattle.cwr_json.proofs.lemmas.OwnData.{same_bytes}
use Rattle.cwr_write.specs.declared.refusals.Key.{Key}
use Rattle.cwr_write.specs.declared.refusals.Key.TheVariants as said_of
use Rattle.cwr_write.specs.declared.refusals.LineFault.{LineFault}
use Rattle.cwr_write.specs.declared.refusals.Why.{Why}
use Rattle.cwr_write.specs.declared.refusals.Why.TheVariants as whys
use Rattle.cwr_write.specs.Format.Faults.{IsAmong, IsItemReason, IsKindReason, IsListReason, IsRecordsReason, TellsKey}
use Rattle.cwr_write.specs.Format.Faults.{IsMemberReason, IsNextReason, IsRecordReason, IsValueReason, MayGoOn, members_in}
use Rattle.cwr_write.specs.declared.items.ItemFault.{ItemFault}
use Rattle.cwr_write.specs.declared.items.ItemFault.TheVariants as item_faults
use Rattle.cwr_write.specs.Steps.Members.{IsOnlyAt, SaysAt}
use Rattle.cwr_write.specs.Steps.Taking.{IsLine, IsOfList, OnLine}
use Rattle.cwr_write.proofs.lemmas.NoItemData.{list_data, said_here}
use Rattle.cwr_write.proofs.lemmas.RecordReasons.{counted_between}
use Rattle.cwr_write.proofs.lemmas.ToldMembers.{told_none}

-- ---- the members of a line

list_reason : (ms ns : Members) (why : Why) → ms ≡ ns → IsRecordsReason ns why → IsRecordsReason ms why
list_reason ms ns why e h = subst (λ (l : Members). IsRecordsReason l why) (sym e) h

-- of the key of the records, and another reason than that it is unknown
abbrev IsKnown : Why → Type 0
IsKnown whys.UnknownKey = ⊥
IsKnown why = Unit {0}

pub of_records : (ms : Members) (key : Key) (why told_why : Why) → told_why ≡ why → IsKnown why → TellsKey key records_key
    → IsRecordsReason ms why → IsListReason ms key told_why
of_records ms key why told_why e known tells h = subst (IsListReason ms key) (sym e) (by why known h)
  where
    by : (w : Why) → IsKnown w → IsRecordsReason ms w → IsListReason ms key w
    by whys.UnknownKey k r = absurd k
    by w k r = (tells, r)

pub missing_reason : {A : Type 0} (items : List (Bor (List ℕ) × Value A)) (at : ℕ)
    → told (members_view (drop 0 items)) ≡ told (members_view (drop at items)) → length items ≤ at
    → IsRecordsReason (told (members_view items)) whys.Missing
missing_reason {A = A} items at before all =
    before ∙ ap (λ (l : List (Bor (List ℕ) × Value A)). told (members_view l)) (drop_all at items all) ∙ told_none

pub unknown_first : {A : Type 0} (items : List (Bor (List ℕ) × Value A)) (at : ℕ) (m : Bor (List ℕ) × Value A) (key : Key)
    → TellsKey key m.0.now → at < length items → m ≡ get_or items at m → SaysAt items at
    → told (members_view (drop 0 items)) ≡ told (members_view (drop at items))
    → not (bytes_eq m.0.now records_key) ≡ true → IsListReason (told (members_view items)) key whys.UnknownKey
unknown_first items at m key tells h e s before other = (
  m.0.now,
  tells,
  ap (λ (ms : Members). list_any (bytes_eq m.0.now) (keys ms)) (before ∙ said_here items at m h e s) ∙ or_left
      (bytes_eq m.0.now m.0.now) (list_any (bytes_eq m.0.now) (keys (told (members_view (drop (at + 1) items)))))
      (same_bytes m.0.now),
  not-true (bytes_eq m.0.now records_key) other,
)

two_said : {A : Type 0} (items : List (Bor (List ℕ) × Value A)) (at more : ℕ) (m n : Bor (List ℕ) × Value A) → at < length items
    → m ≡ get_or items at m → SaysAt items at → told (members_view (drop 0 items)) ≡ told (members_view (drop at items))
    → more < length items → n ≡ get_or items more n → SaysAt items more
    → told (members_view (drop (at + 1) items)) ≡ told (members_view (drop more items))
    → told (members_view items)
    ≡ member m.0.now (value_view m.1) (member n.0.now (value_view n.1) (told (members_view (drop (more + 1) items))))
two_said items at more m n h e s before lt f t between =
    before ∙ said_here items at m h e s
    ∙ ap (λ (ms : Members). member m.0.now (value_view m.1) ms) (between ∙ said_here items more n lt f t)

pub unknown_second : {A : Type 0} (items : List (Bor (List ℕ) × Value A)) (at more : ℕ) (m n : Bor (List ℕ) × Value A) (key : Key)
    → TellsKey key n.0.now → at < length items → m ≡ get_or items at m → SaysAt items at
    → told (members_view (drop 0 items)) ≡ told (members_view (drop at items))
    → more < length items → n ≡ get_or items more n → SaysAt items more
    → told (members_view (drop (at + 1) items)) ≡ told (members_view (drop more items))
    → not (bytes_eq n.0.now records_key) ≡ true → IsListReason (told (members_view items)) key whys.UnknownKey
unknown_second items at more m n key tells h e s before lt f t between other =
    let rest : List (List ℕ) = keys (told (members_view (drop (more + 1) items))) in (
      n.0.now,
      tells,
      ap (λ (ms : Members). list_any (bytes_eq n.0.now) (keys ms)) (two_said items at more m n h e s before lt f t between)
          ∙ or_right (bytes_eq n.0.now m.0.now) (list_any (bytes_eq n.0.now) (n.0.now ∷ rest))
          (or_left (bytes_eq n.0.now n.0.now) (list_any (bytes_eq n.0.now) rest) (same_bytes n.0.now)),
      not-true (bytes_eq n.0.now records_key) other,
    )

pub repeated_list : {A : Type 0} (items : List (Bor (List ℕ) × Value A)) (at more : ℕ) (m n : Bor (List ℕ) × Value A)
    → at < length items → m ≡ get_or items at m → SaysAt items at
    → told (members_view (drop 0 items)) ≡ told (members_view (drop at items))
    → more < length items → n ≡ get_or items more n → SaysAt items more
    → told (members_view (drop (at + 1) items)) ≡ told (members_view (drop more items)) → m.0.now ≡ records_key
    → n.0.now ≡ records_key → IsRecordsReason (told (members_view items)) whys.Repeated
repeated_list items at more m n h e s before lt f t between first second =
    let rest : List (List ℕ) = keys (told (members_view (drop (more + 1) items))) in
    list_reason (told (members_view items))
    (member m.0.now (value_view m.1) (member n.0.now (value_view n.1) (told (members_view (drop (more + 1) items)))))
    whys.Repeated (two_said items at more m n h e s before lt f t between)
    (counted_between (bytes_eq records_key) (m.0.now ∷ []) rest n.0.now
    (or_left (bytes_eq records_key m.0.now) false (is_key m.0.now first)) (is_key n.0.now second))
  where
    is_key : (k : List ℕ) → k ≡ records_key → bytes_eq records_key k ≡ true
    is_key k e = ap (bytes_eq records_key) e ∙ same_bytes records_key

-- ---- the values of a list

never_some : {A : Type 0} (o : Option A) (P : A → Type 0) → ((x : A) → ¬ P x) → ¬ IsSomeAnd o P
never_some None P none h = h
never_some (Some x) P none h = none x h

-- a record's own fault isn't its place
never_member : (enc : Encoding) (why : Why) → ((f : FieldLayout) (value : Option Json) → ¬ IsValueReason enc f value why)
    → (kind : Kind) (ms : Members) (j : ℕ)
    → ¬ IsSomeAnd (field_at kind j) (λ f. IsValueReason enc f (first_of (key_of f.name) ms) why)
never_member enc why none kind ms j h =
    never_some (field_at kind j) (λ f. IsValueReason enc f (first_of (key_of f.name) ms) why)
    (λ f. none f (first_of (key_of f.name) ms)) h

member_misplaced : (enc : Encoding) (kind : Kind) (ms : Members) (key : Key) → ¬ IsMemberReason enc kind ms key whys.Misplaced
member_misplaced enc kind ms (said_of.Field j) h = never_member enc whys.Misplaced (λ f value k. k) kind ms j h
member_misplaced enc kind ms key h = h

member_alone : (enc : Encoding) (kind : Kind) (ms : Members) (key : Key) → ¬ IsMemberReason enc kind ms key whys.Alone
member_alone enc kind ms (said_of.Field j) h = never_member enc whys.Alone (λ f value k. k) kind ms j h
member_alone enc kind ms key h = h

own_misplaced : (enc : Encoding) (j : Json) (kind : Option Kind) (key : Key) → ¬ IsRecordReason enc j kind key whys.Misplaced
own_misplaced enc j None key h =
    never_some (members_in j) (λ ms. IsKindReason (first_of kind_key (told ms)) whys.Misplaced) (λ ms k. k) h.1
own_misplaced enc j (Some kind) key h = never_some (members_in j) _ (λ ms k. member_misplaced enc kind (told ms) key k.1) h

own_alone : (enc : Encoding) (j : Json) (kind : Option Kind) (key : Key) → ¬ IsRecordReason enc j kind key whys.Alone
own_alone enc j None key h =
    never_some (members_in j) (λ ms. IsKindReason (first_of kind_key (told ms)) whys.Alone) (λ ms k. k) h.1
own_alone enc j (Some kind) key h = never_some (members_in j) _ (λ ms k. member_alone enc kind (told ms) key k.1) h

next_reason : (enc : Encoding) (rs : List RecordValue) (j : Json) (f : LineFault) (why : Why)
    → IsRecordReason enc j f.kind f.key why → IsNextReason enc rs j f why
next_reason enc rs j f whys.Misplaced h = absurd (own_misplaced enc j f.kind f.key h)
next_reason enc rs j f whys.Alone h = absurd (own_alone enc j f.kind f.key h)
next_reason enc rs j f why h = h

among_at : {A : Type 0} (enc : Encoding) (values : List (Value A)) (i : ℕ) (m : Value A) (f : LineFault) (rs : List RecordValue)
    → i < length values → m ≡ get_or values i m → f.record ≡ min (i + 1) 4294967295
    → AreRecordsData enc (items_view (take i values)) rs → MayGoOn rs → IsNextReason enc rs (value_view m) f f.why
    → IsAmong enc (map value_view values) f
among_at {A = A} enc values i m f rs h e count said goes_on reason =
    let tail : drop i values ≡ m ∷ drop (i + 1) values =
    drop-cons values i m h ∙ ap (λ (x : Value A). x ∷ drop (suc i) values) (sym e)
    ∙ ap (λ (n : ℕ). m ∷ drop n values) (suc_is i) in
    record {
      before = map value_view (take i values);
      value = value_view m;
      after = map value_view (drop (i + 1) values);
      whole =
          ap (λ (l : List (Value A)). map value_view l)
          (sym (take-append-drop i values) ∙ ap (λ (l : List (Value A)). take i values ++ l) tail) ∙ map-append value_view
          (take i values) (m ∷ drop (i + 1) values);
      number = count ∙ ap (λ (n : ℕ). min (n + 1) 4294967295) (sym (counted i));
      records = rs;
      said = said;
      goes_on = goes_on;
      reason = reason;
    }
  where
    suc_is : (n : ℕ) → suc n ≡ n + 1
    suc_is n = omega arith

    counted : (n : ℕ) → length (map value_view (take i values)) ≡ i
    counted n = omega (arith, h, length-map (take i values) value_view, length-take i values)

-- a value that is data of no record
pub own_among : {A : Type 0} (enc : Encoding) (values : List (Value A)) (i : ℕ) (m : Value A) (f : LineFault)
    (rs : List RecordValue) → i < length values → m ≡ get_or values i m → f.record ≡ min (i + 1) 4294967295 → AreRecordsData enc
    (items_view (take i values)) rs → MayGoOn rs
    → IsRecordReason enc (value_view m) f.kind f.key f.why → IsAmong enc (map value_view values) f
own_among enc values i m f rs h e count said goes_on reason =
    among_at enc values i m f rs h e count said goes_on (next_reason enc rs (value_view m) f f.why reason)

-- or of one for its place
pub placed_among : {A : Type 0} (enc : Encoding) (values : List (Value A)) (i : ℕ) (m : Value A) (f : LineFault)
    (rs : List RecordValue) (why : Why) → i < length values → m ≡ get_or values i m → f.record ≡ min (i + 1) 4294967295
    → AreRecordsData enc (items_view (take i values)) rs → MayGoOn rs
    → f.why ≡ why → IsNextReason enc rs (value_view m) f why → IsAmong enc (map value_view values) f
placed_among enc values i m f rs why h e count said goes_on is reason =
    among_at enc values i m f rs h e count said goes_on (subst (IsNextReason enc rs (value_view m) f) (sym is) reason)

-- those of a transaction
pub begun_goes_on : (rs : List RecordValue) → IsBegun rs → MayGoOn rs
begun_goes_on [] h = tt
begun_goes_on (r ∷ rs) h = inl h

pub none_data : {A : Type 0} (enc : Encoding) (values : List (Value A)) → AreRecordsData enc (items_view (take 0 values)) []
unfolding AreRecordsData
none_data enc values = tt

-- ---- faults

pub on_line : (fault : ItemFault) (P Q : LineFault → Type 0) → (IsLine fault → (f : LineFault) → P f → Q f) → OnLine fault P
    → OnLine fault Q
on_line (item_faults.Line f) P Q h p = h tt f p
on_line item_faults.Memory P Q h p = tt
on_line (item_faults.Writer written) P Q h p = tt

pub line_err : {X : Type 0} (answer : Result X ItemFault) (P Q : LineFault → Type 0) → ((f : LineFault) → P f → Q f)
    → IfErr answer (λ e. OnLine e P) → IfErr answer (λ e. OnLine e Q)
line_err {X = X} (Ok x) P Q h p = tt
line_err {X = X} (Err e) P Q h p = on_line e P Q (λ _. h) p

-- ---- the one list of a line

no_list : (enc : Encoding) (j : Json) (rs : List RecordValue) → as_array j ≡ None → ¬ AreListData enc j rs
no_list enc null rs e h = h
no_list enc (boolean b) rs e h = h
no_list enc (number n) rs e h = h
no_list enc (string s) rs e h = h
no_list enc (array js) rs e h = cc e
no_list enc (object ms) rs e h = h

array_of : (j : Json) (js : Items) → Some js ≡ as_array j → j ≡ array js
array_of null js e = cc e
array_of (boolean b) js e = cc e
array_of (number n) js e = cc e
array_of (string s) js e = cc e
array_of (array ks) js e = let same : js ≡ ks = cc e in ap array (sym same)
array_of (object ms) js e = cc e

first_only : (j : Json) → first_of records_key (member records_key j no_members) ≡ Some j
unfolding first_of
first_only j = refl

first_list : {A : Type 0} (items : List (Bor (List ℕ) × Value A)) (at : ℕ) (m : Bor (List ℕ) × Value A)
    → IsOnlyAt items records_key at → m ≡ get_or items at m
    → first_of records_key (told (members_view items)) ≡ Some (value_view m.1)
first_list {A = A} items at m only e =
    let same : only.found ≡ m = only.is ∙ get_or_default items at only.found m only.within ∙ sym e in
    ap (first_of records_key) only.only ∙ first_only (value_view only.found.1)
    ∙ ap (λ (x : Bor (List ℕ) × Value A). Some (value_view x.1)) same

pub unlisted_data : {A : Type 0} (enc : Encoding) (items : List (Bor (List ℕ) × Value A)) (at : ℕ) (m : Bor (List ℕ) × Value A)
    (rs : List RecordValue) → IsOnlyAt items records_key at → m ≡ get_or items at m → None ≡ as_array (value_view m.1) → ¬
    IsItemData enc (object (members_view items)) rs
unlisted_data enc items at m rs only e none h = no_list enc (value_view m.1) rs (sym none) (list_data enc items at m rs only e h)

pub unlisted_reason : {A : Type 0} (enc : Encoding) (items : List (Bor (List ℕ) × Value A)) (at : ℕ) (m : Bor (List ℕ) × Value A)
    (f : LineFault) → IsOnlyAt items records_key at → m ≡ get_or items at m → None ≡ as_array (value_view m.1) → f.record ≡ 0
    → f.kind ≡ None → TellsKey f.key records_key → f.why ≡ whys.NotAList
    → IsItemReason enc (object (members_view items)) f
unlisted_reason enc items at m f only e none first no_kind tells why =
    inr (inl (
      first,
      no_kind,
      of_records (told (members_view items)) f.key whys.NotAList f.why why tt tells
          (subst (λ (o : Option Json). IsSomeAnd o (λ j. as_array j ≡ None)) (sym (first_list items at m only e)) (sym none)),
    ))

pub listed_reason : {A : Type 0} (enc : Encoding) (items : List (Bor (List ℕ) × Value A)) (at : ℕ) (m : Bor (List ℕ) × Value A)
    (js : List Json) (f : LineFault) → IsOnlyAt items records_key at → m ≡ get_or items at m → Some (items_of js) ≡ as_array
    (value_view m.1) → IsOfList enc js f
    → IsItemReason enc (object (members_view items)) f
listed_reason enc items at m js f only e list h =
    let there : first_of records_key (told (members_view items)) ≡ Some (array (items_of js)) =
    first_list items at m only e ∙ ap (λ (j : Json). Some j) (array_of (value_view m.1) (items_of js) list) in
    elim h [
      | inl none ↦ inr (inl (
        none.0,
        none.1,
        of_records (told (members_view items)) f.key whys.Empty f.why none.3 tt none.2
            (there ∙ ap (λ (l : List Json). Some (array (items_of l))) none.4),
      ))
      | inr among ↦ inr (inr (js, there, among))
    ]

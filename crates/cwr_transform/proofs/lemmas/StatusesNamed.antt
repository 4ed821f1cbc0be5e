-- The status of a selection is that of what the words name.
use Rattle.std.proofs.Common.{◌≡◌, ℕ, Bool, true, false, not, ◌||◌, List, [], ◌∷◌, Option, Some, None, refl, sym, ap, ap₂, subst, ◌∙◌, inl, inr, true≢false}
use denote.Ref.{Bor}
use Rattle.std.specs.Prelude.{◌⊎◌, IfSome, option_map, Result, Ok, Err}
use Rattle.std.specs.Cmp.{IsEquivalence}
use Rattle.std.specs.List.{list_any}
use Rattle.std.specs.Str.{bytes_eq}
use Rattle.cwr_shape.specs.declared.limits.Limits.{Limits}
use Rattle.cwr_moments.specs.declared.moments.Moment.{Moment}
use Rattle.cwr_values.specs.Format.Values.{TransmissionValue}
use Rattle.cwr_select.specs.Format.Criteria.{significant}
use Rattle.cwr_select.specs.Format.Selections.{Choice}
use Rattle.cwr_files.specs.Format.Files.{Texts}
use Rattle.cwr_files.specs.Format.Inputs.{IsThereOrRead}
use Rattle.cwr_files.specs.Steps.Inputs.{IsLeftOf, standard_left}
use Rattle.cwr_files.proofs.lemmas.Reads.{if_read}
use Rattle.cwr_endings.specs.declared.endings.Status.{Status}
use Rattle.cwr_endings.specs.declared.endings.Status.TheVariants as statuses
use Rattle.cwr_endings.specs.declared.endings.Wanted.{Wanted}
use Rattle.cwr_endings.specs.declared.stops.Stop.{Stop}
use Rattle.cwr_transform.specs.declared.selections.Selection.{Selection}
use Rattle.cwr_transform.specs.declared.selections.Unlisted.{Unlisted}
use Rattle.cwr_transform.specs.declared.selections.Unlisted.TheVariants as unlisted
use Rattle.cwr_transform.specs.Format.Lists.{IsNoList, all_read, entries_in, number_in, place_in}
use Rattle.cwr_transform.specs.Format.Missing.{is_missing, lacks_one, numbers_of, placed, places_of, same_place}
use Rattle.cwr_transform.specs.Format.Selections.{Asking, HasSelectStatus, HasSelectStatusAt, IsSelectStatus, IsSelectStatusAt, asked_choice, asking_of, other_moment}
use Rattle.cwr_transform.specs.Steps.Lists.{AreListedOnce, HasOnce, IsThereForList, ReadsList}
use Rattle.cwr_transform.specs.Steps.Selections.{ReadsNeither, ReadsNoList}
use Rattle.cwr_transform.proofs.lemmas.SelectionsNamed.{listed_same, read_lent}
use Rattle.cwr_transform.proofs.lemmas.SoughtValues.{bytes_equiv, place_equiv}

-- ---- lists that have the same values

-- a value that passes a test
record Passes {A : Type 0} (p : A → Bool) (xs : List A) : Type 0 where
  value : A
  passes : p value ≡ true
  among : (q : A → Bool) → q value ≡ true → list_any q xs ≡ true

or_left : (a b : Bool) → a ≡ true → (a || b) ≡ true
or_left true b e = refl
or_left false b e = absurd (true≢false (sym e))

or_right : (a b : Bool) → b ≡ true → (a || b) ≡ true
or_right true b e = refl
or_right false true e = refl
or_right false false e = absurd (true≢false (sym e))

passes_first : {A : Type 0} (p : A → Bool) (x : A) (xs : List A) (b : Bool) → p x ≡ b → (list_any p xs ≡ true → Passes p xs)
    → (b || list_any p xs) ≡ true → Passes p (x ∷ xs)
passes_first p x xs true h rest e = record { value = x; passes = h; among = λ q k. or_left (q x) (list_any q xs) k }
passes_first p x xs false h rest e =
    let later = rest e in
    record { value = later.value; passes = later.passes; among = λ q k. or_right (q x) (list_any q xs) (later.among q k) }

some_passes : {A : Type 0} (p : A → Bool) (xs : List A) → list_any p xs ≡ true → Passes p xs
some_passes p [] e = absurd (true≢false (sym e))
some_passes p (x ∷ xs) e = passes_first p x xs (p x) refl (some_passes p xs) e

both_so : (a b : Bool) → (a ≡ true → b ≡ true) → (b ≡ true → a ≡ true) → a ≡ b
both_so true true f g = refl
both_so false false f g = refl
both_so true false f g = sym (f refl)
both_so false true f g = g refl

any_once : {A : Type 0} (same : A → A → Bool) (e : IsEquivalence same) (q : A → Bool)
    → ((x y : A) → same x y ≡ true → q x ≡ q y) → (xs ys : List A) → HasOnce same xs ys → list_any q ys ≡ list_any q xs
any_once same e q fits xs ys h = both_so (list_any q ys) (list_any q xs)
    (λ k. from ys xs (λ x. sym (h.members x)) (some_passes q ys k)) (λ k. from xs ys h.members (some_passes q xs k)) where
      from : (us vs : List _) → ((x : _) → list_any (λ y. same y x) vs ≡ list_any (λ y. same y x) us) → Passes q us → list_any q vs ≡ true
      from us vs members p =
          let here : list_any (λ y. same y p.value) us ≡ true = p.among (λ y. same y p.value) (e.refl p.value) in
          let there = some_passes (λ y. same y p.value) vs (members p.value ∙ here) in
          there.among q (fits there.value p.value there.passes ∙ p.passes)

alike : {A : Type 0} (same : A → A → Bool) (e : IsEquivalence same) (found : List A) (x y : A) → same x y ≡ true
    → list_any (same x) found ≡ list_any (same y) found
alike same e [] x y h = refl
alike same e (z ∷ found) x y h = ap₂ (λ (b c : Bool). b || c) (e.congr x y z h) (alike same e found x y h)

lacks_same : {A : Type 0} (same : A → A → Bool) → IsEquivalence same → (listed values : Option (List A)) → AreListedOnce same listed values
    → (found : List A) → lacks_one same values found ≡ lacks_one same listed found
lacks_same same e None None h found = refl
lacks_same same e None (Some ys) h found = absurd h
lacks_same same e (Some xs) None h found = absurd h
lacks_same same e (Some xs) (Some ys) h found =
    any_once same e (λ value. not (list_any (same value) found)) (λ x y k. ap not (alike same e found x y k)) xs ys h

missing_same : (numbers of_works : Option (List (List ℕ))) (places of_places : Option (List (ℕ × ℕ)))
    → AreListedOnce bytes_eq numbers of_works → AreListedOnce same_place places of_places → (v : TransmissionValue)
    → is_missing of_works of_places v ≡ is_missing numbers places v
missing_same numbers of_works places of_places h k v =
    ap₂ (λ (b c : Bool). b || c) (lacks_same bytes_eq bytes_equiv numbers of_works h (numbers_of (placed v)))
    (lacks_same same_place place_equiv places of_places k (places_of (placed v)))

-- ---- the status by them

module _ (limits : Limits) (wanted : Wanted) (moment : Option Moment) where
  abbrev Asks : Choice → Option (List (List ℕ)) → Option (List (ℕ × ℕ)) → Asking
  Asks choice numbers places =
      record { limits = limits; wanted = wanted; moment = moment; choice = choice; numbers = numbers; places = places }

  status_listed : (choice : Choice) (numbers of_works : Option (List (List ℕ))) (places of_places : Option (List (ℕ × ℕ)))
      → AreListedOnce bytes_eq numbers of_works → AreListedOnce same_place places of_places → (text : List ℕ) (status : Status)
      → IsSelectStatus (Asks choice of_works of_places) text status → IsSelectStatus (Asks choice numbers places) text status
  status_listed choice numbers of_works places of_places h k text statuses.Good (v, n, accepted, has) = (
    v,
    n,
    accepted,
    record {
      other = has.other;
      some = has.some;
      all = sym (missing_same numbers of_works places of_places h k v) ∙ has.all;
      whole = has.whole;
      calm = has.calm;
    },
  )
  status_listed choice numbers of_works places of_places h k text statuses.Refused s = elim s [
    | inl r ↦ inl r
    | inr t ↦ elim t [
      | inl r ↦ inr (inl r)
      | inr x ↦ inr (inr (
        x.0,
        x.1,
        x.2,
        record {
          other = x.3.other;
          lacks = elim x.3.lacks [
            | inl e ↦ inl e
            | inr y ↦ elim y [
              | inl e ↦ inr (inl (sym (missing_same numbers of_works places of_places h k x.0) ∙ e))
              | inr z ↦ inr (inr z)
            ]
          ];
        },
      ))
    ]
  ]
  status_listed choice numbers of_works places of_places h k text statuses.CommandLine s = s
  status_listed choice numbers of_works places of_places h k text statuses.Fault s = absurd s

  pub status_chosen : (choice other : Choice) (numbers of_works : Option (List (List ℕ))) (places of_places : Option (List (ℕ × ℕ)))
      → choice ≡ other → AreListedOnce bytes_eq numbers of_works → AreListedOnce same_place places of_places → (text : List ℕ)
      (status : Status) → IsSelectStatus (Asks choice of_works of_places) text status → IsSelectStatus (Asks other numbers places) text status
  status_chosen choice other numbers of_works places of_places same h k text status s =
      status_listed other numbers of_works places of_places h k text status
      (subst (λ (c : Choice). IsSelectStatus (Asks c of_works of_places) text status) same s)

if_so : (P Q : List ℕ → Type 0) (o : Option (List ℕ)) → ((text : List ℕ) → P text → Q text) → IfSome o P → IfSome o Q
if_so P Q None so h = tt
if_so P Q (Some text) so h = so text h

-- ---- by what the words name

module _ (s : Selection) (answered : Option (List (ℕ × ℕ))) (held : Option Texts) (standard : Option (List ℕ)) where
  pub status_named : (works : Option (List (List ℕ))) (places : Option (List (ℕ × ℕ))) (party : Option (List ℕ)) (left : Option (List ℕ))
      (status : Status) → ReadsList bytes_eq number_in held standard (option_map (λ name. name.now) s.works) works
      → ReadsList same_place place_in held standard (option_map (λ name. name.now) s.places) places
      → party ≡ option_map (λ number. significant number.now) s.party → IsLeftOf held standard (option_map (λ name. name.now) s.file) left
      → IfSome left (λ text. IsSelectStatus (Asks s.limits s.wanted (other_moment (option_map (λ name. name.now) s.out) s.changes)
      (asked_choice s.others works places answered s.kinds party) works places) text status)
      → IsSelectStatusAt s answered held standard status
  status_named works places party left status numbered placed who opened h =
      let asked : Option (List ℕ) = option_map (λ number. significant number.now) s.party in
      let same : asked_choice s.others works places answered s.kinds party ≡ asked_choice s.others numbered.0 placed.0 answered s.kinds asked
      = listed_same s.others numbered.0 works placed.0 places answered s.kinds party numbered.2 placed.2
      ∙ ap (λ (p : Option (List ℕ)). asked_choice s.others numbered.0 placed.0 answered s.kinds p) who in
      record {
        numbers = numbered.0;
        places = placed.0;
        by_numbers = numbered.1;
        by_places = placed.1;
        of = if_read held standard (option_map (λ name. name.now) s.file) left
            (λ text. IsSelectStatus (asking_of s answered numbered.0 placed.0) text status) opened
            (if_so _ _ left
            (λ text k. status_chosen s.limits s.wanted (other_moment (option_map (λ name. name.now) s.out) s.changes)
            (asked_choice s.others works places answered s.kinds party)
            (asked_choice s.others numbered.0 placed.0 answered s.kinds asked) numbered.0 works placed.0 places same numbered.2 placed.2 text
            status k) h);
      }

  pub status_at : (works : Option (List (List ℕ))) (places : Option (List (ℕ × ℕ))) (party : Option (List ℕ)) (left : Option (List ℕ))
      (ending : Result Status Stop) → ReadsList bytes_eq number_in held standard (option_map (λ name. name.now) s.works) works
      → ReadsList same_place place_in held standard (option_map (λ name. name.now) s.places) places
      → party ≡ option_map (λ number. significant number.now) s.party → IsLeftOf held standard (option_map (λ name. name.now) s.file) left
      → HasSelectStatus (Asks s.limits s.wanted (other_moment (option_map (λ name. name.now) s.out) s.changes)
      (asked_choice s.others works places answered s.kinds party) works places) left ending
      → HasSelectStatusAt s answered held standard ending
  status_at works places party left (Ok statuses.Good) n p who opened h = status_named works places party left statuses.Good n p who opened h
  status_at works places party left (Ok statuses.Refused) n p who opened h = status_named works places party left statuses.Refused n p who opened h
  status_at works places party left (Ok statuses.CommandLine) n p who opened h =
      inl (status_named works places party left statuses.CommandLine n p who opened h)
  status_at works places party left (Ok statuses.Fault) n p who opened h = status_named works places party left statuses.Fault n p who opened h
  status_at works places party left (Err stop) n p who opened h = tt

-- ---- a list with a line that says nothing of it

pub no_list : {I A : Type 0} (reads : List ℕ → Option A) (held : Option Texts) (of_standard : I → Option (List ℕ)) (input : I)
    (standard : Option I) (name : Option (List ℕ)) → IsThereOrRead input standard
    → ReadsNoList reads held (standard_left of_standard standard) name → IsThereForList name standard
    → IsNoList reads held (of_standard input) name
no_list reads held of_standard input standard None lent h there = absurd h
no_list reads held of_standard input standard (Some name) lent h there =
    read_lent _ held of_standard input standard name (λ text. all_read reads (entries_in text) ≡ None) lent there
    (if_read held (standard_left of_standard standard) (Some name) h.1.0 (λ text. all_read reads (entries_in text) ≡ None) h.1.1
    (known h.1.0 h.1.2)) where
      known : (left : Option (List ℕ)) → IfSome left (λ text. h.0 ≡ text) → IfSome left (λ text. all_read reads (entries_in text) ≡ None)
      known None k = tt
      known (Some text) k = subst (λ (t : List ℕ). all_read reads (entries_in t) ≡ None) k h.2

pub no_line : (u : Unlisted) (name : Bor (List ℕ)) (line : ℕ) (expected : Bor (List ℕ)) (held : Option Texts)
    (standard left works places : Option (List ℕ)) (first second : Type 0) → u ≡ unlisted.Line name line expected
    → ReadsNeither held standard left works places first second (Err u)
    → (ReadsNoList number_in held standard works × first) ⊎ (ReadsNoList place_in held left places × second)
no_line u name line expected held standard left works places first second is h =
    subst (λ (v : Unlisted). ReadsNeither held standard left works places first second (Err v)) is h

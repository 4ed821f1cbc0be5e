-- What is selected is chosen by what the words name.
use mathlib.Core.Path.{fun_ext}
use Rattle.std.proofs.Common.{◌≡◌, true≢false, ℕ, Bool, true, false, not, ◌&&◌, List, Option, Some, None, refl, sym, ap, ap₂, subst, ◌∙◌, inl, inr}
use Rattle.std.specs.Prelude.{IfSome, IsSome, option_map, Result, Ok, Err, if◌then◌else◌}
use Rattle.std.specs.Option.{option_map_or}
use Rattle.cwr_lines.specs.Format.Records.{RecordValue}
use Rattle.cwr_shape.specs.declared.limits.Limits.{Limits}
use Rattle.cwr_select.specs.declared.changes.Changes.{Changes}
use Rattle.cwr_select.specs.declared.criteria.ByKind.{ByKind}
use Rattle.cwr_select.specs.Format.Criteria.{has_kind, has_number, has_party, has_place, number_cell, significant}
use Rattle.std.specs.Str.{bytes_eq}
use Rattle.std.proofs.lemmas.Option.{none-some}
use Rattle.cwr_select.specs.Format.Selections.{Choice}
use Rattle.cwr_files.specs.Format.Files.{Same, Texts, Turns}
use Rattle.cwr_files.specs.Format.Inputs.{IfReadAt, IsThereOrRead, is_standard}
use Rattle.cwr_files.specs.Steps.Inputs.{IsLeftOf, IsThereFor, standard_left}
use Rattle.cwr_files.proofs.lemmas.Outs.{leaves_same}
use Rattle.cwr_files.proofs.lemmas.Reads.{if_read, left_lent, lent_on}
use Rattle.cwr_endings.specs.declared.endings.Status.{Status}
use Rattle.cwr_endings.specs.declared.endings.Status.TheVariants as statuses
use Rattle.cwr_endings.specs.declared.stops.Stop.{Stop}
use Rattle.cwr_endings.specs.Format.Endings.{WritesOut}
use Rattle.cwr_endings.proofs.lemmas.Outs.{out_same, turns_so, writes_as}
use Rattle.cwr_transform.specs.declared.selections.Selection.{Selection}
use Rattle.cwr_transform.specs.Format.Selections.{EndsAsSelection, EndsAsSelectionAt, IsSelectionAt, IsSelectionFrom, LeavesSelection, asked_choice}
use Rattle.cwr_transform.specs.Format.Lists.{IsListed, all_read, entries_in, number_in, place_in}
use Rattle.cwr_transform.specs.Format.Missing.{same_place}
use Rattle.cwr_transform.specs.Steps.Lists.{AreListedOnce, IsThereForList, ReadsList, ReadsSaid, ReadsText, SaysText, standard_after_list}

-- ---- who chooses

mapped : {A B : Type 0} (f : A → B) (p : B → Bool) (o : Option A)
    → option_map_or (λ (a : A). p (f a)) o true ≡ option_map_or p (option_map f o) true
mapped f p None = refl
mapped f p (Some a) = refl

-- who chooses by all that is asked for chooses as is promised
pub asked_same : {A B : Type 0} (of_number : A → List (List ℕ)) (of_place : B → List (ℕ × ℕ)) (a : Option A) (b c : Option B)
    (k kinds : Option ByKind) (p party : Option (List ℕ)) (turned others : Bool) (numbers : Option (List (List ℕ)))
    (places answered : Option (List (ℕ × ℕ))) → option_map of_number a ≡ numbers → option_map of_place b ≡ places
    → option_map of_place c ≡ answered → k ≡ kinds → p ≡ party → turned ≡ others
    → (λ (group place : ℕ) (t : List RecordValue). if turned then
    not
    (option_map_or (λ by. has_number (of_number by) t) a true && (option_map_or (λ by. has_place (of_place by) group place) b true && (option_map_or (λ by. has_place (of_place by) group place) c true && (option_map_or (λ by. has_kind by t) k true && option_map_or (λ number. has_party number t) p true))))
    else option_map_or (λ by. has_number (of_number by) t) a true && (option_map_or (λ by. has_place (of_place by) group place) b true && (option_map_or (λ by. has_place (of_place by) group place) c true && (option_map_or (λ by. has_kind by t) k true && option_map_or (λ number. has_party number t) p true))))
    ≡ asked_choice others numbers places answered kinds party
asked_same of_number of_place a b c k kinds p party turned others numbers places answered ea eb ec ek ep et =
    fun_ext λ group. fun_ext λ place. fun_ext λ t.
    ap₂ (λ (b : Bool) (x : Bool). if b then not x else x) et
    (ap₂ ◌&&◌ (mapped of_number (λ list. has_number list t) a ∙ ap (λ (o : Option (List (List ℕ))). option_map_or (λ list. has_number list t) o true) ea)
    (ap₂ ◌&&◌ (mapped of_place (λ list. has_place list group place) b ∙ ap (λ (o : Option (List (ℕ × ℕ))). option_map_or (λ list. has_place list group place) o true) eb)
    (ap₂ ◌&&◌ (mapped of_place (λ list. has_place list group place) c ∙ ap (λ (o : Option (List (ℕ × ℕ))). option_map_or (λ list. has_place list group place) o true) ec)
    (ap₂ ◌&&◌ (ap (λ (o : Option ByKind). option_map_or (λ by. has_kind by t) o true) ek)
    (ap (λ (o : Option (List ℕ)). option_map_or (λ number. has_party number t) o true) ep)))))

-- ---- what the words name

-- standard input is lent to the lists
pub after_lent : {I : Type 0} (name : Option (List ℕ)) (input : I) (standard : Option I) → IsThereOrRead input standard
    → IsThereOrRead input (standard_after_list name standard)
after_lent None input standard lent = lent
after_lent (Some name) input standard lent = lent_on (is_standard (Some name)) input standard _ lent refl

pub lists_lent : {I : Type 0} (works places : Option (List ℕ)) (input : I) (standard : Option I) → IsThereOrRead input standard
    → IsThereOrRead input (standard_after_list places (standard_after_list works standard))
lists_lent works places input standard lent =
    after_lent places input (standard_after_list works standard) (after_lent works input standard lent)

pub read_lent : {I : Type 0} (b : Bool) (held : Option Texts) (of_standard : I → Option (List ℕ)) (input : I) (standard : Option I)
    (name : List ℕ) (is : List ℕ → Type 0) → IsThereOrRead input standard → IsThereFor b standard
    → IfReadAt b held (standard_left of_standard standard) name is → IfReadAt b held (of_standard input) name is
read_lent true held of_standard input None name is lent there h = absurd (true≢false (sym there))
read_lent {I} true held of_standard input (Some other) name is lent there h =
    elim lent [
      | inl e ↦ subst (λ (o : Option I). IfSome (standard_left of_standard o) is) e h
      | inr e ↦ absurd (none-some other (sym e))
    ]
read_lent false held of_standard input standard name is lent there h = h

-- what a text says that was read is what the list says
pub listed_so : {A : Type 0} (same : A → A → Bool) (reads : List ℕ → Option A) (held : Option Texts) (standard : Option (List ℕ))
    (name bytes : List ℕ) (values : List A) → ReadsText held standard name bytes → SaysText same reads bytes values
    → ReadsList same reads held standard (Some name) (Some values)
listed_so same reads held standard name bytes values r s = (
  Some s.0,
  (refl, if_read held standard (Some name) r.0 (λ text. all_read reads (entries_in text) ≡ Some s.0) r.1 (known r.0 r.2)),
  s.2,
) where
  known : (left : Option (List ℕ)) → IfSome left (λ text. bytes ≡ text) → IfSome left (λ text. all_read reads (entries_in text) ≡ Some s.0)
  known None h = tt
  known (Some text) h = subst (λ (t : List ℕ). all_read reads (entries_in t) ≡ Some s.0) h s.1

-- what was read of a list is what the word names
pub listed_lent : {I A : Type 0} (same : A → A → Bool) (reads : List ℕ → Option A) (held : Option Texts)
    (of_standard : I → Option (List ℕ)) (input : I)
    (standard : Option I) (name : Option (List ℕ)) (values : Option (List A)) → IsThereOrRead input standard → IsThereForList name standard
    → ReadsList same reads held (standard_left of_standard standard) name values → ReadsList same reads held (of_standard input) name values
listed_lent same reads held of_standard input standard None values lent there h = h
listed_lent same reads held of_standard input standard (Some name) values lent there h = (
  h.0,
  (
    h.1.0,
    read_lent (is_standard (Some name)) held of_standard input standard name (λ text. all_read reads (entries_in text) ≡ h.0) lent there
        h.1.1,
  ),
  h.2,
)

-- so is what its text says
pub said_by : {A : Type 0} (same : A → A → Bool) (reads : List ℕ → Option A) (held : Option Texts) (standard : Option (List ℕ))
    (name bytes : List ℕ) (values : List A) (text : List ℕ) → ReadsText held standard name bytes → SaysText same reads bytes values
    → text ≡ bytes → ReadsSaid same reads held standard (Some name) (Some values) (Some text)
unfolding listed_so
said_by same reads held standard name bytes values text r s is =
    let h = listed_so same reads held standard name bytes values r s in
    record {
      listed = h.0;
      by_name = h.1;
      once = h.2;
      said = ap (λ (t : List ℕ). all_read reads (entries_in t)) is ∙ s.1;
    }

pub said_lent : {I A : Type 0} (same : A → A → Bool) (reads : List ℕ → Option A) (held : Option Texts)
    (of_standard : I → Option (List ℕ)) (input : I) (standard : Option I) (name : Option (List ℕ)) (values : Option (List A))
    (text : Option (List ℕ)) → IsThereOrRead input standard → IsThereForList name standard
    → ReadsSaid same reads held (standard_left of_standard standard) name values text
    → ReadsSaid same reads held (of_standard input) name values text
said_lent same reads held of_standard input standard name values text lent there h =
    record { listed = h.listed; by_name = by name there h.by_name; once = h.once; said = h.said } where
      by : (name : Option (List ℕ)) → IsThereForList name standard → IsListed reads held (standard_left of_standard standard) name h.listed
          → IsListed reads held (of_standard input) name h.listed
      by None there k = k
      by (Some n) there k = (
        k.0,
        read_lent (is_standard (Some n)) held of_standard input standard n (λ text. all_read reads (entries_in text) ≡ h.listed) lent there k.1,
      )

-- so it has what it had, where it is read
pub left_named : {I : Type 0} (of_standard : I → Option (List ℕ)) (standard : I) (first : Option I) (works places : Option (List ℕ))
    (now : Option I) (held : Option Texts) (name left : Option (List ℕ)) → IsThereOrRead standard first
    → now ≡ standard_after_list places (standard_after_list works first) → IsThereFor (is_standard name) now → IsLeftOf held (standard_left of_standard now) name left
    → IsLeftOf held (of_standard standard) name left
left_named {I} of_standard standard first works places now held name left begun is there h =
    by name there h where
      lent : IsThereOrRead standard now
      lent = subst (λ (o : Option I). IsThereOrRead standard o) (sym is) (lists_lent works places standard first begun)

      alone : (o : Option I) → IsThereOrRead standard o → IsSome o → left ≡ standard_left of_standard o → left ≡ of_standard standard
      alone None l t e = absurd (true≢false (sym t))
      alone (Some other) l t e =
          elim l [
            | inl same ↦ e ∙ ap (λ (o : Option I). standard_left of_standard o) same
            | inr none ↦ absurd (none-some other (sym none))
          ]

      by : (word : Option (List ℕ)) → IsThereFor (is_standard word) now → IsLeftOf held (standard_left of_standard now) word left
          → IsLeftOf held (of_standard standard) word left
      by None t k = alone now lent t k
      by (Some word) t k = left_lent (is_standard (Some word)) held of_standard standard now word left lent t k

-- ---- the lists, each value of which is kept once

number_same : (t : List RecordValue) (listed values : Option (List (List ℕ))) → AreListedOnce bytes_eq listed values
    → option_map_or (λ list. has_number list t) values true ≡ option_map_or (λ list. has_number list t) listed true
number_same t None None h = refl
number_same t None (Some ys) h = absurd h
number_same t (Some xs) None h = absurd h
number_same t (Some xs) (Some ys) h = h.members (number_cell t)

place_same : (group place : ℕ) (listed values : Option (List (ℕ × ℕ))) → AreListedOnce same_place listed values
    → option_map_or (λ list. has_place list group place) values true ≡ option_map_or (λ list. has_place list group place) listed true
place_same group place None None h = refl
place_same group place None (Some ys) h = absurd h
place_same group place (Some xs) None h = absurd h
place_same group place (Some xs) (Some ys) h = h.members (group, place)

pub listed_same : (others : Bool) (numbers of_works : Option (List (List ℕ))) (places of_places answered : Option (List (ℕ × ℕ)))
    (kinds : Option ByKind) (party : Option (List ℕ)) → AreListedOnce bytes_eq numbers of_works → AreListedOnce same_place places of_places
    → asked_choice others of_works of_places answered kinds party ≡ asked_choice others numbers places answered kinds party
listed_same others numbers of_works places of_places answered kinds party h k =
    fun_ext λ group. fun_ext λ place. fun_ext λ t.
    ap (λ (x : Bool). if others then not x else x)
    (ap₂ ◌&&◌ (number_same t numbers of_works h)
    (ap (λ (x : Bool). x && (option_map_or (λ list. has_place list group place) answered true && (option_map_or (λ by. has_kind by t) kinds true && option_map_or (λ number. has_party number t) party true)))
    (place_same group place places of_places k)))

from_some : (limits : Limits) (whole : Bool) (changes : Changes) (choice : Choice) (left : Option (List ℕ)) (text : List ℕ)
    → IsSelectionFrom limits whole changes choice left text
    → IfSome left (λ known. IsSelectionFrom limits whole changes choice (Some known) text)
from_some limits whole changes choice None text h = tt
from_some limits whole changes choice (Some known) text h = h

pub at_names : (s : Selection) (answered : Option (List (ℕ × ℕ))) (held : Option Texts) (standard : Option (List ℕ))
    (works : Option (List (List ℕ))) (places : Option (List (ℕ × ℕ))) (party : Option (List ℕ)) (left : Option (List ℕ)) (text : List ℕ)
    → ReadsList bytes_eq number_in held standard (option_map (λ name. name.now) s.works) works
    → ReadsList same_place place_in held standard (option_map (λ name. name.now) s.places) places
    → party ≡ option_map (λ number. significant number.now) s.party → IsLeftOf held standard (option_map (λ name. name.now) s.file) left
    → IsSelectionFrom s.limits s.wanted.whole s.changes (asked_choice s.others works places answered s.kinds party) left text
    → IsSelectionAt s answered held standard text
at_names s answered held standard works places party left text numbered placed who opened h =
    let asked : Option (List ℕ) = option_map (λ number. significant number.now) s.party in
    let choice : Choice = asked_choice s.others numbered.0 placed.0 answered s.kinds asked in
    let same : asked_choice s.others works places answered s.kinds party ≡ choice
    = listed_same s.others numbered.0 works placed.0 places answered s.kinds party numbered.2 placed.2
    ∙ ap (λ (p : Option (List ℕ)). asked_choice s.others numbered.0 placed.0 answered s.kinds p) who in
    record {
      numbers = numbered.0;
      places = placed.0;
      by_numbers = numbered.1;
      by_places = placed.1;
      of = if_read held standard (option_map (λ name. name.now) s.file) left
          (λ known. IsSelectionFrom s.limits s.wanted.whole s.changes choice (Some known) text) opened
          (subst (λ (c : Choice). IfSome left (λ known. IsSelectionFrom s.limits s.wanted.whole s.changes c (Some known) text)) same
          (from_some s.limits s.wanted.whole s.changes (asked_choice s.others works places answered s.kinds party) left text h));
    }

-- ---- where nothing changed

pub stopped_same : (out : Option (List ℕ)) (old failures : ℕ) (is : List ℕ → Type 0) (stop : Stop) (held after : Option Texts)
    → Turns held after Same → Turns held after (LeavesSelection out old failures is (Err stop))
stopped_same None old failures is stop held after h = h
stopped_same (Some out) old failures is stop held after h =
    turns_so held after (WritesOut out old failures is (Err stop)) _ (λ texts new k. inl k) (out_same out old failures is stop held after h)

pub refused_same : (out : Option (List ℕ)) (old failures : ℕ) (is : List ℕ → Type 0) (held after : Option Texts) → Turns held after Same
    → Turns held after (LeavesSelection out old failures is (Ok statuses.CommandLine))
refused_same None old failures is held after h = h
refused_same (Some out) old failures is held after h =
    turns_so held after Same _ (λ texts new same. inl (leaves_same out old failures texts new same)) h

-- ---- where the text is more than that

pub selected_as : (out : Option (List ℕ)) (old failures : ℕ) (is other : List ℕ → Type 0) (ending : Result Status Stop) (texts new : Texts)
    → ((text : List ℕ) → is text → other text) → LeavesSelection out old failures is ending texts new
    → LeavesSelection out old failures other ending texts new
selected_as None old failures is other ending texts new so h = h
selected_as (Some out) old failures is other ending texts new so h =
    elim h [
      | inl k ↦ inl (writes_as out old failures is other ending texts new so k)
      | inr k ↦ inr (k.0, (k.1.0, so k.1.0 k.1.1, k.1.2))
    ]

pub ends_as : (s : Selection) (answered : Option (List (ℕ × ℕ))) (held : Option Texts) (standard : Option (List ℕ)) (choice : Choice)
    (left : Option (List ℕ)) (ending : Result Status Stop)
    → ((text : List ℕ) → IsSelectionFrom s.limits s.wanted.whole s.changes choice left text → IsSelectionAt s answered held standard text)
    → EndsAsSelection s.limits s.wanted.whole s.changes choice left ending → EndsAsSelectionAt s answered held standard ending
ends_as s answered held standard choice left (Ok statuses.Good) so h = (h.0, so h.0 h.1)
ends_as s answered held standard choice left (Ok statuses.Refused) so h = tt
ends_as s answered held standard choice left (Ok statuses.CommandLine) so h = tt
ends_as s answered held standard choice left (Ok statuses.Fault) so h = h
ends_as s answered held standard choice left (Err stop) so h = tt

-- What is told of a selection is so by what the words name.
use Rattle.std.proofs.Common.{◌≡◌, ℕ, Bool, true, false, ◌||◌, List, [], ◌∷◌, ◌++◌, Option, Some, None, refl, sym, ap, subst, ◌∙◌, append_assoc, append-nil, inl, inr}
use Rattle.std.specs.Prelude.{IfSome, option_map, Result, Ok, Err}
use Rattle.std.specs.Io.KnownBytes.{Appends}
use Rattle.std.specs.Cmp.{IsEquivalence}
use Rattle.std.specs.List.{list_any}
use Rattle.std.specs.Str.{bytes_eq}
use Rattle.std.proofs.lemmas.List.Folds.{list_any-append}
use Rattle.cwr_select.specs.Format.Criteria.{significant}
use Rattle.cwr_select.specs.Format.Selections.{Choice}
use Rattle.cwr_endings.specs.declared.endings.Status.{Status}
use Rattle.cwr_endings.specs.declared.endings.Status.TheVariants as statuses
use Rattle.cwr_endings.specs.declared.stops.Stop.{Stop}
use Rattle.cwr_files.specs.Format.Files.{Texts}
use Rattle.cwr_files.specs.Steps.Inputs.{IsLeftOf}
use Rattle.cwr_files.proofs.lemmas.Reads.{if_read}
use Rattle.cwr_transform.specs.declared.selections.Lists.{Lists}
use Rattle.cwr_transform.specs.declared.selections.Selection.{Selection}
use Rattle.cwr_transform.specs.Format.Lists.{number_in, place_in}
use Rattle.cwr_transform.specs.Format.Missing.{same_place}
use Rattle.cwr_transform.specs.Format.Selections.{Asking, asked_choice, asking_of, other_moment}
use Rattle.cwr_transform.specs.Format.SelectionsTold.{IsSelectionTold, IsSelectionToldAt, TellsSelectionAt, TellsSelectionOut}
use Rattle.cwr_transform.specs.Steps.Lists.{AreListedOnce, HasOnce, ReadsSaid}
use Rattle.cwr_transform.specs.Steps.Selections.{ListsSay}
use Rattle.cwr_transform.specs.Steps.TellingLists.{AreAllIn, AreIn}
use Rattle.cwr_transform.proofs.lemmas.SelectionsNamed.{listed_same}
use Rattle.cwr_transform.proofs.lemmas.SoughtValues.{bytes_equiv, place_equiv}

-- ---- each value of a list is sought

module _ {A : Type 0} (same : A → A → Bool) (e : IsEquivalence same) where
  found_itself : (before xs : List A) (x : A) → list_any (λ y. same y x) (before ++ x ∷ xs) ≡ true
  found_itself before xs x =
      list_any-append (λ y. same y x) before (x ∷ xs)
      ∙ ap (λ (b : Bool). list_any (λ y. same y x) before || (b || list_any (λ y. same y x) xs)) (e.refl x)
      ∙ or_true (list_any (λ y. same y x) before)
    where
      or_true : (b : Bool) → (b || true) ≡ true
      or_true true = refl
      or_true false = refl

  are_in : (before xs values : List A) → HasOnce same (before ++ xs) values → AreIn same values xs
  are_in before [] values h = tt
  are_in before (x ∷ xs) values h = (
    h.members x ∙ found_itself before xs x,
    are_in (before ++ x ∷ []) xs values (subst (λ (l : List A). HasOnce same l values) (sym (append_assoc before (x ∷ []) xs)) h),
  )

  all_in : (listed values : Option (List A)) → AreListedOnce same listed values → AreAllIn same values listed
  all_in None None h = tt
  all_in None (Some values) h = absurd h
  all_in (Some listed) None h = absurd h
  all_in (Some listed) (Some values) h = are_in [] listed values h

pub lists_say : (lists : Lists) (held : Option Texts) (standard : Option (List ℕ)) (works places : Option (List ℕ))
    (n : ReadsSaid bytes_eq number_in held standard works (option_map (λ l. l.values) lists.works) (option_map (λ l. l.text.items) lists.works))
    (p : ReadsSaid same_place place_in held standard places (option_map (λ l. l.values) lists.places) (option_map (λ l. l.text.items) lists.places))
    → ListsSay n.listed p.listed lists (option_map (λ l. l.values) lists.works) (option_map (λ l. l.values) lists.places)
lists_say lists held standard works places n p = record {
  numbers_say = n.said;
  places_say = p.said;
  numbers_in = all_in bytes_eq bytes_equiv n.listed (option_map (λ l. l.values) lists.works) n.once;
  places_in = all_in same_place place_equiv p.listed (option_map (λ l. l.values) lists.places) p.once;
}

-- ---- by what the words name

module _ (s : Selection) (answered : Option (List (ℕ × ℕ))) (held : Option Texts) (standard old new : Option (List ℕ)) where
  abbrev Asks : Choice → Option (List (List ℕ)) → Option (List (ℕ × ℕ)) → Asking
  Asks choice numbers places = record {
    limits = s.limits;
    wanted = s.wanted;
    moment = other_moment (option_map (λ name. name.now) s.out) s.changes;
    choice = choice;
    numbers = numbers;
    places = places;
  }

  module _ (works : Option (List (List ℕ))) (places : Option (List (ℕ × ℕ))) (party : Option (List ℕ)) (left : Option (List ℕ))
      (of_works of_places : Option (List ℕ))
      (n : ReadsSaid bytes_eq number_in held standard (option_map (λ name. name.now) s.works) works of_works)
      (p : ReadsSaid same_place place_in held standard (option_map (λ name. name.now) s.places) places of_places)
      (who : party ≡ option_map (λ number. significant number.now) s.party)
      (opened : IsLeftOf held standard (option_map (λ name. name.now) s.file) left) where
    same_choice : asked_choice s.others works places answered s.kinds party
        ≡ asked_choice s.others n.listed p.listed answered s.kinds (option_map (λ number. significant number.now) s.party)
    same_choice =
        listed_same s.others n.listed works p.listed places answered s.kinds party n.once p.once
        ∙ ap (λ (o : Option (List ℕ)). asked_choice s.others n.listed p.listed answered s.kinds o) who

    at_text : IfSome left (λ text. (told : List ℕ)
        × IsSelectionTold (Asks (asked_choice s.others works places answered s.kinds party) n.listed p.listed) text told × Appends old new told)
        → IsSelectionToldAt s answered held standard old new
    at_text h = record {
      numbers = n.listed;
      places = p.listed;
      by_numbers = n.by_name;
      by_places = p.by_name;
      of = if_read held standard (option_map (λ name. name.now) s.file) left
          (λ text. (told : List ℕ) × IsSelectionTold (asking_of s answered n.listed p.listed) text told × Appends old new told) opened
          (subst (λ (c : Choice). IfSome left (λ text. (told : List ℕ) × IsSelectionTold (Asks c n.listed p.listed) text told
          × Appends old new told)) same_choice h);
    }

    pub told_named : (out : Option (List ℕ)) (ending : Result Status Stop)
        → TellsSelectionOut out (Asks (asked_choice s.others works places answered s.kinds party) n.listed p.listed) left old new ending
        → TellsSelectionAt s answered held standard out old new ending
    told_named None ending h = tt
    told_named (Some out) (Ok statuses.Good) h = at_text h
    told_named (Some out) (Ok statuses.Refused) h = at_text h
    told_named (Some out) (Ok statuses.CommandLine) h = inl (at_text h)
    told_named (Some out) (Ok statuses.Fault) h = at_text h
    told_named (Some out) (Err stop) h = tt

  -- a run that was stopped
  pub stopped_told : (out : Option (List ℕ)) (stop : Stop) → TellsSelectionAt s answered held standard out old new (Err stop)
  stopped_told None stop = tt
  stopped_told (Some out) stop = tt

nothing_added : (x : Option (List ℕ)) → Appends x x []
nothing_added None = tt
nothing_added (Some bytes) = sym (append-nil bytes)

-- words that ask for nothing
pub nothing_told : (s : Selection) (answered : Option (List (ℕ × ℕ))) (held : Option Texts) (standard old : Option (List ℕ))
    (out : Option (List ℕ)) → TellsSelectionAt s answered held standard out old old (Ok statuses.CommandLine)
nothing_told s answered held standard old None = tt
nothing_told s answered held standard old (Some out) = inr (nothing_added old)

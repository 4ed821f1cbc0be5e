use Rattle.std.proofs.Common.{ℕ, List, [], Option, sym, subst, ◌∙◌}
use Rattle.std.specs.Str.{bytes_eq}
use Rattle.cwr_select.specs.Format.Selections.{Choice}
use Rattle.cwr_files.specs.Format.Files.{Turns}
use Rattle.cwr_files.specs.Steps.Inputs.{remaining_of}
use Rattle.std.specs.Prelude.{option_map}
use Rattle.cwr_transform.specs.Format.Selections.{EndsAsSelection, IsSelectionFrom, LeavesSelection, other_moment}
use Rattle.cwr_transform.specs.Format.SelectionsTold.{TellsSelectionOut}
use Rattle.cwr_transform.specs.Steps.Selections.{ListsSay}
use Rattle.cwr_transform.specs.Format.Missing.{same_place}
use Rattle.cwr_transform.specs.Steps.Sought.{AreOnce, places_sought}
use Rattle.cwr_transform.proofs.lemmas.SelectionStatuses.{asked_listed}
use Rattle.cwr_transform.proofs.lemmas.SelectionsNamed.{asked_same}
use Rattle.cwr_transform.proofs.lemmas.SoughtValues.{noted_so, numbers_listed, places_listed}
use Rattle.cwr_transform.proofs.selections.select_input.Goals as goal

pub returns-clause-ends : goal.returns-clause-ends
returns-clause-ends g c =
    subst
    (λ (choice : Choice). EndsAsSelection c.args.selection.now.limits c.args.selection.now.wanted.whole c.args.selection.now.changes choice
    (remaining_of g.S.Reader.Read.remaining g.I.Read.remaining c.args.input) c.select_by-answer.result.1)
    (asked_same (λ by. by.0.now) (λ by. by.0.now) _ _ _ _ _ _ _ _ _ _ _ _ c.asked_for-choice.ensures.works c.asked_for-choice.ensures.places
    c.asked_for-choice.ensures.answered c.asked_for-choice.ensures.kinds c.asked_for-choice.ensures.party c.asked_for-choice.ensures.others) c.select_by-answer.ensures.ends

pub returns-clause-files : goal.returns-clause-files
returns-clause-files g c =
    λ none.
    subst
    (λ (choice : Choice). Turns (g.S.Store.held c.args.store.now) (g.S.Store.held c.select_by-answer.new.store)
    (LeavesSelection (option_map (λ name. name.now) c.args.selection.now.out) (g.S.Store.failures c.args.store.now)
    (g.S.Store.failures c.select_by-answer.new.store)
    (IsSelectionFrom c.args.selection.now.limits c.args.selection.now.wanted.whole c.args.selection.now.changes choice
    (remaining_of g.S.Reader.Read.remaining g.I.Read.remaining c.args.input)) c.select_by-answer.result.1))
    (asked_same (λ by. by.0.now) (λ by. by.0.now) _ _ _ _ _ _ _ _ _ _ _ _ c.asked_for-choice.ensures.works c.asked_for-choice.ensures.places
    c.asked_for-choice.ensures.answered c.asked_for-choice.ensures.kinds c.asked_for-choice.ensures.party c.asked_for-choice.ensures.others)
    (c.select_by-answer.ensures.files none)

pub new-requires-clause-numbers : goal.new-requires-clause-numbers
new-requires-clause-numbers g c =
    subst (λ (l : Option (List (List ℕ))). AreOnce bytes_eq l) (sym c.listed_in.ensures) c.requires.works

pub new-requires-clause-places : goal.new-requires-clause-places
new-requires-clause-places g c =
    subst (λ (l : Option (List (ℕ × ℕ))). AreOnce same_place l) (sym c.listed_in-2.ensures) c.requires.places

pub select_by-answer-requires : goal.select_by-answer-requires
select_by-answer-requires g c =
    noted_so _ _ 0 0 [] c.in-Ok.sought c.in-Ok.ensures.numbers c.in-Ok.ensures.places c.in-Ok.ensures.found

pub returns-clause-status : goal.returns-clause-status
returns-clause-status g c =
    asked_listed c.args.selection.now.limits c.args.selection.now.wanted _ _ _ _ _ _ _
    (asked_same (λ by. by.0.now) (λ by. by.0.now) _ _ _ _ _ _ _ _ _ _ _ _ c.asked_for-choice.ensures.works c.asked_for-choice.ensures.places
    c.asked_for-choice.ensures.answered c.asked_for-choice.ensures.kinds c.asked_for-choice.ensures.party c.asked_for-choice.ensures.others)
    (numbers_listed _ [] c.in-Ok.sought.numbers c.in-Ok.ensures.numbers ∙ c.listed_in.ensures)
    (places_listed _ [] c.in-Ok.sought.places c.in-Ok.ensures.places ∙ c.listed_in-2.ensures) _ _ c.select_by-answer.ensures.status

pub returns-clause-told : goal.returns-clause-told
returns-clause-told g c = λ numbers places say.
    let s = c.args.selection.now in
    let out : Option (List ℕ) = option_map (λ name. name.now) s.out in
    subst
    (λ (choice : Choice). TellsSelectionOut out (record {
      limits = s.limits;
      wanted = s.wanted;
      moment = other_moment out s.changes;
      choice = choice;
      numbers = numbers;
      places = places;
    }) (remaining_of g.S.Reader.Read.remaining g.I.Read.remaining c.args.input) (g.W.Target.contents c.args.output)
    (g.W.Target.contents c.select_by-answer.result.0) c.select_by-answer.result.1)
    (asked_same (λ by. by.0.now) (λ by. by.0.now) _ _ _ _ _ _ _ _ _ _ _ _ c.asked_for-choice.ensures.works c.asked_for-choice.ensures.places
    c.asked_for-choice.ensures.answered c.asked_for-choice.ensures.kinds c.asked_for-choice.ensures.party c.asked_for-choice.ensures.others)
    (c.select_by-answer.ensures.told numbers places
    (subst (λ (l : Option (List (List ℕ))). ListsSay numbers places c.args.lists.now l (places_sought c.in-Ok.sought))
    (sym (numbers_listed _ [] c.in-Ok.sought.numbers c.in-Ok.ensures.numbers ∙ c.listed_in.ensures))
    (subst (λ (l : Option (List (ℕ × ℕ))). ListsSay numbers places c.args.lists.now (option_map (λ l. l.values) c.args.lists.now.works) l)
    (sym (places_listed _ [] c.in-Ok.sought.places c.in-Ok.ensures.places ∙ c.listed_in-2.ensures)) say)))

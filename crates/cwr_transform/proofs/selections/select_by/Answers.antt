use Rattle.std.proofs.Common.{Bor, ℕ, List, Option, ap, subst, sym}
use Rattle.std.specs.Prelude.{option_map}
use Rattle.cwr_files.specs.Steps.Inputs.{remaining_of}
use Rattle.cwr_transform.specs.declared.sought.Sought.{Sought}
use Rattle.cwr_transform.specs.Format.Selections.{Asking, other_moment}
use Rattle.cwr_transform.specs.Format.SelectionsTold.{TellsSelection, TellsSelectionOut}
use Rattle.cwr_transform.specs.Steps.Selections.{ListsSay, asking_with}
use Rattle.cwr_transform.specs.Steps.Sought.{numbers_sought, places_sought}
use Rattle.cwr_transform.proofs.lemmas.SelectionStatuses.{asked_so}
use Rattle.cwr_transform.proofs.selections.select_by.Goals as goal

pub returns-in-Some-clause-told : goal.returns-in-Some-clause-told
returns-in-Some-clause-told g c = λ numbers places say.
    let s = c.args.selection.now in
    let left : Option (List ℕ) = remaining_of g.S.Reader.Read.remaining g.I.Read.remaining c.args.input in
    let old : Option (List ℕ) = g.W.Target.contents c.args.output in
    let new : Option (List ℕ) = g.W.Target.contents c.select_to_file.result.0 in
    subst
    (λ (o : Option (Bor (List ℕ))). TellsSelectionOut (option_map (λ name. name.now) o) (record {
      limits = s.limits;
      wanted = s.wanted;
      moment = other_moment (option_map (λ name. name.now) o) s.changes;
      choice = g.C.Chooses.choice c.args.choice.now;
      numbers = numbers;
      places = places;
    }) left old new c.select_to_file.result.1)
    (sym c.in-Some.is)
    (subst (λ (a : Asking). TellsSelection (asking_with a numbers places) left old new c.select_to_file.result.1)
    (asked_so s.limits s.wanted g.C.Chooses.choice c.new-view.result c.args.choice.now s.changes.created c.args.sought
    (ap (λ b. b.now) c.new-view.ensures.choice) c.new-view.ensures.created c.new-view.ensures.sought)
    (c.select_to_file.ensures.told numbers places
    (subst (λ (it : Sought). ListsSay numbers places c.args.lists.now (numbers_sought it) (places_sought it)) (sym c.new-view.ensures.sought)
    say)))

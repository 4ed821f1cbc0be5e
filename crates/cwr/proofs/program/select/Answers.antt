use Rattle.std.proofs.Common.{◌≡◌, ℕ, List, Option, inl, inr, refl, subst, ◌∙◌}
use Rattle.std.specs.Prelude.{option_map}
use Rattle.cwr_files.specs.Format.Files.{Texts, Turns}
use Rattle.cwr_endings.specs.declared.stops.Stop.TheVariants as stops
use Rattle.cwr_endings.proofs.lemmas.Outs.{stays, turns_so, writes_on}
use Rattle.cwr_transform.specs.declared.selections.Selection.{Selection}
use Rattle.cwr_transform.specs.Format.Selections.{EndsAsSelectionAt, HasSelectStatusAt, IsApart, IsSelectionAt, LeavesSelection, words_read}
use Rattle.cwr_transform.specs.Format.SelectionsTold.{HandsOnSelection, TellsSelectionAt}
use Rattle.cwr_transform.proofs.lemmas.SelectionsNamed.{selected_as, stopped_same}
use Rattle.cwr.specs.Format.Selected.{AreAnsweredBy, IsSelectedBy}
use Rattle.cwr.specs.Format.Tables.{selection_of}
use Rattle.cwr.proofs.lemmas.Selecting.{ends_well, selected_status, selecting_since, unsought_same}
use Rattle.cwr.proofs.lemmas.ApartNamed.{both_apart, unsought_apart}
use Rattle.cwr.proofs.lemmas.SelectingTold.{handed_asked, told_asked, told_unsought}
use Rattle.cwr.proofs.program.select.Goals as goal

pub returns-clause-ends : goal.returns-clause-ends
returns-clause-ends g c =
    let s : Selection = selection_of c.args.task.now.limits c.args.task.now.whole c.args.words.now in
    let held : Option Texts = g.S.Store.held c.args.store.now in
    let standard : Option (List ℕ) = g.I.Read.remaining c.args.standard in
    let places : Option (List (ℕ × ℕ)) = c.in-Ok.answered in
    let answered : AreAnsweredBy c.args.task.now.limits (option_map (λ name. name.now) c.args.words.now.file) c.args.words.now.answered held standard
    places = subst (λ (h : Option Texts). AreAnsweredBy c.args.task.now.limits (option_map (λ name. name.now) c.args.words.now.file)
    c.args.words.now.answered h standard places) c.refuse_answers.ensures.kept
    (c.in-Ok.ensures.answered c.args.standard (inl refl)) in
    let limits = c.args.task.now.limits in
    let whole = c.args.task.now.whole in
    let words = c.args.words.now in (
      ends_well s places held standard (IsSelectedBy limits whole words held standard) c.select_file.result.1
          (λ text h. record { places = places; answered = answered; of = h })
          (subst (λ (s : Selection). EndsAsSelectionAt s places held standard c.select_file.result.1) c.selection_by-selection.ensures
          (subst (λ (h : Option Texts). EndsAsSelectionAt c.selection_by-selection.result places h standard c.select_file.result.1)
          (c.answered_by.ensures.kept ∙ c.refuse_answers.ensures.kept)
          (subst (λ (p : Option (List (ℕ × ℕ))). EndsAsSelectionAt c.selection_by-selection.result p
          (g.S.Store.held c.answered_by.new.store) standard c.select_file.result.1) c.by_places.ensures
          (c.select_file.ensures.ends c.args.standard (c.answered_by.ensures.standard c.args.standard (inl refl)))))),
      selected_status limits whole words held standard places c.select_file.result.1 answered
          (subst (λ (s : Selection). HasSelectStatusAt s places held standard c.select_file.result.1) c.selection_by-selection.ensures
          (subst (λ (h : Option Texts). HasSelectStatusAt c.selection_by-selection.result places h standard c.select_file.result.1)
          (c.answered_by.ensures.kept ∙ c.refuse_answers.ensures.kept)
          (subst (λ (p : Option (List (ℕ × ℕ))). HasSelectStatusAt c.selection_by-selection.result p
          (g.S.Store.held c.answered_by.new.store) standard c.select_file.result.1) c.by_places.ensures
          (c.select_file.ensures.status c.args.standard (c.answered_by.ensures.standard c.args.standard (inl refl)))))),
      both_apart limits whole words held c.select_file.result.1
          (subst (λ (s : Selection). IsApart (option_map (λ name. name.now) s.out) (words_read s) held c.select_file.result.1)
          c.selection_by-selection.ensures
          (subst (λ (h : Option Texts). IsApart (option_map (λ name. name.now) c.selection_by-selection.result.out)
          (words_read c.selection_by-selection.result) h c.select_file.result.1)
          (c.answered_by.ensures.kept ∙ c.refuse_answers.ensures.kept) c.select_file.ensures.apart))
          c.in_default.ensures.apart,
    )

pub returns-in-Err-Refused-clause-ends : goal.returns-in-Err-Refused-clause-ends
returns-in-Err-Refused-clause-ends g c = (
  tt,
  inr (c.in-Err-Refused.ensures.asked, refl),
  unsought_apart c.args.task.now.limits c.args.task.now.whole c.args.words.now (g.S.Store.held c.args.store.now) c.in-Err-Refused.ensures.asked
      c.in_default.ensures.apart,
)

pub returns-clause-files : goal.returns-clause-files
returns-clause-files g c =
    λ none.
    let s0 = c.args.store.now in
    let s1 = c.refuse_answers.new.store in
    let s2 = c.answered_by.new.store in
    let s3 = c.select_file.new.store in
    let held : Option Texts = g.S.Store.held s0 in
    let standard : Option (List ℕ) = g.I.Read.remaining c.args.standard in
    let s : Selection = selection_of c.args.task.now.limits c.args.task.now.whole c.args.words.now in
    let out : Option (List ℕ) = option_map (λ name. name.now) c.args.words.now.out in
    let places : Option (List (ℕ × ℕ)) = c.in-Ok.answered in
    let answered : AreAnsweredBy c.args.task.now.limits (option_map (λ name. name.now) c.args.words.now.file) c.args.words.now.answered held standard
    places = subst (λ (h : Option Texts). AreAnsweredBy c.args.task.now.limits (option_map (λ name. name.now) c.args.words.now.file)
    c.args.words.now.answered h standard places) c.refuse_answers.ensures.kept
    (c.in-Ok.ensures.answered c.args.standard (inl refl)) in
    let is : List ℕ → Type 0 = IsSelectionAt s places held standard in
    let other : List ℕ → Type 0 = IsSelectedBy c.args.task.now.limits c.args.task.now.whole c.args.words.now held standard in
    let same : g.S.Store.held s2 ≡ held = c.answered_by.ensures.kept ∙ c.refuse_answers.ensures.kept in
    let left : Turns (g.S.Store.held s2) (g.S.Store.held s3)
    (LeavesSelection out (g.S.Store.failures s2) (g.S.Store.failures s3) is c.select_file.result.1)
    = subst (λ (s : Selection). Turns (g.S.Store.held s2) (g.S.Store.held s3)
    (LeavesSelection (option_map (λ name. name.now) s.out) (g.S.Store.failures s2) (g.S.Store.failures s3)
    (IsSelectionAt s places held standard) c.select_file.result.1)) c.selection_by-selection.ensures
    (subst (λ (h : Option Texts). Turns (g.S.Store.held s2) (g.S.Store.held s3)
    (LeavesSelection (option_map (λ name. name.now) c.selection_by-selection.result.out) (g.S.Store.failures s2) (g.S.Store.failures s3)
    (IsSelectionAt c.selection_by-selection.result places h standard) c.select_file.result.1)) same
    (subst (λ (p : Option (List (ℕ × ℕ))). Turns (g.S.Store.held s2) (g.S.Store.held s3)
    (LeavesSelection (option_map (λ name. name.now) c.selection_by-selection.result.out) (g.S.Store.failures s2) (g.S.Store.failures s3)
    (IsSelectionAt c.selection_by-selection.result p (g.S.Store.held s2) standard) c.select_file.result.1)) c.by_places.ensures
    (c.select_file.ensures.files (c.answered_by.ensures.making ∙ c.refuse_answers.ensures.making ∙ none) c.args.standard
    (c.answered_by.ensures.standard c.args.standard (inl refl))))) in
    writes_on held (g.S.Store.held s2) (g.S.Store.held s3) _ same
    (turns_so (g.S.Store.held s2) (g.S.Store.held s3) _ _
    (λ texts new h. selecting_since out (g.S.Store.failures s0) (g.S.Store.failures s1) (g.S.Store.failures s3) other c.select_file.result.1
    texts new c.refuse_answers.ensures.failures
    (subst (λ (n : ℕ). LeavesSelection out n (g.S.Store.failures s3) other c.select_file.result.1 texts new) c.in-Ok.ensures.failures
    (selected_as out (g.S.Store.failures s2) (g.S.Store.failures s3) is other c.select_file.result.1 texts new
    (λ text k. record { places = places; answered = answered; of = k }) h))) left)

pub returns-in-Err-clause-files : goal.returns-in-Err-clause-files
returns-in-Err-clause-files g c =
    λ none.
    stopped_same (option_map (λ name. name.now) c.args.words.now.out) _ _ _ (stops.Fault c.in-Err.fault) _ _
    (stays _ _ c.refuse_answers.ensures.kept)

pub returns-in-Err-Refused-clause-files : goal.returns-in-Err-Refused-clause-files
returns-in-Err-Refused-clause-files g c =
    λ none.
    unsought_same (option_map (λ name. name.now) c.args.words.now.out) _ _ _ _ _
    (stays _ _ (c.answered_by.ensures.kept ∙ c.refuse_answers.ensures.kept))

pub returns-in-Err-Fault-clause-files : goal.returns-in-Err-Fault-clause-files
returns-in-Err-Fault-clause-files g c =
    λ none.
    stopped_same (option_map (λ name. name.now) c.args.words.now.out) _ _ _ _
    (g.S.Store.held c.args.store.now) (g.S.Store.held c.answered_by.new.store)
    (stays (g.S.Store.held c.args.store.now) (g.S.Store.held c.answered_by.new.store) (c.answered_by.ensures.kept ∙ c.refuse_answers.ensures.kept))

pub returns-clause-told : goal.returns-clause-told
returns-clause-told g c =
    let limits = c.args.task.now.limits in
    let whole = c.args.task.now.whole in
    let words = c.args.words.now in
    let held : Option Texts = g.S.Store.held c.args.store.now in
    let standard : Option (List ℕ) = g.I.Read.remaining c.args.standard in
    let old : Option (List ℕ) = g.W.Target.contents c.args.output in
    let new : Option (List ℕ) = g.W.Target.contents c.select_file.result.0 in
    let places : Option (List (ℕ × ℕ)) = c.in-Ok.answered in
    let answered : AreAnsweredBy limits (option_map (λ name. name.now) words.file) words.answered held standard places
    = subst (λ (h : Option Texts). AreAnsweredBy limits (option_map (λ name. name.now) words.file) words.answered h standard places)
    c.refuse_answers.ensures.kept (c.in-Ok.ensures.answered c.args.standard (inl refl)) in
    told_asked limits whole words held standard old new places c.select_file.result.1 answered
    (subst (λ (s : Selection). TellsSelectionAt s places held standard (option_map (λ name. name.now) s.out) old new c.select_file.result.1)
    c.selection_by-selection.ensures
    (subst (λ (h : Option Texts). TellsSelectionAt c.selection_by-selection.result places h standard
    (option_map (λ name. name.now) c.selection_by-selection.result.out) old new c.select_file.result.1)
    (c.answered_by.ensures.kept ∙ c.refuse_answers.ensures.kept)
    (subst (λ (p : Option (List (ℕ × ℕ))). TellsSelectionAt c.selection_by-selection.result p (g.S.Store.held c.answered_by.new.store) standard
    (option_map (λ name. name.now) c.selection_by-selection.result.out) old new c.select_file.result.1) c.by_places.ensures
    (c.select_file.ensures.told c.args.standard (c.answered_by.ensures.standard c.args.standard (inl refl))))))

pub returns-in-Err-Refused-clause-told : goal.returns-in-Err-Refused-clause-told
returns-in-Err-Refused-clause-told g c = told_unsought c.args.words.now.answered _ c.in-Err-Refused.ensures.asked

pub returns-clause-handed_on : goal.returns-clause-handed_on
returns-clause-handed_on g c =
    handed_asked c.args.words.now.answered _
    (subst (λ (s : Selection). HandsOnSelection (option_map (λ name. name.now) s.out) c.select_file.result.1
    (g.W.Target.handed_on c.select_file.result.0)) c.selection_by-selection.ensures c.select_file.ensures.handed_on)

pub returns-in-Err-Refused-clause-handed_on : goal.returns-in-Err-Refused-clause-handed_on
returns-in-Err-Refused-clause-handed_on g c = told_unsought c.args.words.now.answered _ c.in-Err-Refused.ensures.asked

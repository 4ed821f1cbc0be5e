use Rattle.std.specs.Str.{bytes_eq}
use Rattle.cwr_transform.specs.Format.Lists.{number_in, place_in}
use Rattle.cwr_transform.specs.Format.Missing.{same_place}
use Rattle.cwr_transform.specs.Steps.Lists.{ReadsList, ReadsSaid, standard_after_list}
use Rattle.std.proofs.Common.{◌≡◌, ℕ, List, Option, inl, inr, subst, ◌∙◌}
use Rattle.std.specs.Prelude.{option_map}
use Rattle.cwr_files.specs.Format.Files.{Texts, Turns}
use Rattle.cwr_files.specs.Steps.Inputs.{IsLeftOf, remaining_of, standard_left}
use Rattle.cwr_endings.proofs.lemmas.Outs.{turns_so, writes_on}
use Rattle.cwr_transform.specs.Format.Selections.{IsSelectionAt, IsSelectionFrom, LeavesSelection, asked_choice}
use Rattle.cwr_transform.proofs.lemmas.SelectionsNamed.{after_lent, at_names, ends_as, left_named, listed_lent, said_lent, selected_as}
use Rattle.cwr_transform.proofs.lemmas.ToldNamed.{lists_say, told_named}
use Rattle.cwr_transform.proofs.lemmas.StatusesNamed.{no_line, no_list, status_at}
use Rattle.cwr_transform.proofs.selections.select_file.Goals as goal

pub returns-clause-ends : goal.returns-clause-ends
returns-clause-ends g c = λ input lent.
    let s = c.args.selection.now in
    let answered : Option (List (ℕ × ℕ)) = option_map (λ by. by.0.now) c.args.answered in
    let held : Option Texts = g.S.Store.held c.args.store.now in
    let standard : Option (List ℕ) = g.I.Read.remaining input in
    let left : Option (List ℕ) = remaining_of g.S.Reader.Read.remaining g.I.Read.remaining c.in-Ok-open_input.input in
    let file : Option (List ℕ) = option_map (λ name. name.now) s.file in
    let placed : ReadsList same_place place_in held standard (option_map (λ name. name.now) s.places)
    (option_map (λ list. list.values) c.in-Ok.lists.places)
    = listed_lent same_place place_in held g.I.Read.remaining input
    (standard_after_list (option_map (λ name. name.now) s.works) c.args.standard.now) (option_map (λ name. name.now) s.places)
    (option_map (λ list. list.values) c.in-Ok.lists.places)
    (after_lent (option_map (λ name. name.now) s.works) input c.args.standard.now lent) c.in-Ok.ensures.there
    c.in-Ok.ensures.places in
    let numbered : ReadsList bytes_eq number_in held standard (option_map (λ name. name.now) s.works)
    (option_map (λ list. list.values) c.in-Ok.lists.works)
    = listed_lent bytes_eq number_in held g.I.Read.remaining input c.args.standard.now (option_map (λ name. name.now) s.works)
    (option_map (λ list. list.values) c.in-Ok.lists.works) lent c.in-Ok.ensures.first c.in-Ok.ensures.works in
    let opened : IsLeftOf held standard file left
    = left_named g.I.Read.remaining input c.args.standard.now (option_map (λ name. name.now) s.works) (option_map (λ name. name.now) s.places)
    c.read_lists.new.standard held file left lent c.in-Ok.ensures.standard c.in-Ok-open_input.ensures.there
    (subst (λ (h : Option Texts). IsLeftOf h (standard_left g.I.Read.remaining c.read_lists.new.standard) file left) c.read_lists.ensures.kept
    c.in-Ok-open_input.ensures.left) in
    ends_as s answered held standard
    (asked_choice s.others (option_map (λ list. list.values) c.in-Ok.lists.works) (option_map (λ list. list.values) c.in-Ok.lists.places)
    answered s.kinds c.in-Some.party) left c.select_input.result.1
    (λ text h. at_names s answered held standard (option_map (λ list. list.values) c.in-Ok.lists.works)
    (option_map (λ list. list.values) c.in-Ok.lists.places) c.in-Some.party left text numbered placed c.in-Some.ensures.some opened h) c.select_input.ensures.ends

pub returns-clause-files : goal.returns-clause-files
returns-clause-files g c =
    λ none input lent.
    let s = c.args.selection.now in
    let answered : Option (List (ℕ × ℕ)) = option_map (λ by. by.0.now) c.args.answered in
    let s0 = c.args.store.now in
    let s2 = c.open_input.new.store in
    let s3 = c.select_input.new.store in
    let held : Option Texts = g.S.Store.held s0 in
    let standard : Option (List ℕ) = g.I.Read.remaining input in
    let left : Option (List ℕ) = remaining_of g.S.Reader.Read.remaining g.I.Read.remaining c.in-Ok-open_input.input in
    let file : Option (List ℕ) = option_map (λ name. name.now) s.file in
    let out : Option (List ℕ) = option_map (λ name. name.now) s.out in
    let choice = asked_choice s.others (option_map (λ list. list.values) c.in-Ok.lists.works)
    (option_map (λ list. list.values) c.in-Ok.lists.places) answered s.kinds c.in-Some.party in
    let is : List ℕ → Type 0 = IsSelectionFrom s.limits s.wanted.whole s.changes choice left in
    let other : List ℕ → Type 0 = IsSelectionAt s answered held standard in
    let placed : ReadsList same_place place_in held standard (option_map (λ name. name.now) s.places)
    (option_map (λ list. list.values) c.in-Ok.lists.places)
    = listed_lent same_place place_in held g.I.Read.remaining input
    (standard_after_list (option_map (λ name. name.now) s.works) c.args.standard.now) (option_map (λ name. name.now) s.places)
    (option_map (λ list. list.values) c.in-Ok.lists.places)
    (after_lent (option_map (λ name. name.now) s.works) input c.args.standard.now lent) c.in-Ok.ensures.there
    c.in-Ok.ensures.places in
    let numbered : ReadsList bytes_eq number_in held standard (option_map (λ name. name.now) s.works)
    (option_map (λ list. list.values) c.in-Ok.lists.works)
    = listed_lent bytes_eq number_in held g.I.Read.remaining input c.args.standard.now (option_map (λ name. name.now) s.works)
    (option_map (λ list. list.values) c.in-Ok.lists.works) lent c.in-Ok.ensures.first c.in-Ok.ensures.works in
    let opened : IsLeftOf held standard file left
    = left_named g.I.Read.remaining input c.args.standard.now (option_map (λ name. name.now) s.works) (option_map (λ name. name.now) s.places)
    c.read_lists.new.standard held file left lent c.in-Ok.ensures.standard c.in-Ok-open_input.ensures.there
    (subst (λ (h : Option Texts). IsLeftOf h (standard_left g.I.Read.remaining c.read_lists.new.standard) file left) c.read_lists.ensures.kept
    c.in-Ok-open_input.ensures.left) in
    let unfailed : g.S.Store.failures s2 ≡ g.S.Store.failures s0 = c.in-Ok-open_input.ensures.opened ∙ c.in-Ok.ensures.failures in
    writes_on held (g.S.Store.held s2) (g.S.Store.held s3) _ (c.open_input.ensures.kept ∙ c.read_lists.ensures.kept)
    (subst
    (λ (n : ℕ). Turns (g.S.Store.held s2) (g.S.Store.held s3) (LeavesSelection out n (g.S.Store.failures s3) other c.select_input.result.1))
    unfailed
    (turns_so (g.S.Store.held s2) (g.S.Store.held s3)
    (LeavesSelection out (g.S.Store.failures s2) (g.S.Store.failures s3) is c.select_input.result.1)
    (LeavesSelection out (g.S.Store.failures s2) (g.S.Store.failures s3) other c.select_input.result.1)
    (λ texts new h. selected_as out (g.S.Store.failures s2) (g.S.Store.failures s3) is other c.select_input.result.1 texts new
    (λ text k. at_names s answered held standard (option_map (λ list. list.values) c.in-Ok.lists.works)
    (option_map (λ list. list.values) c.in-Ok.lists.places) c.in-Some.party left text numbered placed c.in-Some.ensures.some opened k) h)
    (c.select_input.ensures.files (c.open_input.ensures.making ∙ c.read_lists.ensures.making ∙ none))))

pub returns-clause-status : goal.returns-clause-status
returns-clause-status g c = λ input lent.
    let s = c.args.selection.now in
    let answered : Option (List (ℕ × ℕ)) = option_map (λ by. by.0.now) c.args.answered in
    let held : Option Texts = g.S.Store.held c.args.store.now in
    let standard : Option (List ℕ) = g.I.Read.remaining input in
    let left : Option (List ℕ) = remaining_of g.S.Reader.Read.remaining g.I.Read.remaining c.in-Ok-open_input.input in
    let file : Option (List ℕ) = option_map (λ name. name.now) s.file in
    let placed : ReadsList same_place place_in held standard (option_map (λ name. name.now) s.places)
    (option_map (λ list. list.values) c.in-Ok.lists.places)
    = listed_lent same_place place_in held g.I.Read.remaining input
    (standard_after_list (option_map (λ name. name.now) s.works) c.args.standard.now) (option_map (λ name. name.now) s.places)
    (option_map (λ list. list.values) c.in-Ok.lists.places)
    (after_lent (option_map (λ name. name.now) s.works) input c.args.standard.now lent) c.in-Ok.ensures.there
    c.in-Ok.ensures.places in
    let numbered : ReadsList bytes_eq number_in held standard (option_map (λ name. name.now) s.works)
    (option_map (λ list. list.values) c.in-Ok.lists.works)
    = listed_lent bytes_eq number_in held g.I.Read.remaining input c.args.standard.now (option_map (λ name. name.now) s.works)
    (option_map (λ list. list.values) c.in-Ok.lists.works) lent c.in-Ok.ensures.first c.in-Ok.ensures.works in
    let opened : IsLeftOf held standard file left
    = left_named g.I.Read.remaining input c.args.standard.now (option_map (λ name. name.now) s.works) (option_map (λ name. name.now) s.places)
    c.read_lists.new.standard held file left lent c.in-Ok.ensures.standard c.in-Ok-open_input.ensures.there
    (subst (λ (h : Option Texts). IsLeftOf h (standard_left g.I.Read.remaining c.read_lists.new.standard) file left) c.read_lists.ensures.kept
    c.in-Ok-open_input.ensures.left) in
    status_at s answered held standard (option_map (λ list. list.values) c.in-Ok.lists.works)
    (option_map (λ list. list.values) c.in-Ok.lists.places) c.in-Some.party left c.select_input.result.1 numbered placed
    c.in-Some.ensures.some opened c.select_input.ensures.status

pub returns-in-Err-Line-clause-status : goal.returns-in-Err-Line-clause-status
returns-in-Err-Line-clause-status g c = λ input lent.
    let s = c.args.selection.now in
    let held : Option Texts = g.S.Store.held c.args.store.now in
    let works : Option (List ℕ) = option_map (λ name. name.now) s.works in
    let places : Option (List ℕ) = option_map (λ name. name.now) s.places in
    elim (no_line c.in-Err-Line.field-0 _ _ _ held _ _ works places _ _ c.in-Err-Line.field-0-is c.in-Err-Line.ensures.none) [
      | inl h ↦ inr (inr (inl (no_list number_in held g.I.Read.remaining input c.args.standard.now works lent h.0 h.1)))
      | inr h ↦ inr (inr (inr (no_list place_in held g.I.Read.remaining input (standard_after_list works c.args.standard.now) places
          (after_lent works input c.args.standard.now lent) h.0 h.1)))
    ]

pub returns-clause-told : goal.returns-clause-told
returns-clause-told g c = λ input lent.
    let s = c.args.selection.now in
    let answered : Option (List (ℕ × ℕ)) = option_map (λ by. by.0.now) c.args.answered in
    let held : Option Texts = g.S.Store.held c.args.store.now in
    let standard : Option (List ℕ) = g.I.Read.remaining input in
    let left : Option (List ℕ) = remaining_of g.S.Reader.Read.remaining g.I.Read.remaining c.in-Ok-open_input.input in
    let file : Option (List ℕ) = option_map (λ name. name.now) s.file in
    let lists = c.in-Ok.lists in
    let numbered : ReadsSaid bytes_eq number_in held standard (option_map (λ name. name.now) s.works)
    (option_map (λ list. list.values) lists.works) (option_map (λ l. l.text.items) lists.works)
    = said_lent bytes_eq number_in held g.I.Read.remaining input c.args.standard.now (option_map (λ name. name.now) s.works)
    (option_map (λ list. list.values) lists.works) (option_map (λ l. l.text.items) lists.works) lent c.in-Ok.ensures.first
    c.in-Ok.ensures.works_said in
    let placed : ReadsSaid same_place place_in held standard (option_map (λ name. name.now) s.places)
    (option_map (λ list. list.values) lists.places) (option_map (λ l. l.text.items) lists.places)
    = said_lent same_place place_in held g.I.Read.remaining input
    (standard_after_list (option_map (λ name. name.now) s.works) c.args.standard.now) (option_map (λ name. name.now) s.places)
    (option_map (λ list. list.values) lists.places) (option_map (λ l. l.text.items) lists.places)
    (after_lent (option_map (λ name. name.now) s.works) input c.args.standard.now lent) c.in-Ok.ensures.there
    c.in-Ok.ensures.places_said in
    let opened : IsLeftOf held standard file left
    = left_named g.I.Read.remaining input c.args.standard.now (option_map (λ name. name.now) s.works) (option_map (λ name. name.now) s.places)
    c.read_lists.new.standard held file left lent c.in-Ok.ensures.standard c.in-Ok-open_input.ensures.there
    (subst (λ (h : Option Texts). IsLeftOf h (standard_left g.I.Read.remaining c.read_lists.new.standard) file left) c.read_lists.ensures.kept
    c.in-Ok-open_input.ensures.left) in
    told_named s answered held standard (g.W.Target.contents c.args.output) (g.W.Target.contents c.select_input.result.0)
    (option_map (λ list. list.values) lists.works) (option_map (λ list. list.values) lists.places) c.in-Some.party left
    (option_map (λ l. l.text.items) lists.works) (option_map (λ l. l.text.items) lists.places) numbered placed c.in-Some.ensures.some opened
    (option_map (λ name. name.now) s.out) c.select_input.result.1
    (c.select_input.ensures.told numbered.listed placed.listed
    (lists_say lists held standard (option_map (λ name. name.now) s.works) (option_map (λ name. name.now) s.places) numbered placed))

use Rattle.std.proofs.Common.{Bor, List, Option, Some, None, map, refl, sym, subst, ℕ}
use Rattle.std.specs.Prelude.{option_map}
use Rattle.cwr_words.specs.declared.words.AnsweredWords.{AnsweredWords}
use Rattle.cwr_files.specs.Format.Files.{Texts}
use Rattle.cwr_answers.specs.Format.Answered.{AreAnswered}
use Rattle.cwr.specs.Format.Selected.{AreAnsweredBy}
use Rattle.cwr.proofs.program.answered_by.Goals as goal

pub returns-in-Ok-clause-answered : goal.returns-in-Ok-clause-answered
returns-in-Ok-clause-answered g c =
    λ input lent.
    let limits = c.args.task.now.limits in
    let held : Option Texts = g.S.Store.held c.args.store.now in
    let standard : Option (List ℕ) = g.I.Read.remaining input in
    let words : AnsweredWords = c.in-Some.answered in
    let found : List (ℕ × ℕ) = c.in-Ok.places.items in
    subst (λ (w : Option AnsweredWords). AreAnsweredBy limits (option_map (λ name. name.now) c.args.words.now.file) w held standard
    (Some c.new.result)) (sym c.in-Some.is) (
      found,
      c.new.result,
      refl,
      c.new.ensures,
      subst (λ (name : List ℕ). AreAnswered limits words.by_place words.states held standard name
          (map {A = Bor (List ℕ)} {B = List ℕ} (λ name. name.now) words.files.items) found) c.file_named.ensures
          (subst (λ (l : List (Bor (List ℕ))). AreAnswered limits words.by_place words.states held standard c.file_named.result.now
          (map {A = Bor (List ℕ)} {B = List ℕ} (λ name. name.now) l) found) c.as_slice.ensures.value (c.in-Ok.ensures.places input lent)),
    )

pub returns-in_default-clause-answered : goal.returns-in_default-clause-answered
returns-in_default-clause-answered g c =
    λ input lent. subst (λ (w : Option AnsweredWords). AreAnsweredBy c.args.task.now.limits (option_map (λ name. name.now) c.args.words.now.file) w
    (g.S.Store.held c.args.store.now) (g.I.Read.remaining input) None) (sym c.in_default.is) refl

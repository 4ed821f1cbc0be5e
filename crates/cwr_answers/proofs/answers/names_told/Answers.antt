use Rattle.std.proofs.Common.{List, [], ◌∷◌, ℕ, Vec, Global, map, sym, subst}
use Rattle.std.proofs.lemmas.List.{map-append}
use Rattle.cwr_answers.specs.Steps.Reading.{AreShown}
use Rattle.cwr_answers.proofs.lemmas.Kept.{shown_more}
use Rattle.cwr_answers.proofs.answers.names_told.Goals as goal

pub loop-name-preserved : goal.loop-name-preserved
loop-name-preserved c =
    let form = c.args.answering.now.form in
    let items = λ (name : Vec ℕ Global). name.items in
    subst (λ (l : List (Vec ℕ Global)). AreShown form (map items l)) (sym c.in-Ok-push.ensures.items)
    (subst (AreShown form) (sym (map-append items c.loop-name.names.items (c.in-Ok.told ∷ [])))
    (shown_more form (map items c.loop-name.names.items) c.in-Ok.told.items c.loop-name.invariant c.in-Ok.ensures.shown))

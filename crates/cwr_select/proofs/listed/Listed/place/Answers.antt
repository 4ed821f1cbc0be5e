use Rattle.std.proofs.Common.{◌≡◌, ◌<◌, List, length, true, sym, ap, subst, ◌∙◌}
use Rattle.std.specs.Prelude.{IsSorted, Ok, Err}
use Rattle.std.specs.List.{HoldsAt, list_any}
use Rattle.cwr_select.proofs.lemmas.FoundValues.{found, found_here}
use Rattle.cwr_select.proofs.listed.Listed.place.Goals as goal

pub returns-in-Ok-clause-some : goal.returns-in-Ok-clause-some
returns-in-Ok-clause-some g c =
    found g.T.Ord.cmp g.met.T.Ord.total g.T.PartialEq.eq (λ a b. sym (g.met.T.Ord.matches_eq a b)) c.deref.result.now
    c.args.value.now (Ok c.in-Ok.at)
    (subst (λ (l : List g.row.T.Denot). IsSorted g.T.Ord.cmp l) (sym c.deref.ensures.value) c.self.invariant)
    c.in-Ok.ensures.bound c.in-Ok.ensures.position
    ∙ ap (list_any (λ (y : g.row.T.Denot). g.T.PartialEq.eq y c.args.value.now)) (c.deref.ensures.value ∙ c.self.view_is)

pub returns-in-Ok-clause-within : goal.returns-in-Ok-clause-within
returns-in-Ok-clause-within g c =
    subst (λ (l : List g.row.T.Denot). c.in-Ok.at < length l) (c.deref.ensures.value ∙ c.self.view_is) c.in-Ok.ensures.bound

pub returns-in-Ok-clause-value : goal.returns-in-Ok-clause-value
returns-in-Ok-clause-value g c =
    subst (λ (l : List g.row.T.Denot). HoldsAt (λ y. g.T.PartialEq.eq y c.args.value.now ≡ true) l c.in-Ok.at)
    (c.deref.ensures.value ∙ c.self.view_is)
    (found_here g.T.Ord.cmp g.T.PartialEq.eq (λ a b. sym (g.met.T.Ord.matches_eq a b)) c.deref.result.now c.args.value.now
    c.in-Ok.at c.in-Ok.ensures.ok)

pub returns-in-Err-clause-some : goal.returns-in-Err-clause-some
returns-in-Err-clause-some g c =
    found g.T.Ord.cmp g.met.T.Ord.total g.T.PartialEq.eq (λ a b. sym (g.met.T.Ord.matches_eq a b)) c.deref.result.now
    c.args.value.now (Err c.in-Err.field-0)
    (subst (λ (l : List g.row.T.Denot). IsSorted g.T.Ord.cmp l) (sym c.deref.ensures.value) c.self.invariant)
    c.in-Err.ensures.bound c.in-Err.ensures.position
    ∙ ap (list_any (λ (y : g.row.T.Denot). g.T.PartialEq.eq y c.args.value.now)) (c.deref.ensures.value ∙ c.self.view_is)

use Rattle.std.proofs.Common.{Bool, ℕ, List, [], ◌∷◌, ◌++◌, sym, ap, subst, ◌∙◌, append_assoc}
use Rattle.std.specs.Prelude.{if◌then◌else◌}
use Rattle.cwr_devices.proofs.lemmas.Adding.{adds_as, adds_nothing}
use Rattle.cwr_transform.specs.Format.Missing.{same_place}
use Rattle.cwr_transform.specs.Format.Told.{missing_place}
use Rattle.cwr_transform.specs.Steps.Sought.{AreNoted}
use Rattle.cwr_transform.proofs.lemmas.ListsTold.{place_told}
use Rattle.cwr_transform.proofs.select_notes.tell_place.Goals as goal

pub returns-then-take-clause-told : goal.returns-then-take-clause-told
returns-then-take-clause-told g c = λ found before listed h.
    let place : ℕ × ℕ = c.args.place in (
      adds_as
          (sym (ap (λ (b : Bool). if b then missing_place place else []) (sym (c.take.ensures.first (found ++ before) listed h) ∙ c.if-take.true))
          ∙ place_told found before place) c.add_missing_place.ensures,
      subst (λ (l : List (ℕ × ℕ)). AreNoted same_place c.args.sought.now.listed.now c.take.new.self.found.items l)
          (append_assoc found before (place ∷ [])) (c.take.ensures.noted (found ++ before) h),
    )

pub returns-else-take-clause-told : goal.returns-else-take-clause-told
returns-else-take-clause-told g c = λ found before listed h.
    let place : ℕ × ℕ = c.args.place in (
      adds_as
          (sym (ap (λ (b : Bool). if b then missing_place place else []) (sym (c.take.ensures.first (found ++ before) listed h) ∙ c.if-take.false))
          ∙ place_told found before place) adds_nothing,
      subst (λ (l : List (ℕ × ℕ)). AreNoted same_place c.args.sought.now.listed.now c.take.new.self.found.items l)
          (append_assoc found before (place ∷ [])) (c.take.ensures.noted (found ++ before) h),
    )

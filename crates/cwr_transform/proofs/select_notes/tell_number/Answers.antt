use Rattle.std.proofs.Common.{◌≡◌, ◌<◌, ℕ, List, length, true, sym, ap, subst, ◌∙◌}
use Rattle.std.specs.List.{HoldsAt}
use Rattle.std.specs.Str.{bytes_eq}
use Rattle.cwr_devices.proofs.lemmas.Adding.{adds_as, adds_nothing}
use Rattle.cwr_transform.specs.Format.Told.{number_lines}
use Rattle.cwr_transform.specs.Steps.Sought.{places_found}
use Rattle.cwr_transform.specs.Steps.TellingLists.{AreLines}
use Rattle.cwr_transform.proofs.lemmas.ListsTold.{can_same, lines_same, once_again, once_first}
use Rattle.cwr_transform.proofs.select_notes.tell_number.Goals as goal

pub returns-in-Some-clause-told : goal.returns-in-Some-clause-told
returns-in-Some-clause-told g c = λ before lines can are listed h.
    let now = c.tell.new.self in
    let told = c.in-Some.ensures.told before listed h in
    let same : AreLines lines now = lines_same lines c.args.sought.now now c.tell.ensures.found are in (
      adds_as
          (ap (λ (n : List ℕ). number_lines n (places_found now c.in-Some.at)) c.trimmed.ensures
          ∙ same c.args.number.now c.in-Some.at
          (subst (λ (l : List (List ℕ)). c.in-Some.at < length l) (sym (ap (λ b. b.now) c.tell.ensures.found.listed)) c.in-Some.ensures.some.0)
          (subst (λ (l : List (List ℕ)). HoldsAt (λ y. bytes_eq y c.args.number.now ≡ true) l c.in-Some.at)
          (sym (ap (λ b. b.now) c.tell.ensures.found.listed)) c.in-Some.ensures.some.1)
          ∙ once_first bytes_eq lines before c.args.number.now told.0) (c.add_number.ensures (can_same c.args.sought.now now c.tell.ensures.found can)),
      told.1,
    )

pub returns-in-None-clause-told : goal.returns-in-None-clause-told
returns-in-None-clause-told g c = λ before lines can are listed h.
    let told = c.in-None.ensures.told before listed h in
    (adds_as (once_again bytes_eq lines before c.args.number.now told.0) adds_nothing, told.1)

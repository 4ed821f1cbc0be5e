use Rattle.std.proofs.Common.{List, Option, ℕ, subst, sym, rules}
use Rattle.cwr_devices.proofs.lemmas.Adding.{puts_added}
use Rattle.cwr_transform.specs.Format.Lists.{number_in, place_in}
use Rattle.cwr_transform.specs.Steps.Lists.{SayValues}
use Rattle.cwr_transform.proofs.selections.put_report.Goals as goal

pub returns : goal.returns
returns g c = λ numbers places ps say knows.
    let added =
    c.add_lines.ensures numbers places ps
    (subst (λ (t : Option (List ℕ)). SayValues number_in numbers t) (sym c.text_in-works.ensures) say.numbers_say)
    (subst (λ (t : Option (List ℕ)). SayValues place_in places t) (sym c.text_in-places.ensures) say.places_say)
    say.numbers_in say.places_in knows in
    search (rules, puts_added)

use Rattle.std.proofs.Common.{ℕ, List, Option, sym, ap, subst}
use Rattle.std.specs.Prelude.{IfSome, option_map}
use Rattle.cwr_devices.proofs.lemmas.Adding.{adds_as, adds_nothing}
use Rattle.cwr_transform.specs.declared.sought.SoughtPlaces.{SoughtPlaces}
use Rattle.cwr_transform.specs.Format.Lists.{place_in}
use Rattle.cwr_transform.specs.Format.Missing.{places_of, same_place}
use Rattle.cwr_transform.specs.Format.Told.{places_told, told_of}
use Rattle.cwr_transform.specs.Steps.Sought.{AreNoted}
use Rattle.cwr_transform.specs.Steps.TellingLists.{AreAllIn}
use Rattle.cwr_transform.proofs.lemmas.ListsTold.{IsSaid, said_so, told_unsaid, told_unsought}
use Rattle.cwr_transform.proofs.select_notes.add_places_if.Goals as goal

pub returns-in-None : goal.returns-in-None
returns-in-None g c = λ values ps say within known.
    adds_as (told_unsought same_place places_told values ps
    (subst (λ (o : Option SoughtPlaces). AreAllIn same_place (option_map (λ s. s.listed.now) o) values) c.in-None.is within)) adds_nothing

pub returns-in_default : goal.returns-in_default
returns-in_default g c = λ values ps say within known.
    adds_as (told_unsaid place_in places_told values ps (option_map (λ t. t.now) c.args.text) (ap (option_map (λ t. t.now)) c.in_default.is) say)
    adds_nothing

pub returns-in-Some-sought : goal.returns-in-Some-sought
returns-in-Some-sought g c = λ values ps say within known.
    let h : IsSaid place_in same_place values c.in-Some.text.now c.in-Some-sought.sought.listed.now =
    said_so place_in same_place values (option_map (λ t. t.now) c.args.text) c.in-Some.text.now c.in-Some-sought.sought.listed.now
    (ap (option_map (λ t. t.now)) c.in-Some.is) say
    (subst (λ (o : Option SoughtPlaces). AreAllIn same_place (option_map (λ s. s.listed.now) o) values) c.in-Some-sought.is within) in
    let k = subst (λ (o : Option SoughtPlaces). IfSome o (λ p. AreNoted same_place p.listed.now p.found.items (places_of ps))) c.in-Some-sought.is known in
    adds_as (sym (ap (λ (o : Option (List (ℕ × ℕ))). told_of places_told o ps) h.are))
    (c.add_places.ensures h.said (places_of ps) h.read h.within k)

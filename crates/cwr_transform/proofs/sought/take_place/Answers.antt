use Rattle.std.proofs.Common.{Option, subst}
use Rattle.cwr_transform.specs.declared.sought.SoughtPlaces.{SoughtPlaces}
use Rattle.cwr_transform.specs.Format.Missing.{Placed}
use Rattle.cwr_transform.specs.Steps.Sought.{NotesPlaces}
use Rattle.cwr_transform.proofs.lemmas.SoughtValues.{place_more}
use Rattle.cwr_transform.proofs.sought.take_place.Goals as goal

pub returns-in-Some : goal.returns-in-Some
returns-in-Some c = λ listed ps records h.
    let p : Placed = record { group = c.args.group; place = c.args.place; records = records } in
    place_more listed ps p c.in-Some.places c.take.new.self c.take.ensures.listed (λ xs k. c.take.ensures.noted xs k)
    (subst (λ (o : Option SoughtPlaces). NotesPlaces listed ps o) c.in-Some.is h)

use Rattle.std.proofs.Common.{Option, Some, subst}
use Rattle.cwr_transform.specs.declared.sought.SoughtNumbers.{SoughtNumbers}
use Rattle.cwr_transform.specs.Steps.Sought.{FindsNumbers, NotesNumbers}
use Rattle.cwr_transform.proofs.lemmas.FoundNumbers.{finds_group}
use Rattle.cwr_transform.proofs.lemmas.SoughtValues.{numbers_kept}
use Rattle.cwr_transform.proofs.sought.Sought.open_group.Goals as goal

pub returns-in-Some : goal.returns-in-Some
returns-in-Some c = λ numbers places group place ps h.
    let notes : NotesNumbers numbers ps (Some c.in-Some.numbers) =
    subst (λ (o : Option SoughtNumbers). NotesNumbers numbers ps o) c.in-Some.is h.numbers_are in
    record {
      numbers_are = numbers_kept numbers ps c.in-Some.numbers c.open_group.new.self c.open_group.ensures.listed c.open_group.ensures.noted notes;
      places_are = h.places_are;
      found = finds_group numbers group place ps c.in-Some.numbers c.open_group.new.self c.open_group.ensures.found notes
          (subst (λ (o : Option SoughtNumbers). FindsNumbers numbers group place ps o) c.in-Some.is h.found);
    }

use Rattle.std.proofs.Common.{Option, Some, subst}
use Rattle.cwr_transform.specs.declared.sought.SoughtNumbers.{SoughtNumbers}
use Rattle.cwr_transform.specs.Steps.Sought.{FindsNumbers, NotesNumbers}
use Rattle.cwr_transform.proofs.lemmas.FoundNumbers.{finds_still}
use Rattle.cwr_transform.proofs.lemmas.SoughtValues.{numbers_kept}
use Rattle.cwr_transform.proofs.sought.Sought.end.Goals as goal

pub returns-in-Some-clause-noted : goal.returns-in-Some-clause-noted
returns-in-Some-clause-noted c = λ numbers places group place ps h.
    let notes : NotesNumbers numbers ps (Some c.in-Some.numbers) =
    subst (λ (o : Option SoughtNumbers). NotesNumbers numbers ps o) c.in-Some.is h.numbers_are in
    record {
      numbers_are = numbers_kept numbers ps c.in-Some.numbers c.end.new.self c.end.ensures.listed c.end.ensures.noted notes;
      places_are = h.places_are;
      found = finds_still numbers group place ps c.in-Some.numbers c.end.new.self c.end.ensures.found notes
          (subst (λ (o : Option SoughtNumbers). FindsNumbers numbers group place ps o) c.in-Some.is h.found);
    }

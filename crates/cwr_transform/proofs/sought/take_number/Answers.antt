use Rattle.std.proofs.Common.{ℕ, List, Option, ◌++◌, ◌∷◌, [], ap, subst}
use Rattle.std.specs.Str.{bytes_eq}
use Rattle.cwr_transform.specs.declared.sought.SoughtNumbers.{SoughtNumbers}
use Rattle.cwr_transform.specs.Format.Missing.{Placed}
use Rattle.cwr_transform.specs.Steps.Sought.{AreNoted, FindsNumbers, NotesNumbers, noted_numbers}
use Rattle.cwr_transform.proofs.lemmas.FoundNumbers.{finds_more}
use Rattle.cwr_transform.proofs.lemmas.SoughtValues.{number_more}
use Rattle.cwr_transform.proofs.sought.take_number.Goals as goal

pub returns-in-Some-clause-notes : goal.returns-in-Some-clause-notes
returns-in-Some-clause-notes c = λ listed ps group place h.
    let p : Placed = record { group = group; place = place; records = c.args.transaction.now } in
    number_more listed ps p c.in-Some.numbers c.take.new.self c.take.ensures.listed
    (λ xs k. subst
    (λ (number : List ℕ). AreNoted bytes_eq c.in-Some.numbers.listed.now (noted_numbers c.take.new.self) (xs ++ number ∷ []))
    c.number_of.ensures (c.take.ensures.noted xs k))
    (subst (λ (o : Option SoughtNumbers). NotesNumbers listed ps o) c.in-Some.is h)

pub returns-in-Some-clause-found : goal.returns-in-Some-clause-found
returns-in-Some-clause-found c = λ listed ps group place notes h.
    let p : Placed = record { group = group; place = place; records = c.args.transaction.now } in
    finds_more listed ps p c.number_of.result c.in-Some.numbers c.take.new.self (ap (λ (n : List ℕ). n ∷ []) c.number_of.ensures)
    c.take.ensures.found (subst (λ (o : Option SoughtNumbers). NotesNumbers listed ps o) c.in-Some.is notes)
    (subst (λ (o : Option SoughtNumbers). FindsNumbers listed group place ps o) c.in-Some.is h)

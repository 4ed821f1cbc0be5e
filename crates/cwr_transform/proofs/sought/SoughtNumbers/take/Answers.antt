use Rattle.std.proofs.Common.{refl, Bool, List, ◌++◌, ◌∷◌, [], sym, subst}
use Rattle.std.specs.Str.{bytes_eq}
use Rattle.cwr_transform.specs.Steps.Sought.{AreNoted, noted_numbers}
use Rattle.cwr_transform.proofs.lemmas.FoundNumbers.{found_listed, found_unlisted}
use Rattle.cwr_transform.proofs.lemmas.SoughtValues.{bytes_equiv, found_more}
use Rattle.cwr_transform.proofs.sought.SoughtNumbers.take.Goals as goal

pub returns-in-Some-clause-noted : goal.returns-in-Some-clause-noted
returns-in-Some-clause-noted c = λ xs h.
    subst (λ (noted : List Bool). AreNoted bytes_eq c.args.self.now.listed.now noted (xs ++ c.args.number.now ∷ []))
    (sym c.note.ensures.noted)
    (found_more bytes_eq bytes_equiv c.args.self.now.listed.now (noted_numbers c.args.self.now) xs c.args.number.now c.in-Some.at
    c.in-Some.ensures.within c.in-Some.ensures.value h)

pub returns-in-Some-clause-found : goal.returns-in-Some-clause-found
returns-in-Some-clause-found c = λ xs places group place distinct h.
    found_listed c.args.self.now.listed.now xs places group place c.args.self.now c.note.new.self c.args.number.now c.in-Some.at
    c.saturating_add-self.result c.saturating_add-self.ensures c.note.ensures.count c.note.ensures.firsts c.note.ensures.further
    c.note.ensures.memory c.note.ensures.starts c.in-Some.ensures.within c.in-Some.ensures.value distinct h

pub returns-in-None-clause-found : goal.returns-in-None-clause-found
returns-in-None-clause-found c = λ xs places group place distinct h.
    found_unlisted c.args.self.now.listed.now xs places group place c.args.self.now
    (record c.args.self.now { count = c.saturating_add-self.result }) c.args.number.now c.saturating_add-self.ensures refl refl (λ kept. kept)
    refl (sym c.in-None.ensures.some) h

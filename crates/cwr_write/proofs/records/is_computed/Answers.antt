use Rattle.cwr_write.proofs.lemmas.KeysOfNames.{computed_derived, computed_none, never_there}
use Rattle.cwr_write.proofs.records.is_computed.Goals as goal

pub returns-in-Some-clause-none : goal.returns-in-Some-clause-none
returns-in-Some-clause-none c =
    λ d. computed_none c.args.kind c.args.j c.in-Some.place c.field.result c.field.ensures c.in-Some.is d

pub returns-in-Some-clause-derived : goal.returns-in-Some-clause-derived
returns-in-Some-clause-derived c =
    λ f at. computed_derived c.args.kind c.args.j c.in-Some.place c.field.result f c.field.ensures c.in-Some.is at

pub returns-in-None-clause-derived : goal.returns-in-None-clause-derived
returns-in-None-clause-derived c =
    λ f at. absurd (never_there c.args.kind c.args.j c.field.result f c.field.ensures c.in-None.is at)

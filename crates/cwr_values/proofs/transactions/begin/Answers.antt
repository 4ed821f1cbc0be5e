use Rattle.std.proofs.Common.{refl, sym, true≢false}
use Rattle.cwr_fields.specs.declared.codes.TransactionType.TheVariants.{NewWork, RevisedWork, Acknowledgement}
use Rattle.cwr_values.proofs.lemmas.Beginnings.{begins_none}
use Rattle.cwr_values.proofs.transactions.begin.Goals as goal

pub returns-in-Some-first-clause-some : goal.returns-in-Some-first-clause-some
returns-in-Some-first-clause-some c = let g = c.in-Some-first.ensures.some.0 refl in (λ t. (NewWork, g.0, g.1), λ b. refl)

pub returns-in-Some-first-2-clause-some : goal.returns-in-Some-first-2-clause-some
returns-in-Some-first-2-clause-some c = let g = c.in-Some-first-2.ensures.some.0 refl in (λ t. (RevisedWork, g.0, g.1), λ b. refl)

pub returns-in-Some-first-3-clause-some : goal.returns-in-Some-first-3-clause-some
returns-in-Some-first-3-clause-some c =
    let g = c.in-Some-first-3.ensures.some.0 refl in (λ t. (Acknowledgement, g.0, g.1), λ b. refl)

pub returns-in-None-clause-some : goal.returns-in-None-clause-some
returns-in-None-clause-some c = (
  λ t. absurd (true≢false (sym t)),
  λ b. absurd (begins_none c.args.symbol c.first.result c.first-2.result c.first-3.result c.first-4.result c.in_default.is
      c.in_default-first.is c.in_default-first-2.is c.in-None.is
      c.first.ensures.some c.first-2.ensures.some c.first-3.ensures.some c.first-4.ensures.some b),
)

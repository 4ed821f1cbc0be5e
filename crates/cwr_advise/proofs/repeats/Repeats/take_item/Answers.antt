use Rattle.std.proofs.Common.{ℕ, List, [], ◌∷◌, ◌++◌, sym, ap, subst, ◌∙◌}
use Rattle.std.specs.Prelude.{OnOk}
use Rattle.cwr_advise.specs.declared.repeats.Place.{Place}
use Rattle.cwr_advise.specs.Format.RepeatedWorks.{works_in}
use Rattle.cwr_advise.specs.Steps.KeptWorks.{AreKeptOf}
use Rattle.cwr_advise.proofs.lemmas.WorksKept.{number_is_wide, works_with, works_without}
use Rattle.cwr_advise.proofs.repeats.Repeats.take_item.Goals as goal

pub number_in-number-requires : goal.number_in-number-requires
number_in-number-requires c =
    number_is_wide c.args.item.now c.in-Some.header c.cell.result.now c.in-Some.ensures c.cell.ensures.value c.cell.ensures.fits

pub returns-in-Some-clause-kept : goal.returns-in-Some-clause-kept
returns-in-Some-clause-kept c = λ given counted h.
    let number = c.number_in-number.ensures ∙ c.cell.ensures.value in
    subst (λ (works : List (List ℕ × Place)). OnOk c.take_work.result (AreKeptOf c.take_work.new.self works))
    (ap (λ (place : Place). works_in given ++ (c.number_in-number.result, place) ∷ []) c.after.ensures
    ∙ works_with c.args.counts.now given c.args.item.now c.in-Some.header c.number_in-number.result counted
    (sym c.in-Some.ensures) number)
    (c.take_work.ensures.kept (works_in given) h)

pub returns-in-None-clause-kept : goal.returns-in-None-clause-kept
returns-in-None-clause-kept c =
    λ given counted h. subst (AreKeptOf c.args.self.now) (works_without given c.args.item.now (sym c.in-None.ensures)) h

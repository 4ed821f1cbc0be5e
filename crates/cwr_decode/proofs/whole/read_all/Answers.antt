use Rattle.std.proofs.Common.{Ok, sym, ◌∙◌}
use Rattle.cwr_decode.proofs.lemmas.ItemsMakeOneTransmission.{items_once}
use Rattle.cwr_decode.proofs.lemmas.ItemsReadSoFar.{all_items, all_taken, reports_accepted, reports_canonical, reports_stopped}
use Rattle.cwr_decode.proofs.lemmas.ItemsReadSoFar.{whole_lacks_room}
use Rattle.cwr_decode.proofs.whole.read_all.Goals as goal

pub collect-requires : goal.collect-requires
collect-requires g c = all_items c.args.limits _ _ c.in_ok-items.items.items c.in_ok-items.ensures.all

pub returns-in-Ok-clause-takes : goal.returns-in-Ok-clause-takes
returns-in-Ok-clause-takes g c =
    all_taken c.args.limits _ _ c.in_ok-items.items.items c.in-Ok.transmission c.in_ok-items.ensures.all
    (λ v whole given. items_once c.in-Ok.transmission v (sym c.in-Ok.ensures ∙ given))

pub returns-in-Ok-clause-accepted : goal.returns-in-Ok-clause-accepted
returns-in-Ok-clause-accepted g c =
    reports_accepted c.args.limits _ _ (Ok c.in-Ok.transmission) (returns-in-Ok-clause-takes g c) tt

pub returns-in-Ok-clause-canonical : goal.returns-in-Ok-clause-canonical
returns-in-Ok-clause-canonical g c =
    reports_canonical c.args.limits _ _ (Ok c.in-Ok.transmission)
    (reports_accepted c.args.limits _ _ (Ok c.in-Ok.transmission) (returns-in-Ok-clause-takes g c) tt)

pub returns-in_err-items-clause-accepted : goal.returns-in_err-items-clause-accepted
returns-in_err-items-clause-accepted g c =
    reports_stopped c.args.limits _ _ c.from_residual.result c.in_err-items.field-0.0 c.from_residual.ensures.1
    c.in_err-items.ensures.stops

pub returns-in_err-items-clause-canonical : goal.returns-in_err-items-clause-canonical
returns-in_err-items-clause-canonical g c =
    reports_canonical c.args.limits _ _ c.from_residual.result (reports_stopped c.args.limits _ _ c.from_residual.result
    c.in_err-items.field-0.0 c.from_residual.ensures.1 c.in_err-items.ensures.stops)

pub returns-in-Err-clause-stops : goal.returns-in-Err-clause-stops
returns-in-Err-clause-stops g c = whole_lacks_room c.args.limits _ _ c.in_ok-items.items.items c.in_ok-items.ensures.all

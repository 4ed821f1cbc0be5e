use Rattle.std.proofs.Common.{sym, ap, ◌∙◌}
use Rattle.cwr_delivery.specs.Format.Laws.{is_no_answer}
use Rattle.cwr_delivery.proofs.lemmas.FoundPlaces.{stands_answers}
use Rattle.cwr_delivery.proofs.laws.others_answer_none.Goals as goal

pub returns : goal.returns
returns c = λ by_place sent a none i f h.
    let e = sym none ∙ ap is_no_answer (stands_answers by_place sent a i f h) in cc

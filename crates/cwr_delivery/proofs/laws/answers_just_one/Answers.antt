use Rattle.cwr_delivery.proofs.lemmas.FoundPlaces.{answers_stands, stands_answers}
use Rattle.cwr_delivery.proofs.laws.answers_just_one.Goals as goal

pub returns-clause-agreeing : goal.returns-clause-agreeing
returns-clause-agreeing c = stands_answers

pub returns-clause-answered : goal.returns-clause-answered
returns-clause-answered c = answers_stands

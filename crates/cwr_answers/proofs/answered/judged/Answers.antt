use Rattle.std.proofs.Common.{sym, ap, ◌∙◌}
use Rattle.cwr_answers.specs.Steps.Seeking.{judged_by}
use Rattle.cwr_answers.proofs.lemmas.AnsweredPlaces.{judged_else}
use Rattle.cwr_answers.proofs.answered.judged.Goals as goal

pub returns-in-Failed : goal.returns-in-Failed
returns-in-Failed c = ap (judged_by c.args.whole c.args.outcome) (sym c.in-Failed.is)

pub returns-in_default : goal.returns-in_default
returns-in_default c = c.judgement_of.ensures ∙ judged_else c.args.whole c.args.outcome c.args.look c.in_default.not-Failed

use Rattle.std.proofs.Common.{ℕ, sym, subst}
use Rattle.std.specs.Prelude.{Result, Ok, Err, OnOk}
use Rattle.cwr_judge.specs.Format.Items.{records_in}
use Rattle.cwr_encode.specs.declared.encoders.EncodeFault.{EncodeFault}
use Rattle.cwr_parts.specs.Format.Joins.{joined_inputs}
use Rattle.cwr_tools.specs.declared.totals.Totals.{Totals}
use Rattle.cwr_tools.specs.declared.verdicts.JoinFault.{JoinFault}
use Rattle.cwr_tools.specs.declared.verdicts.JoinReport.{JoinReport}
use Rattle.cwr_parts.specs.Steps.Joined.{IsAnswerOf}
use Rattle.cwr_parts.proofs.lemmas.JoinsEnded.{ends_join, few_before_end, no_mistake_at_end}
use Rattle.cwr_parts.proofs.joined.Joined.finish.Goals as goal

pub answer_of-requires-clause-few : goal.answer_of-requires-clause-few
answer_of-requires-clause-few g c = few_before_end g.W.Target.contents c.args.inputs c.args.self c.requires.all

pub answer_of-requires-clause-no_mistake : goal.answer_of-requires-clause-no_mistake
answer_of-requires-clause-no_mistake g c =
    no_mistake_at_end g.W.Target.contents c.args.inputs c.args.self c.finish-writer.result.1 c.requires.all
    (c.finish-writer.ensures.judged c.requires.unfailed c.requires.all.start (records_in (joined_inputs c.requires.all.inputs))
    c.requires.all.joined.encodes)

pub returns-clause-ends : goal.returns-clause-ends
returns-clause-ends g c =
    ends_join g.W.Target.contents g.W.Target.failures c.args.inputs c.args.self c.finish-writer.result.0 c.finish-writer.result.1
    c.answer_of.result
    c.answer_of.ensures (c.finish-writer.ensures.finishes c.requires.unfailed) c.finish-writer.ensures.unlimited

-- what holds where the encoder finished well holds where the join does
where_joined : (outcome : Result ℕ EncodeFault) (counts : Totals) (inputs : ℕ) (result : Result JoinReport JoinFault) (P : Type 0)
    → IsAnswerOf outcome counts inputs result → OnOk outcome P → OnOk result P
where_joined (Ok n) counts inputs result P e p = subst (λ (r : Result JoinReport JoinFault). OnOk r P) (sym e) p
where_joined (Err other) counts inputs result P e p = subst (λ (r : Result JoinReport JoinFault). OnOk r P) (sym e.2) tt

pub returns-clause-handed_on : goal.returns-clause-handed_on
returns-clause-handed_on g c =
    where_joined c.finish-writer.result.1 _ c.args.inputs c.answer_of.result _ c.answer_of.ensures
    c.finish-writer.ensures.handed_on

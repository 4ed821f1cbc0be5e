use Rattle.std.proofs.Common.{List, sym, ap, subst, ◌∙◌}
use Rattle.cwr_lines.specs.Format.Records.{RecordValue}
use Rattle.cwr_advice.specs.Steps.Kept.{AreSinceParty, stands_again}
use Rattle.cwr_advice.proofs.lemmas.CalmRecords.{front_taken}
use Rattle.cwr_advice.proofs.kept.AdviceSums.may_break.Goals as goal

pub returns : goal.returns
returns c = λ rs h no.
    let r = c.args.shown.now in
    record {
      alone = c.requires;
      twice =
          ap (λ (l : List RecordValue). stands_again l r) (front_taken rs r)
          ∙ sym (c.stands_again.ensures rs (subst (AreSinceParty rs) (sym c.as_slice.ensures.value) h.territories))
          ∙ c.if-stands_again.false;
      chain = c.may_begin_chain.ensures rs h.chain no;
      writer = c.may_name_other.ensures rs h.writer c.if-may_name_other.false;
    }
